-- `numerals::Text::decimal` meets its contract: the kit's digits are those of the definition, and stand behind the word. Assumes nothing.
use Rattle.std.proofs.Common.{◌+◌, ◌≤◌, rules, length, arith}
use Rattle.numerals.specs.Numerals.{decimal_of}
use Rattle.numerals.proofs.TextLaws.{put_room, put_behind}
use Rattle.numerals.proofs.NumeralLaws.{front_decimal}
use Rattle.numerals.proofs.Text.decimal.Goals as goal

pub put-requires-2 : goal.put-requires-2
put-requires-2 c =
    let e = front_decimal c.args.n c.decimal-k.result c.decimal-k.new.out c.decimal-k.ensures.len c.decimal-k.ensures.digits in
    let room : c.put.result.now.end + length (decimal_of c.args.n) ≤ length c.put.result.now.area.now =
    put_room (length (decimal_of c.args.n)) (omega arith) c.put.ensures.longer in
    rw e (search rules)

pub returns-clause-longer : goal.returns-clause-longer
returns-clause-longer c =
    let e = front_decimal c.args.n c.decimal-k.result c.decimal-k.new.out c.decimal-k.ensures.len c.decimal-k.ensures.digits in
    put_behind (omega arith) c.put.ensures.longer (rw e at c.put-2.ensures.longer)
