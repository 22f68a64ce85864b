-- `lines::line::count` meets its contract: its pieces, one behind the other, are the line. Assumes nothing.
use Rattle.std.proofs.Common.{arith, rules}
use Rattle.lines.specs.Lines.{count_line}
use Rattle.numerals.specs.Put.{Put}
use Rattle.numerals.proofs.TextLaws.{put_room, put_behind}
use Rattle.lines.proofs.line.count.Goals as goal

pub put-requires : goal.put-requires
put-requires c = put_room 1 (omega arith) c.decimal.ensures.longer

pub returns : goal.returns
unfolding count_line
returns c =
    let all : Put (count_line c.args.n) c.args.text.now c.put.result.now = put_behind (omega arith) c.decimal.ensures.longer c.put.ensures.longer in
    search rules
