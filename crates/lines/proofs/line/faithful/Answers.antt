-- `lines::line::faithful` meets its contract: its pieces, one behind the other, are the line. Assumes nothing.
use Rattle.std.proofs.Common.{◌+◌, length, arith, rules}
use Rattle.lines.specs.Lines.{faithful_line}
use Rattle.numerals.specs.Numerals.{decimal_of}
use Rattle.numerals.specs.Put.{Put}
use Rattle.numerals.proofs.TextLaws.{put_room, put_behind}
use Rattle.lines.proofs.LineLaws.{hex_length}
use Rattle.lines.proofs.line.faithful.Goals as goal

pub decimal-requires : goal.decimal-requires
decimal-requires c =
    let a = c.args in
    rw c.from.ensures (omega (arith, put_room (8 + length (decimal_of a.rounds)) (omega (arith, hex_length a.p)) c.pattern.ensures.longer))

pub put-requires : goal.put-requires
put-requires c =
    let a = c.args in
    let room = put_room (9 + length (decimal_of a.rounds)) (omega (arith, hex_length a.p)) c.pattern.ensures.longer in
    put_room 1 (omega (arith, room)) (rw c.from.ensures at c.decimal.ensures.longer)

pub returns : goal.returns
unfolding faithful_line
returns c =
    let a = c.args in
    let all : Put (faithful_line a.p a.rounds) a.text.now c.put.result.now =
    put_behind (omega arith) (put_behind (omega arith) c.pattern.ensures.longer (rw c.from.ensures at c.decimal.ensures.longer)) c.put.ensures.longer in
    search rules
