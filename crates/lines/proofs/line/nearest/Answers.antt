-- `lines::line::nearest` meets its contract: its pieces, one behind the other, are the line. Assumes nothing.
use Rattle.std.proofs.Common.{arith, rules}
use Rattle.lines.specs.Lines.{nearest_line}
use Rattle.numerals.specs.Put.{Put}
use Rattle.numerals.proofs.TextLaws.{put_room, put_behind}
use Rattle.lines.proofs.LineLaws.{hex_length}
use Rattle.lines.proofs.line.nearest.Goals as goal

pub put-requires : goal.put-requires
put-requires c = put_room 1 (omega (arith, hex_length c.args.p)) c.pattern.ensures.longer

pub returns : goal.returns
unfolding nearest_line
returns c =
    let all : Put (nearest_line c.args.p) c.args.text.now c.put.result.now = put_behind (omega arith) c.pattern.ensures.longer c.put.ensures.longer in
    search rules
