-- `lines::line::three` meets its contract: the lines one behind the other, of which 72 bytes hold the longest. Assumes nothing.
use Rattle.std.proofs.Common.{arith}
use Rattle.numerals.proofs.TextLaws.{put_room, put_behind}
use Rattle.lines.proofs.LineLaws.{count_length, faithful_length, counted_length, rounds_length}
use Rattle.lines.proofs.line.three.Goals as goal

pub count-requires : goal.count-requires
count-requires c = omega (arith, counted_length c.args.n c.requires.0)

pub faithful-requires : goal.faithful-requires
faithful-requires c =
    let a = c.args in
    let counted = put_room 61 (omega (arith, count_length a.n, counted_length a.n c.requires.0)) c.count.ensures in
    omega (arith, counted, rounds_length a.rounds c.requires.1)

pub nearest-requires : goal.nearest-requires
nearest-requires c =
    let a = c.args in
    let counted = put_room 61 (omega (arith, count_length a.n, counted_length a.n c.requires.0)) c.count.ensures in
    let room = rounds_length a.rounds c.requires.1 in
    put_room 25 (rw faithful_length (omega (arith, counted, room))) c.faithful.ensures

pub returns : goal.returns
returns c = put_behind (omega arith) (put_behind (omega arith) c.count.ensures c.faithful.ensures) c.nearest.ensures
