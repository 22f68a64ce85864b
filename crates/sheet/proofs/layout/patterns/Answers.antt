-- `sheet::layout::patterns` meets its contract: behind the five bytes of a header stand the first i patterns' bytes. Assumes nothing.
use Rattle.std.proofs.Common.{sym, ◌∙◌, arith, take, take-append-drop, length-take-le}
use Rattle.octets.specs.Octets.{big_endian}
use Rattle.octets.proofs.OctetsLaws.{big_length}
use Rattle.octets.proofs.EightsLaws.{joined_none, joined_behind}
use Rattle.sheet.proofs.layout.patterns.Goals as goal

pub loop-i-init : goal.loop-i-init
loop-i-init c = rw joined_none (sym (take-append-drop 5 c.args.sheet.now))

pub loop-i-preserved : goal.loop-i-preserved
loop-i-preserved c =
    let a = c.args in
    let s = a.sheet.now in
    c.write_big_endian.ensures
    ∙ rw c.loop-i.invariant
    (joined_behind (big_endian 8) (big_length 8) (take 5 s) 5 (length-take-le 5 s (omega arith)) a.list.now s c.loop-i.i (omega arith))
