-- `octets::little::pack` meets its contract: the bytes passed are those of the first i numbers. Assumes nothing.
use Rattle.std.proofs.Common.{◌∙◌, arith}
use Rattle.octets.specs.Octets.{little_endian}
use Rattle.octets.proofs.OctetsLaws.{little_length}
use Rattle.octets.proofs.EightsLaws.{joined_none, joined_next}
use Rattle.octets.proofs.little.pack.Goals as goal

pub loop-i-init : goal.loop-i-init
loop-i-init c = rw (joined_none (little_endian 8))

pub loop-i-preserved : goal.loop-i-preserved
loop-i-preserved c =
    let a = c.args in
    c.write.ensures ∙ rw c.loop-i.invariant (joined_next (little_endian 8) (little_length 8) a.numbers.now a.bytes.now c.loop-i.i (omega arith))
