-- `octets::little::write` meets its contract: the kit's bytes of a number are those of the definition. Assumes nothing.
use Rattle.std.proofs.Common.{◌≡◌, ◌+◌, ◌-◌, ◌∙◌, arith, drop-drop}
use Rattle.octets.proofs.OctetsLaws.{to_kit}
use Rattle.octets.proofs.little.write.Goals as goal

pub returns : goal.returns
returns c =
    let a = c.args in
    let e : a.at + 8 - a.at ≡ 8 = omega arith in
    rw (e, c.copy_from_slice.ensures.after, c.to_le_bytes.ensures ∙ to_kit a.v, drop-drop 8 a.at a.bytes.now)
