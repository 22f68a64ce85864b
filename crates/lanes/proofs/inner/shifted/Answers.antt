-- `lanes::inner::shifted` meets its contract: the lowest digit, and what is above it, in two digits. Assumes nothing.
use mathlib.Core.Path.{◌≡◌}
use Prim.Native.Nat.{◌+◌, ◌-◌, ◌*◌, ◌/◌, ◌%◌, ◌^◌, ◌≤◌}
use native.Mathlib.Nat.{div-add-mod'}
use native.Mathlib.Omega.{arith}
use lib.Dec.{lit<}
use lib.Pow.{mod-mod-pow, shr_le}
use Rattle.lanes.proofs.ThreeDigits.{lowest_and_above}
use Rattle.lanes.proofs.inner.shifted.Goals as goal

pub returns : goal.returns
returns c =
    let m = c.args.m in
    let e = c.args.e in
    let above = m / 2 ^ (32 - e % 32) in
    let small : above ≤ m = shr_le m (32 - e % 32) in
    let digits : above % 2 ^ 32 + above / 2 ^ 32 * 2 ^ 32 ≡ above = omega (arith, div-add-mod' above (2 ^ 32)) in
    record {
      within = omega arith;
      low = omega arith;
      middle = omega arith;
      high = omega (arith, c.requires);
      units = rw (mod-mod-pow (m * 2 ^ (e % 32)) 32 32, digits) (lowest_and_above 32 m e (lit< tt));
    }
