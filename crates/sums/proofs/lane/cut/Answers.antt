-- `sums::lane::cut` meets its contract: the lowest digit, and what is above it. Assumes nothing.
use mathlib.Core.Path.{refl}
use Prim.Native.Nat.{ℕ, ◌+◌, ◌-◌, ◌*◌, ◌/◌, ◌%◌, ◌^◌, ◌≤◌, ◌<◌}
use native.Mathlib.Nat.{le_of_lt, lt_of_lt_of_le}
use native.Mathlib.Omega.{arith}
use lib.Pow.{mod-mod-pow, split, pow_mono, shr_lt}
use Rattle.lists.proofs.WordShifts.{shifted_above}
use Rattle.sums.proofs.lane.cut.Goals as goal

-- at most 2 ^ 52 is left above 32 digits of 53 that were shifted by less than 32
left_above : (m s : ℕ) → m < 2 ^ 53 → s < 32 → m / 2 ^ (32 - s) ≤ 2 ^ 52
left_above m s h k =
    let e : m < 2 ^ (52 + (32 - s)) = lt_of_lt_of_le h (pow_mono {i = 53} {j = 52 + (32 - s)} (omega arith)) in
    le_of_lt (shr_lt 52 (32 - s) e)

pub returns : goal.returns
returns c =
    let m = c.args.m in
    let s : ℕ = c.args.q / 2 ^ 52 % 32 in
    let small : s < 32 = omega arith in
    let low = mod-mod-pow (m * 2 ^ s) 32 32 in (
      refl,
      rw (low, shifted_above 32 m s (omega arith)) (omega (arith, split (m * 2 ^ s) 32)),
      omega arith,
      left_above m s c.requires small,
    )
