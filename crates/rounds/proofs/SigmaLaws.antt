-- mu, the largest magnitude of an area, as a float: that it is as small as each number, and that sigma = 2^(M + e) is a power of two of the format.
-- Assumes nothing.
use Rattle.std.specs.Prelude.{◌≡◌, List, ℕ, ◌+◌, ◌^◌, ◌≤◌, ◌<◌, Float}
use Rattle.std.proofs.Common.{arith}
use Rattle.std.specs.Float.{Format}
use Rattle.lists.specs.Each.{Each, each_weaker}
use Rattle.units.specs.Rounding.{ceil}
use Rattle.units.proofs.Ceiling.{ceil_least}
use Rattle.exponent.specs.Power.{powers}
use Rattle.exponent.proofs.PowerLaws.{power_number, power_negative, power_magnitude}
use Rattle.extract.specs.Extract.{largest}
use Rattle.extract.specs.ExtractLaws.{largest_le}
use Rattle.extract.specs.LargestLaws.{Positive}
use Rattle.judge.specs.Table.{size_of}
use Rattle.kinds.specs.Limits.{Width, exponent_of}
use Rattle.rounds.specs.Round.{sigma_of}
use Rattle.rounds.specs.Fitting.{Fitting}
use Rattle.rounds.specs.InUnits.{Small}

pub mu_small : (f : Format) {mu : Float} {most : ℕ} (xs : List Float) → Positive f mu (largest f xs) → Each (Small f most) xs → Small f most mu
mu_small f {most = most} xs P h =
    let l : largest f xs ≤ most = largest_le f most xs (each_weaker _ _ (λ x X. X.within) xs h) in
    record { number = P.number; within = omega (arith, P.units) }

pub sigma_exists : {W : Width} → Fitting W → (n mu : ℕ) → n ≤ W.length → mu ≤ size_of W W.magnitude → exponent_of n + ceil mu < powers W.format
sigma_exists F n mu few small =
    let m : mu ≤ 2 ^ F.top = rw F.top_is at small in
    omega (arith, F.room, F.most_is n few, ceil_least m)

-- of what the code has found
pub found_exists : {W : Width} → Fitting W → {a b n mu : ℕ} → a ≡ exponent_of n → b ≡ ceil mu → n ≤ W.length → mu ≤ size_of W W.magnitude
    → a + b < powers W.format
found_exists F {n = n} {mu} i j few small = rw (i, j) (sigma_exists F n mu few small)

pub sigma_positive : {W : Width} → Fitting W → (n mu : ℕ) → n ≤ W.length → mu ≤ size_of W W.magnitude
    → Positive W.format (sigma_of W.format n mu) (2 ^ (exponent_of n + ceil mu))
sigma_positive {W} F n mu few small =
    let inside = sigma_exists F n mu few small in
    record { number = power_number W.format inside; sign = power_negative W.format inside; units = power_magnitude W.format inside }
