-- A round that takes sigma from mu, as an opening and a restart do, is one of a run. Assumes nothing.
use Rattle.std.specs.Prelude.{◌≡◌, refl, false, List, [], ◌∷◌, ℕ, zero, suc, ◌+◌, ◌-◌, ◌*◌, ◌^◌, ◌≤◌, ◌<◌, length, Float}
use Rattle.std.proofs.Common.{arith}
use Rattle.std.proofs.lemmas.Bool.{eqb-false}
use Rattle.std.specs.Float.{Format}
use Rattle.std.specs.Float.Ieee.{prec}
use Rattle.units.specs.Rounding.{ceil}
use Rattle.units.proofs.Ceiling.{ceil_ge}
use Rattle.ieee.specs.Units.{magnitude}
use Rattle.lists.specs.Each.{Each, each_weaker, each_both}
use Rattle.kinds.specs.Limits.{Width, exponent_of}
use Rattle.extract.specs.Extract.{largest}
use Rattle.extract.specs.ExtractLaws.{largest_bounds, largest_none}
use Rattle.extract.specs.LargestLaws.{zero_positive}
use Rattle.exponent.specs.Power.{powers}
use Rattle.exponent.proofs.PowerLaws.{power_number, power_negative, power_magnitude}
use Rattle.rounds.specs.Round.{all_zero, fresh_round}
use Rattle.rounds.specs.Fitting.{Fitting}
use Rattle.rounds.specs.InUnits.{Small}
use Rattle.rounds.specs.Begun.{Begun}

pub exponent_some : (n : ℕ) → 0 < exponent_of n
exponent_some n = positive (exponent_of n) (ceil_ge (n + 2))
  where
    positive : (M : ℕ) → n + 2 ≤ 2 ^ M → 0 < M
    positive zero h = absurd (omega arith)
    positive (suc M) h = omega arith

-- ---- rule WO3, with t = +0: mu is at least every magnitude
module _ {W : Width} {F : Fitting W} {n rounds ensemble : ℕ} {xs : List Float} (mu : ℕ) where
  pub begins : 1 ≤ n → n ≤ W.length → length xs ≡ n → Each (Small W.format mu) xs → rounds * (prec W.format - exponent_of n) + ceil mu ≤ F.top
      → Begun W F (ceil mu) (fresh_round W n mu rounds ensemble) xs
  begins some few count work lowered = record {
    some = some;
    few = few;
    count = count;
    lowered = lowered;
    scale = record {
      some = exponent_some n;
      few = omega (arith, M_most, F.half);
      room = omega (arith, M_most, lowered, F.room);
      power = record { number = power_number f inside; sign = power_negative f inside; units = power_magnitude f inside };
    };
    carried = record { number = (zero_positive f).number; within = omega (arith, (zero_positive f).units) };
    work = each_weaker (Small f mu) (Small f (2 ^ ceil mu)) (λ y Y. record { number = Y.number; within = omega (arith, Y.within, ceil_ge mu) }) xs work;
    tau = refl;
    pending = refl;
    largest = refl;
  }
    where
      f : Format
      f = W.format

      M_most : exponent_of n ≤ F.most
      M_most = F.most_is n few

      inside : exponent_of n + ceil mu < powers f
      inside = omega (arith, M_most, lowered, F.room)

-- the largest magnitude is
pub largest_small : (f : Format) (most : ℕ) (xs : List Float) → Each (Small f most) xs → Each (Small f (largest f xs)) xs
largest_small f most xs h =
    each_both (Small f most) (λ y. magnitude f y ≤ largest f xs) (Small f (largest f xs)) (λ y Y l. record { number = Y.number; within = l }) xs h
    (largest_bounds f xs)

pub some_left : (f : Format) (xs : List Float) → all_zero f xs ≡ false → 1 ≤ length xs
some_left f [] h = absurd (eqb-false _ 0 h (largest_none f))
some_left f (x ∷ xs) h = omega arith
