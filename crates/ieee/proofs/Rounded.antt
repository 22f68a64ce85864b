-- lib.Ieee's rounding of a whole number of units is `rnd` at the format's precision, or an infinity from 2 ^ (emax + 1) on. Assumes nothing.
use Rattle.std.specs.Prelude.{◌≡◌, refl, Bool, true, false, cond, ℕ, suc, ◌-◌, ◌*◌, ◌^◌, ◌≤◌, ◌<◌, T, ltb}
use Rattle.std.proofs.Common.{ap, ◌∙◌, not-le_of_lt, mul_assoc, mul-div_cancel, mul-pos, ltb→lt, pow_pos}
use Rattle.std.specs.Float.{inf, Format}
use Rattle.std.specs.Float.Ieee.{prec, low, size, odd, units, round}
use Rattle.std.specs.Float.Ieee.Fits.{core, round_is, two, two-le_pos}
use Rattle.std.specs.Float.Ieee.Exact.{units_val}
use Rattle.std.specs.Float.Ieee.Nearest.{closest, closest_same}
use Rattle.std.specs.Float.Ieee.Scale.{overflow}
use Rattle.units.specs.Rounding.{dropped, rnd}
use Rattle.ieee.specs.Units.{Is}

pub prec_pos : (f : Format) → 0 < prec f
prec_pos f = two-le_pos (prec f) (two f)

-- a whole number of units, as lib.Ieee rounds it
round_units : (f : Format) (s : Bool) (n : ℕ) → round f s n (2 ^ low f) ≡ units f s (closest n (2 ^ dropped (prec f) n)) (dropped (prec f) n)
unfolding dropped
round_units f s n =
    let l = 2 ^ low f in
    let k = size n - prec f in
    round_is f s n l
    ∙ ap (λ (z : ℕ). core f s (n * l) l (size z - prec f)) (mul-div_cancel n (pow_pos (low f)))
    ∙ ap (λ (z : ℕ). units f s z k) (closest_same (n * l) (l * 2 ^ k) n (2 ^ k) (mul-pos (pow_pos (low f)) (pow_pos k)) (pow_pos k) (mul_assoc n l (2 ^ k)))

pub round_value : (f : Format) (s : Bool) (n : ℕ) → rnd (prec f) n < overflow f → Is f (round f s n (2 ^ low f)) s (rnd (prec f) n)
unfolding rnd
round_value f s n h = rw (round_units f s n) (units_val f s (closest n (2 ^ dropped (prec f) n)) (dropped (prec f) n) h)

pub round_overflow : (f : Format) (s : Bool) (n : ℕ) → overflow f ≤ rnd (prec f) n → round f s n (2 ^ low f) ≡ inf s
unfolding rnd units
round_overflow f s n h = round_units f s n ∙ go (ltb (rnd (prec f) n) (overflow f)) (ltb→lt (rnd (prec f) n) (overflow f))
  where
    k : ℕ
    k = dropped (prec f) n

    go : (b : Bool) → (T b → rnd (prec f) n < overflow f) → cond b (odd (suc (prec f)) s (closest n (2 ^ k)) k (low f)) (inf s) ≡ inf s
    go true l = absurd (not-le_of_lt (l tt) h)
    go false l = refl
