-- The pattern of a rounded number, and back. Assumes nothing.
use Rattle.std.specs.Prelude.{◌≡◌, Bool, cond, ℕ, ◌+◌, ◌-◌, ◌*◌, ◌/◌, ◌^◌, ◌<◌, Float}
use Rattle.std.proofs.Common.{ap, add_assoc}
use Rattle.std.specs.Float.{Format}
use Rattle.std.specs.Float.Ieee.{prec, low, hid, top, round, to_bits, of_bits}
use Rattle.std.specs.Float.Ieee.Fits.{round-fits}
use Rattle.std.specs.Float.Ieee.Bits.{of_bits-to_bits}
use Rattle.std.specs.Float.Ieee.Scale.{overflow}
use Rattle.units.specs.Rounding.{dropped, rnd}
use Rattle.ieee.specs.Units.{Is, negative, magnitude, rounded_bits}
use Rattle.ieee.proofs.Finite.{is_units, is_finite, bits_are}
use Rattle.ieee.proofs.Rounded.{round_value, prec_pos}
use Rattle.ieee.proofs.Write.{fields_rounded}

pub round_bits : (f : Format) (s : Bool) (n : ℕ) → rnd (prec f) n < overflow f → to_bits f (round f s n (2 ^ low f)) ≡ rounded_bits f s n
unfolding dropped
round_bits f s n h =
    rw (bits_are f x (is_finite f x s m is), u.0, u.1, add_assoc (cond s (top f) 0) (dropped (prec f) m * hid f) (m / 2 ^ dropped (prec f) m))
    (ap (λ (z : ℕ). cond s (top f) 0 + z) (fields_rounded (prec f) (prec_pos f) n))
  where
    x : Float
    x = round f s n (2 ^ low f)

    m : ℕ
    m = rnd (prec f) n

    is : Is f x s m
    is = round_value f s n h

    u : (negative x ≡ s) × (magnitude f x ≡ m)
    u = is_units f x s m is

-- and back: the pattern is read as the rounded float
pub bits_round : (f : Format) (s : Bool) (n : ℕ) → rnd (prec f) n < overflow f → of_bits f (rounded_bits f s n) ≡ round f s n (2 ^ low f)
bits_round f s n h = rw (← (round_bits f s n h)) (of_bits-to_bits f (round f s n (2 ^ low f)) (round-fits f s n (2 ^ low f)))
