-- Bounds on patterns are bounds on magnitudes, and the pattern of a number. Assumes nothing.
use Rattle.std.specs.Prelude.{◌≡◌, ◌↔◌, leb, ltb, Float}
use Rattle.std.proofs.Common.{arith, lt→ltb, ltb→lt}
use Prim.Native.Nat.{ℕ, ◌-◌, ◌*◌, ◌%◌, ◌^◌, ◌≤◌, ◌<◌}
use Rattle.std.proofs.Math.Dec.{T}
use Rattle.std.specs.Float.{Format}
use Rattle.std.specs.Float.Ieee.{hid, ones, top, of_bits, to_bits}
use Rattle.std.specs.Float.Ieee.Bits.{of_bits-fits, of_bits-to_bits}
use Rattle.std.specs.Float.Ieee.Scale.{finite}
use Rattle.ieee.specs.Units.{Between, Number, negative, magnitude, pattern_units}
use Rattle.ieee.proofs.Finite.{is_units}
use Rattle.ieee.proofs.Pattern.{pattern_is, pattern_finite, not_falling, pattern_le, magnitude_is}

module _ (f : Format) where
  pub finite_below : (b : ℕ) → T (finite (of_bits f b)) → b % top f < ones f * hid f
  finite_below b t = ltb→lt (b % top f) (ones f * hid f) (rw (pattern_finite f b) at t)

  pub pattern_within : (b L : ℕ) → L < ones f * hid f → (b % top f ≤ L) ↔ (T (finite (of_bits f b)) × (magnitude f (of_bits f b) ≤ pattern_units f L))
  pattern_within b L h = (there, back)
    where
      there : b % top f ≤ L → T (finite (of_bits f b)) × (magnitude f (of_bits f b) ≤ pattern_units f L)
      there k =
          let l : b % top f < ones f * hid f = omega arith in
          (rw (pattern_finite f b) (lt→ltb (b % top f) (ones f * hid f) l), rw (magnitude_is f b l) (not_falling f k))

      back : T (finite (of_bits f b)) × (magnitude f (of_bits f b) ≤ pattern_units f L) → b % top f ≤ L
      back k = (pattern_le f).1 (rw (magnitude_is f b (finite_below b k.0)) at k.1)

  pub pattern_between : (b L H l h : ℕ) → pattern_units f L ≡ 2 ^ l → pattern_units f H ≡ 2 ^ h → H < ones f * hid f
      → ((L ≤ b % top f) × (b % top f ≤ H)) ↔ Between f l h (of_bits f b)
  pattern_between b L H l h u v k = (there, back)
    where
      there : (L ≤ b % top f) × (b % top f ≤ H) → Between f l h (of_bits f b)
      there g =
          let w = (pattern_within b H k).0 g.1 in
          record {
            number = record { fit = of_bits-fits f b; fini = w.0 };
            least = rw (magnitude_is f b (finite_below b w.0), ← u) ((pattern_le f).0 g.0);
            most = rw (← v) w.1;
          }

      back : Between f l h (of_bits f b) → (L ≤ b % top f) × (b % top f ≤ H)
      back B = (
        (pattern_le f).1 (rw (u, ← (magnitude_is f b (finite_below b B.number.fini))) B.least),
        (pattern_within b H k).1 (B.number.fini, rw v B.most),
      )

  pub pattern_number : (b : ℕ) → b % top f < ones f * hid f → Number f (of_bits f b)
  pattern_number b h = record { fit = of_bits-fits f b; fini = rw (pattern_finite f b) (lt→ltb (b % top f) (ones f * hid f) h) }

-- ---- the pattern of a number: without its sign it is below the infinity's, and stands for the number's units
module _ {f : Format} {x : Float} (X : Number f x) where
  back : of_bits f (to_bits f x) ≡ x
  back = of_bits-to_bits f x X.fit

  pub bits_below : to_bits f x % top f < ones f * hid f
  bits_below = ltb→lt (to_bits f x % top f) (ones f * hid f) (rw (← (pattern_finite f (to_bits f x)), back) X.fini)

  pub bits_units : (negative x ≡ leb (top f) (to_bits f x)) × (magnitude f x ≡ pattern_units f (to_bits f x % top f))
  bits_units =
      let b = to_bits f x in
      rw back at (is_units f (of_bits f b) (leb (top f) b) (pattern_units f (b % top f)) (pattern_is f b bits_below))
