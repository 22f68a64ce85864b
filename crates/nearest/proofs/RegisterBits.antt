-- The bits of the float nearest to a register, from the sign of its top word and the head of its magnitude. Assumes nothing.
use Rattle.std.specs.Prelude.{◌≡◌, ℕ, zero, suc, ◌-◌, ◌*◌, ◌^◌, ◌<◌, ◌≤◌, Bool, true, false, ◌&&◌, List, length, pos, ◌==◌, slice_index, unsigned_abs, refl}
use Rattle.std.proofs.Common.{sym, ap, ◌∙◌, inl, inr, not-le_of_lt, lt_of_lt_of_le, arith, ne_eqb, lit<, pow_pos}
use Rattle.std.specs.Float.{Format}
use Rattle.units.proofs.Powers.{le_or_lt}
use Rattle.ieee.specs.Units.{sign_of, rounded_bits}
use Rattle.nearest.proofs.NearestBits.{bits_zero}
use Rattle.lists.specs.Digits.{number, Digits}
use Rattle.lists.specs.DigitLaws.{number_lt}
use Rattle.lists.proofs.TwosComplement.{signed_low, signed_high}
use Rattle.lists.proofs.Magnitude.{magnitude_negative, top_digit_lem}
use Rattle.words.specs.Words.{word_bits, word_count, register_bits, whole_of}
use Rattle.nearest.specs.Head.{head_of}
use Rattle.nearest.proofs.BitsLaws.{head_bits_lem}
use Rattle.nearest.specs.Bits.{bits_of, head_bits}

sign_positive : (z : Bool) (u : ℕ) → sign_of z (pos u) ≡ (z && u == 0)
sign_positive false zero = refl
sign_positive true zero = refl
sign_positive false (suc u) = refl
sign_positive true (suc u) = sym (ne_eqb (suc u) 0 (λ e. omega (arith, e)))

module _ (f : Format) (ds : List ℕ) (l : length ds ≡ word_count) (D : Digits word_bits ds) where
  pub bits_positive : (z : Bool) (p : ℕ) → slice_index ds (word_count - 1) < 2 ^ (word_bits - 1) → p ≡ head_bits f (head_of (number word_bits ds))
      → record { negative = z && (p == 0); magnitude = p } ≡ bits_of f z (whole_of ds)
  bits_positive z p h e = rw (whole, sign_positive z (number word_bits ds), ← (bits_zero f (number word_bits ds)), ← rounded)
    where
      whole : whole_of ds ≡ pos (number word_bits ds)
      whole = signed_low register_bits ((top_digit_lem ds (word_count - 1) (lit< tt) l D).0 h)

      rounded : p ≡ rounded_bits f false (number word_bits ds)
      rounded = e ∙ head_bits_lem f (number word_bits ds)

  module _ (h : 2 ^ (word_bits - 1) ≤ slice_index ds (word_count - 1)) where
    half_or_more : 2 ^ (register_bits - 1) ≤ number word_bits ds
    half_or_more = elim (le_or_lt (2 ^ (register_bits - 1)) (number word_bits ds)) [
      | inl g ↦ g
      | inr g ↦ absurd (not-le_of_lt ((top_digit_lem ds (word_count - 1) (lit< tt) l D).1 g) h)
    ]

    pub not_zero : 0 < number word_bits ds
    not_zero = lt_of_lt_of_le (pow_pos (register_bits - 1)) half_or_more

    pub bits_negative : (z : Bool) (p v : ℕ) → v ≡ 2 ^ (word_bits * length ds) - number word_bits ds → p ≡ head_bits f (head_of v)
        → record { negative = true; magnitude = p } ≡ bits_of f z (whole_of ds)
    bits_negative z p v e g = λ i. record { negative = sign i; magnitude = rounded i }
      where
        sign : true ≡ sign_of z (whole_of ds)
        sign = sym (ap (sign_of z) (signed_high register_bits half_or_more))

        below : number word_bits ds < 2 ^ register_bits
        below = rw l at (number_lt word_bits ds D)

        magnitude : v ≡ unsigned_abs (whole_of ds)
        magnitude =
            e
            ∙ ap (λ (n : ℕ). 2 ^ (word_bits * n) - number word_bits ds) l
            ∙ sym (magnitude_negative register_bits (number word_bits ds) half_or_more below)

        rounded : p ≡ rounded_bits f false (unsigned_abs (whole_of ds))
        rounded = g ∙ head_bits_lem f v ∙ ap (rounded_bits f false) magnitude
