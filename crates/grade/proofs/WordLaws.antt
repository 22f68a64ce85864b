-- The words before and after the nearest double is taken out: its pattern, what is left, the sign of that, and on which side of S the nearest stands.
-- Assumes nothing.
use mathlib.Core.Path.{◌≡◌, refl, sym, ap, ◌∙◌}
use mathlib.Core.Logic.{inl, inr}
use mathlib.Core.Bool.{Bool, true, false, cond}
use mathlib.Core.List.{List}
use Prim.Native.Nat.{ℕ, zero, suc, ◌+◌, ◌-◌, ◌^◌, ◌≤◌, ◌<◌}
use native.Mathlib.Nat.{not-le_of_lt, lt_of_le_of_lt}
use native.Mathlib.Omega.{arith}
use borrow.Author.Tests.{le-leb, lt-leb, eqb-true, eqb-false}
use lib.Dec.{T, leb, eqb, lit<}
use lib.IntN.{ℤ, pos, negsuc, ◌-ℤ◌, nat_abs}
use lib.ListN.{length, get_or}
use lib.Ieee.{Float, Format, binary64, top, of_bits, to_bits}
use lib.Ieee.Bits.{of_bits-to_bits}
use lib.Ieee.Scale.{finite}
use Rattle.units.specs.Whole.{◌⊖◌, ◌≈◌, difference}
use Rattle.units.proofs.Powers.{le_or_lt}
use Rattle.units.proofs.Integers.{mag_difference}
use Rattle.ieee.specs.Units.{Number, magnitude, signed_whole, value, whole, sign_of, limit}
use Rattle.ieee.proofs.Overflow.{nearest_negative}
use Rattle.ieee.proofs.Nearest.{nearest_number}
use Rattle.ieee.proofs.PatternBounds.{bits_units}
use Rattle.lists.specs.Digits.{number, Digits}
use Rattle.lists.proofs.TwosComplement.{signed_low, signed_high}
use Rattle.lists.proofs.Magnitude.{top_digit_lem}
use Rattle.kinds.specs.Limits.{doubles}
use Rattle.words.specs.Words.{word_bits, word_count, register_bits, whole_of, words_of}
use Rattle.addend.specs.Addend.{units_of}
use Rattle.sums.specs.PartsLaws.{left_smaller}
use Rattle.sums.proofs.SumLaws.{whole_words}
use Rattle.sums.proofs.AnswerLaws.{whole_zero}
use Rattle.grade.specs.Grade.{near, other_side}
use Rattle.grade.proofs.Distances.{what_is_left, is_sum, sum_is}
use Rattle.grade.proofs.CaseLaws.{side_away, side_back}
use Rattle.grade.proofs.SideLaws.{near_signed, near_sum}

-- ---- the sign of words, from the top one
sign_positive : (n : ℕ) → sign_of false (pos n) ≡ false
sign_positive zero = refl
sign_positive (suc n) = refl

pub top_word : (ds : List ℕ) → length ds ≡ word_count → Digits word_bits ds
    → leb (2 ^ (word_bits - 1)) (get_or ds (word_count - 1) 0) ≡ sign_of false (whole_of ds)
top_word ds l D = elim (le_or_lt (2 ^ (word_bits - 1)) (get_or ds (word_count - 1) 0)) [
  | inr h ↦
      lt-leb (2 ^ (word_bits - 1)) (get_or ds (word_count - 1) 0) h
      ∙ sym (ap (sign_of false) (signed_low register_bits ((top_digit_lem ds (word_count - 1) (lit< tt) l D).0 h)) ∙ sign_positive (number word_bits ds))
  | inl h ↦ le-leb (2 ^ (word_bits - 1)) (get_or ds (word_count - 1) 0) h ∙ sym (ap (sign_of false) (signed_high register_bits (half h)))
]
  where
    half : 2 ^ (word_bits - 1) ≤ get_or ds (word_count - 1) 0 → 2 ^ (register_bits - 1) ≤ number word_bits ds
    half h = elim (le_or_lt (2 ^ (register_bits - 1)) (number word_bits ds)) [
      | inl g ↦ g
      | inr g ↦ absurd (not-le_of_lt ((top_digit_lem ds (word_count - 1) (lit< tt) l D).1 g) h)
    ]

-- ---- what is missing, by its sign: p + 1 where the nearest falls short of S, which is away from zero, and p - 1 where it doesn't
abbrev stepped : Bool → Bool → ℕ → ℕ
stepped s below p = cond s (cond below (p + 1) (p - 1)) (cond below (p - 1) (p + 1))

module _ (p m : ℕ) where
  away : (S left : ℤ) → difference left ≈ difference S ⊖ signed_whole (sign_of false S) m → m < nat_abs S
      → stepped (sign_of false S) (sign_of false left) p ≡ p + 1
  away (pos zero) left d h = absurd (omega arith)
  away (pos (suc n)) (pos zero) d h = refl
  away (pos (suc n)) (pos (suc k)) d h = refl
  away (pos (suc n)) (negsuc k) d h = absurd (omega arith)
  away (negsuc n) (pos k) d h = absurd (omega arith)
  away (negsuc n) (negsuc k) d h = refl

  back : (S left : ℤ) → difference left ≈ difference S ⊖ signed_whole (sign_of false S) m → nat_abs S < m
      → stepped (sign_of false S) (sign_of false left) p ≡ p - 1
  back (pos zero) (pos k) d h = absurd (omega arith)
  back (pos zero) (negsuc k) d h = refl
  back (pos (suc n)) (pos k) d h = absurd (omega arith)
  back (pos (suc n)) (negsuc k) d h = refl
  back (negsuc n) (pos zero) d h = refl
  back (negsuc n) (pos (suc k)) d h = refl
  back (negsuc n) (negsuc k) d h = absurd (omega arith)

module _ (S : ℤ) (l : nat_abs S < limit binary64) {p : ℕ} (e : p ≡ to_bits binary64 (near binary64 S)) where
  abbrev f : Format
  f = binary64

  N : Number f (near f S)
  N = nearest_number f false S l

  pub near_back : of_bits binary64 p ≡ near binary64 S
  near_back = ap (of_bits f) e ∙ of_bits-to_bits f (near f S) N.fit

  pub near_finite : T (finite (of_bits binary64 p))
  near_finite = rw near_back N.fini

  -- ---- what is left of S
  module _ {ws : List ℕ} (w : ws ≡ words_of (S -ℤ units_of doubles p)) where
    pub words_left : whole_of ws ≡ S -ℤ value binary64 (near binary64 S)
    words_left =
        ap whole_of (w ∙ ap (λ (x : Float). words_of (S -ℤ value f x)) near_back)
        ∙ whole_words f (S -ℤ value f (near f S)) (lt_of_le_of_lt (left_smaller f false S l) l)

    -- nothing, exactly where the nearest is S
    pub nothing_left : eqb (number word_bits ws) 0 ≡ true → value binary64 (near binary64 S) ≡ S
    nothing_left t =
        let z : nat_abs (whole_of ws) ≡ 0 = eqb-true (nat_abs (whole_of ws)) 0 (sym (whole_zero ws) ∙ t) in
        let d : difference (whole_of ws) ≈ difference S ⊖ whole f (near f S) = rw (← words_left) at (what_is_left f (near f S) S) in
        is_sum f (near f S) S (omega (arith, mag_difference (whole_of ws)))

    pub something_left : eqb (number word_bits ws) 0 ≡ false → value binary64 (near binary64 S) ≡ S → ⊥
    something_left n e =
        let d : difference (whole_of ws) ≈ difference S ⊖ whole f (near f S) = rw (← words_left) at (what_is_left f (near f S) S) in
        let z : nat_abs (whole_of ws) ≡ 0 = omega (arith, mag_difference (whole_of ws), sum_is f (near f S) S e) in
        eqb-false (nat_abs (whole_of ws)) 0 (sym (whole_zero ws) ∙ n) z

    -- ---- the side that is asked for
    pub side_is : (value binary64 (near binary64 S) ≡ S → ⊥)
        → cond (leb (top binary64) p) (cond (sign_of false (whole_of ws)) (p + 1) (p - 1)) (cond (sign_of false (whole_of ws)) (p - 1) (p + 1))
        ≡ other_side binary64 S
    side_is d = rw (words_left, sign_bit) (elim (le_or_lt (nat_abs S) m) [
      | inr h ↦ away p m S (S -ℤ value f (near f S)) left h ∙ ap (λ (b : ℕ). b + 1) e ∙ sym (side_away f S h)
      | inl h ↦ back p m S (S -ℤ value f (near f S)) left (omega (arith, unequal)) ∙ ap (λ (b : ℕ). b - 1) e ∙ sym (side_back f S h)
    ])
      where
        m : ℕ
        m = magnitude f (near f S)

        sign_bit : leb (top f) p ≡ sign_of false S
        sign_bit = ap (leb (top f)) e ∙ sym (bits_units N).0 ∙ nearest_negative f false S l

        unequal : nat_abs S ≡ m → ⊥
        unequal i = d (near_sum f S l (sym i))

        left : difference (S -ℤ value f (near f S)) ≈ difference S ⊖ signed_whole (sign_of false S) m
        left = rw (near_signed f S l) at (what_is_left f (near f S) S)
