-- The grade of a claim, from what the code compares: the words that are left, the claim's pattern and the nearest's. Assumes nothing.
use mathlib.Core.Path.{◌≡◌, sym, ap, ◌∙◌}
use mathlib.Core.Logic.{inl, inr}
use mathlib.Core.Bool.{true, false, cond}
use mathlib.Core.List.{List}
use Prim.Native.Nat.{ℕ, ◌+◌, ◌-◌, ◌%◌, ◌^◌, ◌<◌}
use native.Mathlib.Nat.{eq-zero-or-pos}
use borrow.Author.Tests.{eqb-true, eqb-false}
use lib.Dec.{T, leb, eqb}
use lib.IntN.{ℤ, nat_abs, ◌-ℤ◌}
use lib.Ieee.{Float, Format, binary64, top, of_bits, to_bits}
use lib.Ieee.Scale.{finite}
use Rattle.ieee.specs.Units.{Number, value, sign_of, limit, pattern_units}
use Rattle.ieee.proofs.Nearest.{nearest_number}
use Rattle.ieee.proofs.Pattern.{no_units}
use Rattle.ieee.proofs.PatternBounds.{bits_units}
use Rattle.lists.specs.Digits.{number}
use Rattle.kinds.specs.Limits.{doubles}
use Rattle.words.specs.Words.{word_bits, whole_of, words_of}
use Rattle.addend.specs.Addend.{units_of}
use Rattle.grade.specs.Grade.{near, other_side, grade_at}
use Rattle.grade.proofs.Distances.{not_apart, apart_none}
use Rattle.grade.proofs.CaseLaws.{grade_exact, grade_missed, grade_near, grade_side, grade_off}
use Rattle.grade.proofs.SideLaws.{near_zero, no_number}
use Rattle.grade.specs.Graded.{Exact, Nearest, Faithful, Wrong}
use Rattle.grade.proofs.PatternLaws.{number_of, bits_of}
use Rattle.grade.proofs.WordLaws.{near_back, nothing_left, something_left, side_is}

-- c is the claim's pattern, p the nearest's, and ws the words that are left
module _ (S : ℤ) (l : nat_abs S < limit binary64) {c p : ℕ} {ws : List ℕ} (h : c < 2 ^ 64) (t : T (finite (of_bits binary64 c)))
    (e : p ≡ to_bits binary64 (near binary64 S)) (w : ws ≡ words_of (S -ℤ units_of doubles p)) where
  abbrev f : Format
  f = binary64

  abbrev x : Float
  x = of_bits f c

  pattern : to_bits f x ≡ c
  pattern = bits_of f c h t

  -- ---- nothing is left
  module _ (z : eqb (number word_bits ws) 0 ≡ true) where
    sum : value f (near f S) ≡ S
    sum = nothing_left S l e w z

    claimed : value f (of_bits f p) ≡ S
    claimed = ap (value f) (near_back S l e) ∙ sum

    pub whole_exact : eqb (nat_abs (value binary64 (of_bits binary64 c) -ℤ value binary64 (of_bits binary64 p))) 0 ≡ true
        → Exact ≡ grade_at binary64 S (of_bits binary64 c)
    whole_exact s = sym (grade_exact f S x (not_apart f x (value f (of_bits f p)) (eqb-true (nat_abs (value f x -ℤ value f (of_bits f p))) 0 s) ∙ claimed))

    pub whole_wrong : eqb (nat_abs (value binary64 (of_bits binary64 c) -ℤ value binary64 (of_bits binary64 p))) 0 ≡ false
        → Wrong ≡ grade_at binary64 S (of_bits binary64 c)
    whole_wrong s = sym (grade_missed f S x other sum)
      where
        other : value f x ≡ S → ⊥
        other i = eqb-false (nat_abs (value f x -ℤ value f (of_bits f p))) 0 s (apart_none f x (value f (of_bits f p)) (i ∙ sym claimed))

  -- ---- something is left
  module _ (z : eqb (number word_bits ws) 0 ≡ false) where
    missed : value f (near f S) ≡ S → ⊥
    missed = something_left S l e w z

    claim_missed : value f x ≡ S → ⊥
    claim_missed = no_number f S l (number_of f c h t) missed

    pub left_positive : 0 < p
    left_positive = elim (eq-zero-or-pos p) [
      | inl o ↦
          let N : Number f (near f S) = nearest_number f false S l in
          absurd (missed (near_zero f S l ((bits_units N).1 ∙ ap (λ (b : ℕ). pattern_units f (b % top f)) (sym e ∙ o) ∙ no_units f)))
      | inr q ↦ q
    ]

    pub left_near : c ≡ p → Nearest ≡ grade_at binary64 S (of_bits binary64 c)
    left_near i = sym (grade_near f S x claim_missed missed (pattern ∙ i ∙ e))

    module _ (n : c ≡ p → ⊥) {q : ℕ}
        (o : q ≡ cond (leb (top binary64) p) (cond (sign_of false (whole_of ws)) (p + 1) (p - 1)) (cond (sign_of false (whole_of ws)) (p - 1) (p + 1))) where
      other : to_bits f x ≡ to_bits f (near f S) → ⊥
      other i = n (sym pattern ∙ i ∙ sym e)

      side : q ≡ other_side f S
      side = o ∙ side_is S l e w missed

      pub left_side : c ≡ q → Faithful ≡ grade_at binary64 S (of_bits binary64 c)
      left_side i = sym (grade_side f S x claim_missed missed other (pattern ∙ i ∙ side))

      pub left_off : (c ≡ q → ⊥) → Wrong ≡ grade_at binary64 S (of_bits binary64 c)
      left_off i = sym (grade_off f S x claim_missed missed other (λ j. i (sym pattern ∙ j ∙ sym side)))
