-- A signed number as n digits of base 2 ^ w in two's complement: number and digits determine each other, sums by their carry equations, and the top bit.
-- Assumes nothing.
use Rattle.std.specs.Prelude.{◌≡◌, true, not, List, [], ◌∷◌, ℕ, zero, suc, ◌+◌, ◌-◌, ◌*◌, ◌/◌, ◌^◌, ◌≤◌, ◌<◌, ltb, ℤ, pos, ◌+ℤ◌, ◌-ℤ◌, get_or, drop}
use Rattle.std.proofs.Common.{sym, ap, ◌∙◌, mod-eq_of_lt, div-one, add_comm, mul-pos, zero-lt-suc, arith, drop_of_length-le, shr-shr, drop-cons}
use Rattle.std.proofs.Math.Nat.{zero-div}
use Rattle.std.proofs.Math.Arith.{digits_div}
use Rattle.lists.specs.Digits.{number, Digits, signed, residue, inside}
use Rattle.lists.specs.DigitLaws.{weight_zero, number_nil, number_cons, digits_head, digits_tail}
use Rattle.lists.specs.DigitLaws.{number_lt, number_digits, digits_length, digits_below, number_unique}
use Rattle.lists.proofs.TwosComplement.{residue_lt, signed_inside, residue_signed, signed_residue, residue_plus, top}
use Rattle.lists.proofs.TwosComplement.{add_residue, sub_residue, plus_inside, minus_inside}
use Rattle.lists.specs.SignedDigits.{cut, whole, Words, top_bit}

module _ (w n : ℕ) where
  pub cut_words : (z : ℤ) → Words w n (cut w n z)
  cut_words z = record { long = digits_length w n (residue (w * n) z); below = digits_below w n (residue (w * n) z) }

  pub cut_number : (z : ℤ) → number w (cut w n z) ≡ residue (w * n) z
  cut_number z = number_digits w n (residue (w * n) z) ∙ mod-eq_of_lt (residue_lt (w * n) z)

  pub words_lt : {ds : List ℕ} → Words w n ds → number w ds < 2 ^ (w * n)
  words_lt {ds} D = rw D.long at (number_lt w ds D.below)

  -- digits whose number is right are the digits of z
  pub cut_only : {ds : List ℕ} (z : ℤ) → Words w n ds → residue (w * n) z ≡ number w ds → ds ≡ cut w n z
  cut_only {ds} z D e =
      number_unique w ds (cut w n z) D.below (cut_words z).below (D.long ∙ sym (cut_words z).long) (sym (cut_number z ∙ e))

  module _ (P : 0 < w * n) where
    pub cut_whole : {ds : List ℕ} → Words w n ds → cut w n (whole w n ds) ≡ ds
    cut_whole {ds} D = sym (cut_only (whole w n ds) D (residue_signed (w * n) P (number w ds) (words_lt D)))

    pub whole_inside : {ds : List ℕ} → Words w n ds → inside (w * n) (whole w n ds) ≡ true
    whole_inside {ds} D = signed_inside (w * n) P (number w ds) (words_lt D)

    pub whole_cut : (z : ℤ) → inside (w * n) z ≡ true → whole w n (cut w n z) ≡ z
    whole_cut z h = ap (signed (w * n)) (cut_number z) ∙ signed_residue (w * n) P z h

    -- digits that were cut w n off do not matter to a sum
    pub cut_plus : (y z : ℤ) → cut w n (whole w n (cut w n z) +ℤ y) ≡ cut w n (z +ℤ y)
    cut_plus y z = rw (cut_number z, residue_plus (w * n) P y z)

    -- ---- es has the digits of the sum of ds and m, c is the carry or the borrow out of the top
    module _ {ds es : List ℕ} (m c : ℕ) (D : Words w n ds) (E : Words w n es) where
      pub cut_add : number w es + c * 2 ^ (w * n) ≡ number w ds + m → es ≡ cut w n (whole w n ds +ℤ pos m)
      cut_add e = cut_only (whole w n ds +ℤ pos m) E (add_residue (w * n) P m c (words_lt D) (words_lt E) e)

      pub cut_sub : number w ds + c * 2 ^ (w * n) ≡ number w es + m → es ≡ cut w n (whole w n ds -ℤ pos m)
      cut_sub e = cut_only (whole w n ds -ℤ pos m) E (sub_residue (w * n) P m c (words_lt D) (words_lt E) e)

-- ---- the top bit is that of the top digit
module _ (w : ℕ) where
  number_drop : (i : ℕ) (ds : List ℕ) → Digits w ds → number w ds / 2 ^ (w * i) ≡ number w (drop i ds)
  number_drop zero ds D = rw (weight_zero w) (div-one (number w ds))
  number_drop (suc i) [] D = rw (number_nil w) (zero-div (2 ^ (w * suc i)))
  number_drop (suc i) (d ∷ ds) D =
      let e : w * suc i ≡ w + w * i = omega arith in
      let s : d + number w ds * 2 ^ w ≡ number w ds * 2 ^ w + d = add_comm d (number w ds * 2 ^ w) in
      rw (number_cons w d ds, e, s, ← (shr-shr (number w ds * 2 ^ w + d) w (w * i)), digits_div (number w ds) (digits_head w D))
      (number_drop i ds (digits_tail w D))

  module _ (P : 0 < w) (i : ℕ) where
    pub top_digit_lem : {ds : List ℕ} → Words w (suc i) ds → top (w * suc i) (number w ds) ≡ top_bit w i ds
    top_digit_lem {ds} D =
        let e : w * suc i - 1 ≡ w * i + (w - 1) = omega arith in
        let none : drop (suc i) ds ≡ [] = drop_of_length-le ds {i = suc i} (omega (arith, D.long)) in
        let one : drop i ds ≡ get_or ds i 0 ∷ [] = rw (← none) (drop-cons ds i 0 (omega (arith, D.long))) in
        rw (e, ← (shr-shr (number w ds) (w * i) (w - 1)), number_drop i ds D.below, one, number_cons w (get_or ds i 0) [], number_nil w)
        (ap (λ (d : ℕ). d / 2 ^ (w - 1)) (omega arith))

    -- whether a sum is in range, as TwosComplement reads it from the top bits
    module _ {ds : List ℕ} (m : ℕ) (D : Words w (suc i) ds) (h : m ≤ 2 ^ (w * suc i - 1)) where
      some : 0 < w * suc i
      some = mul-pos P (zero-lt-suc i)

      after : (z : ℤ) → top (w * suc i) (residue (w * suc i) z) ≡ top_bit w i (cut w (suc i) z)
      after z = ap (top (w * suc i)) (sym (cut_number w (suc i) z)) ∙ top_digit_lem (cut_words w (suc i) z)

      pub cut_plus_inside : inside (w * suc i) (whole w (suc i) ds +ℤ pos m)
          ≡ not (ltb (top_bit w i ds) (top_bit w i (cut w (suc i) (whole w (suc i) ds +ℤ pos m))))
      cut_plus_inside =
          rw (top_digit_lem D, after (whole w (suc i) ds +ℤ pos m)) at (plus_inside (w * suc i) some (number w ds) m (words_lt w (suc i) D) h)

      pub cut_minus_inside : inside (w * suc i) (whole w (suc i) ds -ℤ pos m)
          ≡ not (ltb (top_bit w i (cut w (suc i) (whole w (suc i) ds -ℤ pos m))) (top_bit w i ds))
      cut_minus_inside =
          rw (top_digit_lem D, after (whole w (suc i) ds -ℤ pos m)) at (minus_inside (w * suc i) some (number w ds) m (words_lt w (suc i) D) h)
