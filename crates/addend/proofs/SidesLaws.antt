-- Where a number's magnitude is added to two registers' words, those of the negative numbers above: the place by its sign; and the difference of the two.
-- Assumes nothing.
use Rattle.std.specs.Prelude.{◌≡◌, refl, List, ℕ, zero, suc, ◌+◌, ◌*◌, ◌^◌, ◌≤◌, ◌<◌, T, pos, neg_ℤ, ◌-ℤ◌, length, take, drop}
use Rattle.std.proofs.Math.Path.{sym, ap}
use Rattle.std.proofs.Common.{◌∙◌, inl, inr, mul-add, length-drop, take_all, length-take-le, pow-add}
use native.Mathlib.Omega.{arith}
use Rattle.std.specs.Float.Ieee.{of_bits, top}
use Rattle.std.specs.Float.Ieee.Scale.{finite}
use Rattle.units.proofs.Powers.{le_or_lt}
use Rattle.units.specs.Whole.{nat, neg, difference}
use Rattle.lists.specs.Carry.{two, Carried}
use Rattle.lists.specs.Digits.{number, Digits}
use Rattle.lists.specs.DigitLaws.{digits_take}
use Rattle.kinds.specs.Limits.{Width}
use Rattle.words.specs.Words.{word_bits, word_count, register_bits, whole_of, words_of}
use Rattle.addend.specs.Addend.{AtWord, Held}
use Rattle.addend.proofs.RegisterWords.{falls, units_plus, units_minus}
use Rattle.addend.specs.Sides.{sides_of, side_by_side}

-- two adjacent digits, n places higher
module _ (w k n lo hi : ℕ) where
  higher : (j : ℕ) → 2 ^ (w * (j + n)) ≡ 2 ^ (w * j) * 2 ^ (w * n)
  higher j = ap (λ (x : ℕ). 2 ^ x) (mul-add w j n) ∙ pow-add 2 (w * j) (w * n)

  two_above : two w (k + n) lo hi ≡ two w k lo hi * 2 ^ (w * n)
  two_above =
      let e : k + n + 1 ≡ k + 1 + n = omega arith in
      rw (e, higher k, higher (k + 1)) (omega arith)

-- one side alone
no_minus : (B n : ℕ) → n ≡ n + 0 * B
no_minus B n = omega arith

no_plus : (B n : ℕ) → n * B ≡ 0 + n * B
no_plus B n = omega arith

pub minus_side : (n : ℕ) → difference (neg_ℤ (pos n)) ≡ neg (nat n)
minus_side zero = refl
minus_side (suc n) = refl

-- b is the sign's bit
module _ (W : Width) {p k lo hi : ℕ} (F : T (finite (of_bits W.format p))) (P : AtWord W.format p k lo hi) (b : ℕ) where
  n : ℕ
  n = two word_bits k lo hi

  plus : p < top W.format → b ≡ 0 → two word_bits (k + word_count * b) lo hi ≡ side_by_side (sides_of W p)
  unfolding n
  plus h z =
      let e : k + word_count * b ≡ k = omega arith in
      let u : sides_of W p ≡ nat n = ap difference (units_plus W F P h) in
      ap (λ (x : ℕ). two word_bits x lo hi) e ∙ no_minus (2 ^ register_bits) n ∙ sym (ap side_by_side u)

  minus : top W.format ≤ p → b ≡ 1 → two word_bits (k + word_count * b) lo hi ≡ side_by_side (sides_of W p)
  unfolding n
  minus h z =
      let e : k + word_count * b ≡ k + word_count = omega arith in
      let u : sides_of W p ≡ neg (nat n) = ap difference (units_minus W F P h) ∙ minus_side n in
      ap (λ (x : ℕ). two word_bits x lo hi) e ∙ two_above word_bits k word_count lo hi ∙ no_plus (2 ^ register_bits) n ∙ sym (ap side_by_side u)

  pub side_at : (p < top W.format → b ≡ 0) → (top W.format ≤ p → b ≡ 1) → two word_bits (k + word_count * b) lo hi ≡ side_by_side (sides_of W p)
  side_at z s = elim (le_or_lt (top W.format) p) [
    | inl h ↦ minus h (s h)
    | inr h ↦ plus h (z h)
  ]

-- the words of one side less those of the other: what is left, with a borrow out of the top, is the difference cut off
module _ {ws es : List ℕ} (long : length ws ≡ word_count + word_count) (below : Digits word_bits ws) (E : Held es) {r : ℕ} where
  pub side_left : Carried word_bits es (number word_bits (drop word_count ws)) (take word_count ws) (length (take word_count ws)) r
      → es ≡ words_of (whole_of (take word_count ws) -ℤ pos (number word_bits (drop word_count ws)))
  side_left C =
      let h : Held (take word_count ws) = record { long = length-take-le word_count ws (omega arith); below = digits_take word_bits word_count ws below } in
      falls h E C

  -- the same where the other side is cut to its words, of which there are no more
  pub side_less : Carried word_bits es (number word_bits (take word_count (drop word_count ws))) (take word_count ws) (length (take word_count ws)) r
      → es ≡ words_of (whole_of (take word_count ws) -ℤ pos (number word_bits (drop word_count ws)))
  side_less C = side_left (rw (take_all word_count (drop word_count ws) (omega (arith, length-drop word_count ws))) at C)
