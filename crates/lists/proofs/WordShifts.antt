-- Shifts of words of w digits: the leading w digits of two words, and whether anything is left of the lower one. Assumes nothing.
use Rattle.std.specs.Prelude.{◌≡◌, ℕ, ◌+◌, ◌-◌, ◌*◌, ◌/◌, ◌%◌, ◌^◌, ◌≤◌, ◌<◌, ltb}
use Rattle.std.proofs.Common.{sym, ap, ◌∙◌, inl, inr, eq-zero-or-pos, le_of_eq, add-zero, zero-mul, mul-pos, arith, lt-ltb, pow-add, pow_pos, shl_exact}
use Rattle.std.proofs.Common.{shr-shr, shr_lt}
use Rattle.std.proofs.Math.Nat.{mul-mod_left}
use Rattle.std.proofs.Math.Arith.{digits_lt}
use Rattle.std.proofs.lemmas.Nat.{shl-shr, mod-pow-add}

-- what m shifted by s leaves above w digits, with no shift by more than w
pub shifted_above : (w m s : ℕ) → s ≤ w → m / 2 ^ (w - s) ≡ m * 2 ^ s / 2 ^ w
shifted_above w m s h =
    let f : s + (w - s) ≡ w = omega arith in
    sym (ap (λ (n : ℕ). n / 2 ^ (w - s)) (shl-shr m s)) ∙ shr-shr (m * 2 ^ s) s (w - s) ∙ ap (λ (n : ℕ). m * 2 ^ s / 2 ^ n) f

-- y digits of the upper word a, and so many of the lower word b are cut off
module _ {w y : ℕ} (h : y ≤ w) where
  whole : w - y + y ≡ w
  whole = omega arith

  other : y + (w - y) ≡ w
  other = omega arith

  pub across_is : (a b : ℕ) → 0 < y → a < 2 ^ y → a * 2 ^ (w - y) % 2 ^ w + b / 2 / 2 ^ (y - 1) ≡ a * 2 ^ (w - y) + b / 2 ^ y
  across_is a b Y A = λ i. shl_exact y (w - y) w A (le_of_eq other) i + (shr-shr b 1 (y - 1) ∙ ap (λ (x : ℕ). b / 2 ^ x) back) i
    where
      back : 1 + (y - 1) ≡ y
      back = omega arith

  pub across_lt : {a b : ℕ} → a < 2 ^ y → b < 2 ^ w → a * 2 ^ (w - y) + b / 2 ^ y < 2 ^ w
  across_lt {a} {b} A B = rw (← (pow-add 2 y (w - y)), other) at (digits_lt A (shr_lt {n = b} (w - y) y (rw whole B)))

  -- shifted to the top of a word, or left at its place over a number low
  pub cut_some : (b low W : ℕ) → 0 < W → ltb 0 (b * 2 ^ (w - y) % 2 ^ w + low) ≡ ltb 0 (b % 2 ^ y * W + low)
  cut_some b low W pos = elim (eq-zero-or-pos (b % 2 ^ y)) [
    | inl t ↦ rw (moved, t, zero-mul (2 ^ (w - y)), zero-mul W)
    | inr t ↦ rw moved (lt-ltb 0 (b % 2 ^ y * 2 ^ (w - y) + low) (some t (pow_pos (w - y))) ∙ sym (lt-ltb 0 (b % 2 ^ y * W + low) (some t pos)))
  ]
    where
      moved : b * 2 ^ (w - y) % 2 ^ w ≡ b % 2 ^ y * 2 ^ (w - y)
      moved =
          ap (λ (x : ℕ). b * 2 ^ (w - y) % 2 ^ x) (sym other)
          ∙ mod-pow-add (b * 2 ^ (w - y)) y (w - y)
          ∙ rw (shl-shr b (w - y), mul-mod_left b (2 ^ (w - y))) (add-zero (b % 2 ^ y * 2 ^ (w - y)))

      some : {t W : ℕ} → 0 < t → 0 < W → 0 < t * W + low
      some T P = omega (arith, mul-pos T P)
