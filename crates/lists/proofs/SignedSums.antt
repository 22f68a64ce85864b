-- The sum of two numbers in two's complement: its digits by the carry equation of theirs, and whether it is in range, read from the three top bits.
-- Assumes nothing.
use Rattle.std.specs.Prelude.{◌≡◌, ◌&&◌, not, List, ℕ, zero, suc, ◌+◌, ◌-◌, ◌*◌, ◌/◌, ◌%◌, ◌^◌, ◌≤◌, ◌<◌, eqb, ℤ, ◌+ℤ◌}
use Rattle.std.proofs.Common.{sym, ap, ◌∙◌, inl, inr, mod-lt, mul-pos, zero-lt-suc, arith, pow_pos}
use Rattle.std.proofs.Math.Nat.{mod-add-div'}
use Rattle.units.proofs.Powers.{le_or_lt, pow_pred}
use Rattle.units.specs.Whole.{◌⊕◌, int}
use Rattle.units.proofs.Integers.{int_plus}
use Rattle.lists.specs.Digits.{number, signed, residue, inside}
use Rattle.lists.proofs.TwosComplement.{top, stands_for, signed_is, residue_only, no_carry, top_low, top_high, inside_yes, inside_above, inside_below}
use Rattle.lists.specs.SignedDigits.{cut, whole, Words, top_bit}
use Rattle.lists.proofs.SignedDigits.{cut_words, cut_number, words_lt, cut_only, top_digit_lem}

one_carry : (N c x y : ℕ) → x + c * N ≡ y → x < N → N ≤ y → y < N + N → x + N ≡ y
one_carry N zero x y e h l g = absurd (omega arith)
one_carry N (suc zero) x y e h l g = omega arith
one_carry N (suc (suc c)) x y e h l g = absurd (omega arith)

-- ---- s has the bits of the sum of u and v, c is the carry out of the top
module _ (b : ℕ) (B : 0 < b) {u v s : ℕ} (c : ℕ) (U : u < 2 ^ b) (W : v < 2 ^ b) (S : s < 2 ^ b) (e : s + c * 2 ^ b ≡ u + v) where
  both : signed b u +ℤ signed b v ≡ int (stands_for b u ⊕ stands_for b v)
  both = rw (signed_is b B u U, signed_is b B v W) (sym (int_plus (stands_for b u) (stands_for b v)))

  sum_residue : residue b (signed b u +ℤ signed b v) ≡ s
  sum_residue = rw both (residue_only b S (record { times = record { up = c; dn = top b u + top b v }; is = omega arith }))

  twice : 2 * 2 ^ (b - 1) ≡ 2 ^ b
  twice = pow_pred B

  -- two numbers of one sign leave the range where their sum has the other
  sum_inside : inside b (signed b u +ℤ signed b v) ≡ not (eqb (top b u) (top b v) && not (eqb (top b s) (top b u)))
  sum_inside = rw both (elim (le_or_lt (2 ^ (b - 1)) u) [
    | inl f ↦ elim (le_or_lt (2 ^ (b - 1)) v) [
      | inl g ↦
          let n : s + 2 ^ b ≡ u + v = one_carry (2 ^ b) c s (u + v) e S (omega (arith, twice)) (omega arith) in
          elim (le_or_lt (2 ^ (b - 1)) s) [
            | inl k ↦
                rw (top_high b B f U, top_high b B g W, top_high b B k S)
                (inside_yes b (record { up = u + v; dn = 1 * 2 ^ b + 1 * 2 ^ b }) (omega (arith, twice)) (omega (arith, twice)))
            | inr k ↦
                rw (top_high b B f U, top_high b B g W, top_low b B k)
                (inside_below b (record { up = u + v; dn = 1 * 2 ^ b + 1 * 2 ^ b }) (omega (arith, twice)))
          ]
      | inr g ↦
          rw (top_high b B f U, top_low b B g)
          (inside_yes b (record { up = u + v; dn = 1 * 2 ^ b + 0 * 2 ^ b }) (omega (arith, twice)) (omega (arith, twice)))
    ]
    | inr f ↦ elim (le_or_lt (2 ^ (b - 1)) v) [
      | inl g ↦
          rw (top_low b B f, top_high b B g W)
          (inside_yes b (record { up = u + v; dn = 0 * 2 ^ b + 1 * 2 ^ b }) (omega (arith, twice)) (omega (arith, twice)))
      | inr g ↦
          let n : s ≡ u + v = no_carry (2 ^ b) c s (u + v) e (omega (arith, twice)) in
          elim (le_or_lt (2 ^ (b - 1)) s) [
            | inl k ↦
                rw (top_low b B f, top_low b B g, top_high b B k S) (inside_above b (record { up = u + v; dn = 0 * 2 ^ b + 0 * 2 ^ b }) (omega arith))
            | inr k ↦
                rw (top_low b B f, top_low b B g, top_low b B k)
                (inside_yes b (record { up = u + v; dn = 0 * 2 ^ b + 0 * 2 ^ b }) (omega arith) (omega arith))
          ]
    ]
  ])

-- the same for the bits that are left of a sum
module _ (b : ℕ) (B : 0 < b) {u v : ℕ} (U : u < 2 ^ b) (W : v < 2 ^ b) where
  both_inside : inside b (signed b u +ℤ signed b v) ≡ not (eqb (top b u) (top b v) && not (eqb (top b (residue b (signed b u +ℤ signed b v))) (top b u)))
  both_inside =
      let S : (u + v) % 2 ^ b < 2 ^ b = mod-lt (u + v) (pow_pos b) in
      let e : (u + v) % 2 ^ b + (u + v) / 2 ^ b * 2 ^ b ≡ u + v = mod-add-div' (u + v) (2 ^ b) in
      rw (sum_residue b B ((u + v) / 2 ^ b) U W S e) (sum_inside b B ((u + v) / 2 ^ b) U W S e)

-- ---- digits of base 2 ^ w: the top bits are those of the top digits, at place i
module _ (w : ℕ) (P : 0 < w) (i : ℕ) {xs ys : List ℕ} (X : Words w (suc i) xs) (Y : Words w (suc i) ys) where
  some : 0 < w * suc i
  some = mul-pos P (zero-lt-suc i)

  -- c is the carry out of the top
  pub cut_sum : {zs : List ℕ} (c : ℕ) → Words w (suc i) zs → number w zs + c * 2 ^ (w * suc i) ≡ number w xs + number w ys
      → zs ≡ cut w (suc i) (whole w (suc i) xs +ℤ whole w (suc i) ys)
  cut_sum c Z e =
      cut_only w (suc i) (whole w (suc i) xs +ℤ whole w (suc i) ys) Z
      (sum_residue (w * suc i) some c (words_lt w (suc i) X) (words_lt w (suc i) Y) (words_lt w (suc i) Z) e)

  pub cut_sum_inside : let z = whole w (suc i) xs +ℤ whole w (suc i) ys in
      inside (w * suc i) z ≡ not (eqb (top_bit w i xs) (top_bit w i ys) && not (eqb (top_bit w i (cut w (suc i) z)) (top_bit w i xs)))
  cut_sum_inside =
      rw (top_digit_lem w P i X, top_digit_lem w P i Y, after (whole w (suc i) xs +ℤ whole w (suc i) ys)) at
      (both_inside (w * suc i) some (words_lt w (suc i) X) (words_lt w (suc i) Y))
    where
      after : (z : ℤ) → top (w * suc i) (residue (w * suc i) z) ≡ top_bit w i (cut w (suc i) z)
      after z = ap (top (w * suc i)) (sym (cut_number w (suc i) z)) ∙ top_digit_lem w P i (cut_words w (suc i) z)
