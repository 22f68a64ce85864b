-- The pattern of the opposite number: the same but for the sign. Assumes nothing.
use Rattle.std.specs.Prelude.{◌≡◌, ◌⊎◌, ℕ, ◌+◌, ◌-◌, ◌*◌, ◌/◌, ◌%◌, ◌^◌, ◌≤◌, ◌<◌, T, neg_ℤ}
use Rattle.std.proofs.Common.{sym, ap, ◌∙◌, inl, inr, mod-eq_of_lt, arith, pow-add}
use Rattle.std.proofs.Math.Nat.{add-mod_right, div-eq_of_lt, div-eq_of_lt-le}
use Rattle.std.specs.Int.Bits.{bit_and, bit_xor, xor_add_and}
use Rattle.std.proofs.lemmas.Nat.Bits.{and_high}
use Rattle.std.proofs.Math.IntN.{neg_ℤ-neg_ℤ}
use Rattle.std.specs.Float.{Format}
use Rattle.std.specs.Float.Ieee.{top, of_bits}
use Rattle.std.specs.Float.Ieee.Scale.{finite}
use Rattle.units.proofs.Powers.{le_or_lt}
use Rattle.ieee.specs.Units.{magnitude, value, pattern_units}
use Rattle.ieee.proofs.Pattern.{pattern_finite}
use Rattle.addend.specs.PatternFields.{pattern_plus, pattern_minus, pattern_magnitude}

-- a pattern is below twice the sign's weight, and its sign turns by adding that
unfoldable pub opposite : Format → ℕ → ℕ
opposite f b = (b + top f) % (2 * top f)

turned : (t b : ℕ) → b < 2 * t → ((b < t) × ((b + t) % (2 * t) ≡ b + t)) ⊎ ((t ≤ b) × ((b + t) % (2 * t) + t ≡ b))
turned t b h = elim (le_or_lt t b) [
  | inl l ↦
      let e : b + t ≡ b - t + 2 * t = omega arith in
      let r : (b + t) % (2 * t) ≡ b - t = ap (λ (n : ℕ). n % (2 * t)) e ∙ add-mod_right (b - t) (2 * t) ∙ mod-eq_of_lt (omega arith) in
      inr (l, omega arith)
  | inr l ↦ inl (l, mod-eq_of_lt (omega arith))
]

-- as the code turns it, where the sign is the bit k
pub xor_sign : (f : Format) (k b : ℕ) → top f ≡ 2 ^ k → b < 2 * top f → bit_xor b (2 ^ k) ≡ opposite f b
unfolding opposite
xor_sign f k b e h = rw e (elim (turned (2 ^ k) b (rw e at h)) [
  | inl s ↦ omega (arith, xor_add_and b (2 ^ k), both 0 (div-eq_of_lt s.0), s.1)
  | inr s ↦ omega (arith, xor_add_and b (2 ^ k), both 1 (div-eq_of_lt-le (2 ^ k) {m = b} (omega (arith, s.0)) (omega (arith, rw e at h))), s.1)
])
  where
    both : (q : ℕ) → b / 2 ^ k ≡ q → bit_and b (2 ^ k) ≡ q % 2 * 2 ^ k
    both q d =
        let one : 2 ^ (1 + k) - 2 ^ k ≡ 2 ^ k = omega (arith, pow-add 2 1 k) in
        rw (d, one) at (and_high b 1 k)

module _ (f : Format) (b : ℕ) (h : b < 2 * top f) where
  sides : ((b < top f) × (opposite f b ≡ b + top f)) ⊎ ((top f ≤ b) × (opposite f b + top f ≡ b))
  unfolding opposite
  sides = turned (top f) b h

  -- without its sign it is the same
  pub opposite_mod : opposite f b % top f ≡ b % top f
  opposite_mod = elim sides [
    | inl s ↦ ap (λ (n : ℕ). n % top f) s.1 ∙ add-mod_right b (top f)
    | inr s ↦ sym (ap (λ (n : ℕ). n % top f) (sym s.1) ∙ add-mod_right (opposite f b) (top f))
  ]

  pub opposite_finite : finite (of_bits f (opposite f b)) ≡ finite (of_bits f b)
  opposite_finite = rw (pattern_finite f (opposite f b), pattern_finite f b, opposite_mod)

  module _ (F : T (finite (of_bits f b))) where
    O : T (finite (of_bits f (opposite f b)))
    O = rw opposite_finite F

    same : magnitude f (of_bits f (opposite f b)) ≡ magnitude f (of_bits f b)
    same = pattern_magnitude f (opposite f b) O ∙ ap (pattern_units f) opposite_mod ∙ sym (pattern_magnitude f b F)

    pub opposite_value : value f (of_bits f (opposite f b)) ≡ neg_ℤ (value f (of_bits f b))
    opposite_value = elim sides [
      | inl s ↦
          let l : top f ≤ opposite f b = omega (arith, s.1) in
          rw (pattern_minus f (opposite f b) O l, pattern_plus f b F s.0, same)
      | inr s ↦
          let l : opposite f b < top f = omega (arith, s.1) in
          rw (pattern_plus f (opposite f b) O l, pattern_minus f b F s.0, same, neg_ℤ-neg_ℤ)
    ]
