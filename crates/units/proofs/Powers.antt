-- Powers of two, and a case split on an order: small facts that every file here leans on. Assumes nothing.
use Rattle.std.specs.Prelude.{◌≡◌, ◌⊎◌, ℕ, ◌+◌, ◌-◌, ◌*◌, ◌^◌, ◌≤◌, ◌<◌}
use Rattle.std.proofs.Common.{sym, ap, ◌∙◌, inl, inr, sub-add_cancel, le_trans, le_of_eq, lt_of_not-le, not-le_of_lt, arith, pow-add, pow_mono}
use Rattle.std.proofs.Math.Decide.{dec_le}
use Rattle.std.proofs.Math.Pow.{pow-lt}

pub le_or_lt : (a b : ℕ) → (a ≤ b) ⊎ (b < a)
le_or_lt a b = elim (dec_le a b) [ yes h ↦ inl h | no h ↦ inr (lt_of_not-le h) ]

-- a larger power of two is a multiple of a smaller one
pub pow_split : {i j : ℕ} → i ≤ j → 2 ^ (j - i) * 2 ^ i ≡ 2 ^ j
pow_split {i} {j} h = sym (pow-add 2 (j - i) i) ∙ ap (λ (x : ℕ). 2 ^ x) (sub-add_cancel h)

-- 2 ^ p is twice the power below
pub pow_pred : {p : ℕ} → 0 < p → 2 * 2 ^ (p - 1) ≡ 2 ^ p
pow_pred P = omega (arith, pow_split {i = 1} P)

pub twice_le : {i j : ℕ} → i < j → 2 * 2 ^ i ≤ 2 ^ j
twice_le h = omega (arith, pow_mono h)

pub pow_le_back : (i j : ℕ) → 2 ^ i ≤ 2 ^ j → i ≤ j
pow_le_back i j h = elim (le_or_lt i j) [ inl l ↦ l | inr l ↦ absurd (not-le_of_lt (pow-lt l) h) ]

-- 2 ^ k has its p leading digits at 2 ^ (k - p), with k - p cut off at 0
pub cover : (p k : ℕ) → 2 ^ k ≤ 2 ^ p * 2 ^ (k - p)
cover p k = le_trans (pow_mono (room p k)) (le_of_eq (pow-add 2 p (k - p)))
  where
    room : (p k : ℕ) → k ≤ p + (k - p)
    room p k = omega arith
