-- What rounding a natural number to p bits does: the result has p bits and no number of p bits is nearer, so a number of p bits stays as it is and a
-- larger number rounds to no smaller one; how far off the result is, and which of its digits are zero. Assumes nothing.
use Rattle.std.specs.Prelude.{◌≡◌, ◌⊎◌}
use Rattle.std.proofs.Math.Path.{refl}
use Rattle.std.proofs.Common.{sym, ap, ◌∙◌, inl, inr, le_of_eq, eq-or-lt_of_le, eq-zero-or-pos, mul-le-mul_left, mul-le-mul_right}
use Rattle.std.proofs.Common.{mul_assoc, pow-add, pow_pos, pow_mono}
use Prim.Native.Nat.{ℕ, suc, ◌+◌, ◌-◌, ◌*◌, ◌^◌, ◌≤◌, ◌<◌}
use Rattle.std.proofs.Math.Nat.{lt_of_lt_of_le}
use native.Mathlib.Omega.{arith}
use Rattle.std.specs.Float.Ieee.{size}
use Rattle.std.specs.Float.Ieee.Digits.{size-lt, size-le, size_reaches}
use Rattle.std.specs.Float.Ieee.Nearest.{closest}
use Rattle.units.specs.Rounding.{dropped, rnd, Short}
use Rattle.units.proofs.Powers.{le_or_lt, pow_split, pow_pred, twice_le, cover}
use Rattle.units.specs.NaturalRounding.{Off}
use Rattle.units.proofs.Closest.{closest_half}

closest_best : (a b m c : ℕ) → 0 < b → Off c (m * b) a → Off c (closest a b * b) a
closest_best a b m c B h = go (closest a b) (closest_half a b B) (le_or_lt m (closest a b))
  where
    go : (w : ℕ) → Off b (2 * (w * b)) (2 * a) → (m ≤ w) ⊎ (w < m) → Off c (w * b) a
    go w n (inl l) = elim (eq-or-lt_of_le l) [ inl e ↦ rw (← e) h | inr g ↦ omega (arith, mul-le-mul_right b g) ]
    go w n (inr l) = omega (arith, mul-le-mul_right b l)

-- ---- how many digits are dropped

module _ (p n : ℕ) where
  pub dropped_lt : n < 2 ^ p * 2 ^ dropped p n
  unfolding dropped
  dropped_lt = lt_of_lt_of_le (size-lt n) (cover p (size n))

  pub dropped_reaches : {j : ℕ} → j < dropped p n → 2 ^ p * 2 ^ j ≤ n
  unfolding dropped
  dropped_reaches {j} h = rw (pow-add 2 p j) at (size_reaches n (p + j) (omega arith))

  pub dropped_le : {j : ℕ} → n < 2 ^ p * 2 ^ j → dropped p n ≤ j
  unfolding dropped
  dropped_le {j} h = let l : size n ≤ p + j = size-le n (p + j) (rw (pow-add 2 p j) h) in omega arith

  -- from half of that on, j digits or more are dropped
  pub dropped_ge : {j : ℕ} → 2 ^ p * 2 ^ j ≤ 2 * n → j ≤ dropped p n
  dropped_ge {j} h = elim (le_or_lt j (dropped p n)) [ inl l ↦ l | inr l ↦ absurd (clash l) ]
    where
      clash : dropped p n < j → ⊥
      clash l = omega (arith, dropped_lt, mul-le-mul_left (2 ^ p) (twice_le l))

  -- where digits are dropped, n reaches the power of two at which they are
  pub dropped_half : 0 < dropped p n → 2 ^ p * 2 ^ dropped p n ≤ 2 * n
  dropped_half h = omega (arith, dropped_reaches last, ap (λ (x : ℕ). 2 ^ p * x) (pow_pred h))
    where
      last : dropped p n - 1 < dropped p n
      last = omega arith

module _ {p : ℕ} (P : 0 < p) (k : ℕ) where
  pub half_power : 2 * (2 ^ (p - 1) * 2 ^ k) ≡ 2 ^ p * 2 ^ k
  half_power = sym (mul_assoc 2 (2 ^ (p - 1)) (2 ^ k)) ∙ ap (λ (x : ℕ). x * 2 ^ k) (pow_pred P)

-- a number of p bits with a lower last place than 2 ^ k is at most that power
pub short_low : {p f k : ℕ} (F : Short p f) → F.exp < k → 2 * f ≤ 2 ^ p * 2 ^ k
short_low {p} F l = omega (arith, F.is, mul-le-mul_right (2 ^ F.exp) F.small, mul-le-mul_left (2 ^ p) (twice_le l))

-- ---- the rounding

module _ (p n : ℕ) where
  pub rnd_is : rnd p n ≡ closest n (2 ^ dropped p n) * 2 ^ dropped p n
  unfolding rnd
  rnd_is = refl

  -- the error is at most half of the last place
  pub rnd_half : Off (2 ^ dropped p n) (2 * rnd p n) (2 * n)
  rnd_half = rw rnd_is (closest_half n (2 ^ dropped p n) (pow_pos (dropped p n)))

  -- no multiple of the last place is nearer
  rnd_grid : (m c : ℕ) → Off c (m * 2 ^ dropped p n) n → Off c (rnd p n) n
  rnd_grid m c h = rw rnd_is (closest_best n (2 ^ dropped p n) m c (pow_pos (dropped p n)) h)

  pub rnd_kept : closest n (2 ^ dropped p n) ≤ 2 ^ p
  rnd_kept = small (closest n (2 ^ dropped p n)) (closest_half n (2 ^ dropped p n) (pow_pos (dropped p n))).0
    where
      clash : (w b : ℕ) → 2 * (w * b) ≤ 2 * n + b → n < 2 ^ p * b → suc (2 ^ p) * b ≤ w * b → ⊥
      clash w b x y z = omega arith

      small : (w : ℕ) → 2 * (w * 2 ^ dropped p n) ≤ 2 * n + 2 ^ dropped p n → w ≤ 2 ^ p
      small w h = elim (le_or_lt w (2 ^ p)) [
        | inl l ↦ l
        | inr l ↦ absurd (clash w (2 ^ dropped p n) h (dropped_lt p n) (mul-le-mul_right (2 ^ dropped p n) l))
      ]

  pub rnd_short : Short p (rnd p n)
  rnd_short = record { exp = dropped p n; sig = closest n (2 ^ dropped p n); is = rnd_is; small = rnd_kept }

  -- the result is a multiple of each power of two up to its last place
  pub finer : (j : ℕ) → j ≤ dropped p n → (w : ℕ) × (rnd p n ≡ w * 2 ^ j)
  finer j l = (q * 2 ^ (dropped p n - j), rnd_is ∙ sym (mul_assoc q (2 ^ (dropped p n - j)) (2 ^ j) ∙ ap (λ (x : ℕ). q * x) (pow_split l)))
    where
      q : ℕ
      q = closest n (2 ^ dropped p n)

  -- no number of p bits is nearer
  pub best : 0 < p → (f c : ℕ) → Short p f → Off c f n → Off c (rnd p n) n
  best P f c F h = go (le_or_lt (dropped p n) F.exp)
    where
      k : ℕ
      k = dropped p n

      go : (k ≤ F.exp) ⊎ (F.exp < k) → Off c (rnd p n) n
      go (inl l) = rnd_grid (F.sig * 2 ^ (F.exp - k)) c (rw (mul_assoc F.sig (2 ^ (F.exp - k)) (2 ^ k), pow_split l, ← F.is) h)
      -- otherwise f is at most the power of two that n reaches, which is a multiple of the last place
      go (inr l) = rnd_grid (2 ^ (p - 1)) c (omega (arith, half_power P k, dropped_half p n (omega arith), short_low F l))

module _ (p : ℕ) (P : 0 < p) where
  pub exact : {n : ℕ} → Short p n → rnd p n ≡ n
  exact {n} F = let h : Off 0 (rnd p n) n = best p n P n 0 F (omega arith) in omega arith

  -- between two roundings that cross there would be one point, and it rounds to one of them
  pub mono : {a b : ℕ} → a ≤ b → rnd p a ≤ rnd p b
  mono {a} {b} h = elim (le_or_lt (rnd p a) (rnd p b)) [ inl l ↦ l | inr l ↦ le_of_eq (ap (rnd p) (cross l near_a near_b)) ]
    where
      near_a : Off ((rnd p b - a) + (a - rnd p b)) (rnd p a) a
      near_a = best p a P (rnd p b) ((rnd p b - a) + (a - rnd p b)) (rnd_short p b) (omega arith)

      near_b : Off ((rnd p a - b) + (b - rnd p a)) (rnd p b) b
      near_b = best p b P (rnd p a) ((rnd p a - b) + (b - rnd p a)) (rnd_short p a) (omega arith)

      cross : rnd p b < rnd p a → Off ((rnd p b - a) + (a - rnd p b)) (rnd p a) a → Off ((rnd p a - b) + (b - rnd p a)) (rnd p b) b → a ≡ b
      cross l x y = omega arith

  pub above : {n f : ℕ} → Short p f → f ≤ n → f ≤ rnd p n
  above F h = rw (exact F) at (mono h)

  pub rnd_zero : rnd p 0 ≡ 0
  rnd_zero = exact (record { exp = 0; sig = 0; is = omega arith; small = omega arith })

  -- up to 2 ^ (p + j) it is off by half of 2 ^ j at most
  pub half : (n j : ℕ) → n ≤ 2 ^ p * 2 ^ j → Off (2 ^ j) (2 * rnd p n) (2 * n)
  half n j h = elim (eq-or-lt_of_le h) [
    | inl e ↦ omega (arith, exact (record { exp = j; sig = 2 ^ p; is = e; small = omega arith }))
    | inr l ↦ omega (arith, rnd_half p n, pow_mono (dropped_le p n l))
  ]

  -- where digits are dropped, n and its rounding reach the last power of two at which they are
  pub reach : (n : ℕ) → 0 < dropped p n → (2 ^ p * 2 ^ dropped p n ≤ 2 * n) × (2 ^ p * 2 ^ dropped p n ≤ 2 * rnd p n)
  reach n h = (r, omega (arith, half_power P k, above {n = n} F (omega (arith, half_power P k, r))))
    where
      k : ℕ
      k = dropped p n

      r : 2 ^ p * 2 ^ k ≤ 2 * n
      r = dropped_half p n h

      F : Short p (2 ^ (p - 1) * 2 ^ k)
      F = record { exp = k; sig = 2 ^ (p - 1); is = refl; small = omega (arith, pow_pred P) }

  pub rnd_whole : {n : ℕ} → dropped p n ≡ 0 → rnd p n ≡ n
  rnd_whole {n} e = let h : Off (2 ^ 0) (2 * rnd p n) (2 * n) = rw e at (rnd_half p n) in omega arith

  -- the relative error is at most 2 ^ -p, of the number and of its rounding. No smallest exponent is excepted, since there the error is 0
  pub relative : (n : ℕ) → Off n (2 ^ p * rnd p n) (2 ^ p * n) × Off (rnd p n) (2 ^ p * rnd p n) (2 ^ p * n)
  relative n = elim (eq-zero-or-pos (dropped p n)) [
    | inl e ↦ omega (arith, ap (λ (x : ℕ). 2 ^ p * x) (rnd_whole e))
    | inr h ↦ omega (arith, reach n h, mul-le-mul_left (2 ^ p) (rnd_half p n).0, mul-le-mul_left (2 ^ p) (rnd_half p n).1)
  ]

  -- a multiple of 2 ^ j rounds to one, and so does a number of p + j digits or more
  pub rnd_multiple : (n j m : ℕ) → n ≡ m * 2 ^ j → (w : ℕ) × (rnd p n ≡ w * 2 ^ j)
  rnd_multiple n j m e = elim (le_or_lt (dropped p n) j) [ inl l ↦ (m, same l ∙ e) | inr l ↦ finer p n j (omega arith) ]
    where
      k : ℕ
      k = dropped p n

      same : k ≤ j → rnd p n ≡ n
      same l =
          let h : Off 0 (rnd p n) n = rnd_grid p n (m * 2 ^ (j - k)) 0 (rw (mul_assoc m (2 ^ (j - k)) (2 ^ k), pow_split l, ← e) (omega arith)) in
          omega arith
