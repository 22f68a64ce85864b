-- At a tie the significand is even: where another number of p bits is as near, the rounding is a multiple of twice the number's last place. Assumes nothing.
use Rattle.std.specs.Prelude.{◌≡◌, ◌⊎◌}
use Rattle.std.proofs.Common.{ap, sym, ◌∙◌, inl, inr, mul-le-mul_right, mul_assoc, arith, pow_pos}
use Prim.Native.Nat.{ℕ, suc, ◌+◌, ◌-◌, ◌*◌, ◌^◌, ◌≤◌, ◌<◌}
use Rattle.std.proofs.Math.Nat.{pow-succ'}
use Rattle.std.specs.Float.Ieee.Nearest.{closest}
use Rattle.units.specs.Whole.{Whole, nat, ◌⊕◌, ◌⊖◌, neg, ◌⊗◌, ◌≈◌, mag, Multiple}
use Rattle.units.specs.Rounding.{dropped, rnd, fl, Short, Representable}
use Rattle.units.proofs.Powers.{le_or_lt, pow_split, pow_pred}
use Rattle.units.proofs.Multiples.{multiple_neg, multiple_same}
use Rattle.units.proofs.NaturalRounding as N
use Rattle.units.specs.NaturalRounding.{Off}
use Rattle.units.proofs.NaturalRounding.{rnd_is}
use Rattle.units.proofs.SignedRounding.{rep_neg, rep_short, Side, plus, minus, side}
use Rattle.units.proofs.ClosestEven.{closest_even}

module _ (p : ℕ) (P : 0 < p) where
  -- a number of p bits that is as near as the rounding is a multiple of the last place too
  on_grid : (n f : ℕ) → Short p f → f + rnd p n ≡ 2 * n → (m : ℕ) × (f ≡ m * 2 ^ dropped p n)
  on_grid n f F t = go (le_or_lt (dropped p n) F.exp)
    where
      k : ℕ
      k = dropped p n

      go : (k ≤ F.exp) ⊎ (F.exp < k) → (m : ℕ) × (f ≡ m * 2 ^ k)
      go (inl l) = (F.sig * 2 ^ (F.exp - k), F.is ∙ sym (mul_assoc F.sig (2 ^ (F.exp - k)) (2 ^ k) ∙ ap (λ (x : ℕ). F.sig * x) (pow_split l)))
      -- f is at most the power of two that n reaches, and that power is no nearer
      go (inr l) = (2 ^ (p - 1), omega (arith, N.half_power P k, N.short_low F l, R, N.best p n P (2 ^ (p - 1) * 2 ^ k) (n - 2 ^ (p - 1) * 2 ^ k) power near))
        where
          R : (2 ^ p * 2 ^ k ≤ 2 * n) × (2 ^ p * 2 ^ k ≤ 2 * rnd p n)
          R = N.reach p P n (omega arith)

          near : Off (n - 2 ^ (p - 1) * 2 ^ k) (2 ^ (p - 1) * 2 ^ k) n
          near = omega (arith, R, N.half_power P k)

          power : Short p (2 ^ (p - 1) * 2 ^ k)
          power = record { exp = k; sig = 2 ^ (p - 1); is = omega arith; small = omega (arith, pow_pred P) }

  pub rnd_tie : (n f : ℕ) → Short p f → f + rnd p n ≡ 2 * n → (f ≡ rnd p n → ⊥) → (v : ℕ) × (rnd p n ≡ v * 2 ^ suc (dropped p n))
  rnd_tie n f F t d =
      let v = closest_even n u (pow_pos k) (apart (le_or_lt f (rnd p n))) in
      (v.0, rnd_is p n ∙ ap (λ (x : ℕ). x * u) v.1 ∙ rw (pow-succ' 2 k) (omega arith))
    where
      k : ℕ
      k = dropped p n

      u : ℕ
      u = 2 ^ k

      w : ℕ
      w = closest n u

      m : (m : ℕ) × (f ≡ m * u)
      m = on_grid n f F t

      -- two different multiples of u are u apart
      apart : (f ≤ rnd p n) ⊎ (rnd p n < f) → (2 * (w * u) + u ≤ 2 * n) ⊎ (2 * n + u ≤ 2 * (w * u))
      apart (inl l) = elim (le_or_lt w m.0) [
        | inl g ↦ absurd (d (omega (arith, m.1, rnd_is p n, mul-le-mul_right u g)))
        | inr g ↦ inr (omega (arith, m.1, rnd_is p n, mul-le-mul_right u g))
      ]
      apart (inr l) = elim (le_or_lt m.0 w) [
        | inl g ↦ absurd (omega (arith, m.1, rnd_is p n, mul-le-mul_right u g))
        | inr g ↦ inl (omega (arith, m.1, rnd_is p n, mul-le-mul_right u g))
      ]

  -- another number that is as near lies on the other side
  opposite : (z f r : Whole) → mag (f ⊖ z) ≡ mag (r ⊖ z) → (f ≈ r → ⊥) → f ⊕ r ≈ 2 ⊗ z
  opposite z f r t d = omega arith

  -- where z is n and r is m, at most 2 n, that number is a natural one
  natural : (z f r : Whole) (n m : ℕ) → z.up ≡ z.dn + n → r.up ≡ m → r.dn ≡ 0 → m ≤ 2 * n → f ⊕ r ≈ 2 ⊗ z
      → (f.up - f.dn + m ≡ 2 * n) × (f.up - f.dn ≡ m → f ≈ r)
  natural z f r n m e u d l o = (omega arith, λ i. omega arith)

  -- 0 has p bits, so the rounding is no further off than 0
  most : (n : ℕ) → rnd p n ≤ 2 * n
  most n = omega (arith, N.best p n P 0 n (record { exp = 0; sig = 0; is = omega arith; small = omega arith }) (omega arith))

  even : (z : Whole) (n v : ℕ) → n ≡ mag z → rnd p n ≡ v * 2 ^ suc (dropped p n) → Multiple (suc (dropped p (mag z))) (nat (rnd p n))
  even z n v e h = rw (← e) (record { count = nat v; is = omega (arith, h) })

  fl_tie_at : (z f : Whole) → Representable p f → f ⊕ fl p z ≈ 2 ⊗ z → (f ≈ fl p z → ⊥) → Side p P z → Multiple (suc (dropped p (mag z))) (fl p z)
  fl_tie_at z f F o d (plus n e u w) =
      let a = natural z f (fl p z) n (rnd p n) e u w (most n) o in
      let v = rnd_tie n (f.up - f.dn) (rep_short F) a.0 (λ i. d (a.1 i)) in
      multiple_same (omega arith) (even z n v.0 (omega arith) v.1)
  fl_tie_at z f F o d (minus n e u w) =
      let a = natural (neg z) (neg f) (neg (fl p z)) n (rnd p n) e w u (most n) (omega arith) in
      let v = rnd_tie n (f.dn - f.up) (rep_short (rep_neg F)) a.0 (λ i. d (let x = a.1 i in omega arith)) in
      multiple_same (omega arith) (multiple_neg (even z n v.0 (omega arith) v.1))

  pub fl_tie : (z f : Whole) → Representable p f → mag (f ⊖ z) ≡ mag (fl p z ⊖ z) → (f ≈ fl p z → ⊥) → Multiple (suc (dropped p (mag z))) (fl p z)
  fl_tie z f F t d = fl_tie_at z f F (opposite z f (fl p z) t d) d (side p P z)
