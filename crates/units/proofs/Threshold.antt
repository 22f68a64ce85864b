-- Where rounding to p bits reaches 2 ^ (p + 1 + h): from half a place below it on, since that tie goes up to the even significand. Assumes nothing.
use Rattle.std.specs.Prelude.{◌≡◌, refl, ℕ, suc, ◌+◌, ◌-◌, ◌*◌, ◌^◌, ◌≤◌, ◌<◌}
use Rattle.std.proofs.Common.{ap, inl, inr, mul-le-mul_right, lt_of_mul-lt-mul_right, le_antisymm, arith, pow_pos}
use Rattle.std.proofs.Math.Nat.{eq_of_mul-eq-mul_right, pow-succ'}
use Rattle.units.specs.Rounding.{dropped, rnd, Short}
use Rattle.units.proofs.Powers.{le_or_lt, pow_pred}
use Rattle.units.specs.NaturalRounding.{Off}
use Rattle.units.proofs.NaturalRounding.{dropped_le, dropped_ge, best, above, half}
use Rattle.units.proofs.CoarseRounding.{rnd_coarse}
use Rattle.units.proofs.Ties.{rnd_tie}

module _ (p : ℕ) (P : 0 < p) (h : ℕ) where
  two : 2 ^ suc h ≡ 2 * 2 ^ h
  two = pow-succ' 2 h

  top : Short p (2 ^ p * 2 ^ suc h)
  top = record { exp = suc h; sig = 2 ^ p; is = refl; small = omega arith }

  pub rnd_stays : (n : ℕ) → n + 2 ^ h < 2 ^ p * 2 ^ suc h → rnd p n < 2 ^ p * 2 ^ suc h
  rnd_stays n l = omega (arith, two, half p P n (suc h) (omega arith))

  pub rnd_reaches : (n : ℕ) → 2 ^ p * 2 ^ suc h ≤ n + 2 ^ h → 2 ^ p * 2 ^ suc h ≤ rnd p n
  rnd_reaches n l = elim (le_or_lt (2 ^ p * 2 ^ suc h) (rnd p n)) [
    | inl g ↦ g
    | inr g ↦ elim (le_or_lt (2 ^ p * 2 ^ suc h) n) [ inl m ↦ above p P top m | inr m ↦ absurd (clash g m) ]
  ]
    where
      clash : rnd p n < 2 ^ p * 2 ^ suc h → n < 2 ^ p * 2 ^ suc h → ⊥
      clash g m = odd (2 ^ (p - 1)) v.0 (pow_pred P) even
        where
          long : 2 ^ p * 2 ^ suc h ≤ 2 * n
          long = omega (arith, ap (λ (x : ℕ). 2 ^ p * x) two, mul-le-mul_right (2 ^ h) (pow_pos (p - 1)), ap (λ (x : ℕ). x * 2 ^ h) (pow_pred P))

          places : dropped p n ≡ suc h
          places = le_antisymm (dropped_le p n m) (dropped_ge p n long)

          w : (w : ℕ) × (rnd p n ≡ w * 2 ^ suc h)
          w = rnd_coarse p P n (suc h) long

          -- the rounding is a place or more below 2 ^ (p + 1 + h), and no further from n than that number
          below : suc w.0 * 2 ^ suc h ≤ 2 ^ p * 2 ^ suc h
          below = mul-le-mul_right (2 ^ suc h) (lt_of_mul-lt-mul_right (2 ^ suc h) (rw (← w.1) g))

          near : Off (2 ^ p * 2 ^ suc h - n) (rnd p n) n
          near = best p n P (2 ^ p * 2 ^ suc h) (2 ^ p * 2 ^ suc h - n) top (omega arith)

          tie : 2 ^ p * 2 ^ suc h + rnd p n ≡ 2 * n
          tie = omega (arith, near, below, w.1, two)

          v : (v : ℕ) × (rnd p n ≡ v * 2 ^ suc (dropped p n))
          v = rnd_tie p P n (2 ^ p * 2 ^ suc h) top tie (λ e. omega (arith, e))

          last : rnd p n + 2 ^ suc h ≡ 2 ^ p * 2 ^ suc h
          last = omega (arith, near, below, w.1, two)

          even : 2 * v.0 + 1 ≡ 2 ^ p
          even = eq_of_mul-eq-mul_right (2 ^ suc h) (pow_pos (suc h)) (2 * v.0 + 1) (2 ^ p) (omega (arith, last, v.1, next))
            where
              next : v.0 * 2 ^ suc (dropped p n) ≡ 2 * v.0 * 2 ^ suc h
              next = rw (places, pow-succ' 2 (suc h)) (omega arith)

          odd : (a b : ℕ) → 2 * a ≡ 2 ^ p → 2 * b + 1 ≡ 2 ^ p → ⊥
          odd a b x y = omega arith
