-- The rounded sum of c numbers of magnitude at most 2 ^ j, against their exact sum: each addition errs by at most 2 ^ -p of what it may reach. The sum of
-- numbers that are all zero is zero. Assumes nothing.
use Rattle.std.specs.Prelude.{◌≡◌, refl, List, [], ◌∷◌, ℕ, suc, ◌+◌, ◌*◌, ◌^◌, ◌≤◌, ◌<◌, length}
use Rattle.std.proofs.Common.{ap, mul-le-mul_right, arith}
use Rattle.units.specs.Whole.{Whole, nat, ◌⊕◌, ◌≈◌, Within, total, All}
use Rattle.units.specs.Rounding.{fl, Representable}
use Rattle.units.specs.Walk.{summed}
use Rattle.units.proofs.SignedRounding.{rep_same, rep_zero, fl_exact, fl_within, fl_relative}
use Rattle.units.specs.RemainderSum.{Summed}

module _ (p : ℕ) (P : 0 < p) where
  none : (g : ℕ) → Summed p 0 g (nat 0) (nat 0)
  none g = record { small = omega arith; off = omega arith }

  one_more : {T D : Whole} (j c : ℕ) (x : Whole) → Summed p c (2 ^ j) T D → Within x (2 ^ j) → c < 2 ^ p → Summed p (suc c) (2 ^ j) (fl p (T ⊕ x)) (D ⊕ x)
  one_more {T} {D} j c x L h l = record {
    small = fl_within p P (T ⊕ x) edge sum;
    off = omega (arith, L.off, fl_relative p P (T ⊕ x) (suc c * 2 ^ j) (omega (arith, L.small)));
  }
    where
      edge : Representable p (nat (suc c * 2 ^ j))
      edge = record { exp = j; on = record { count = nat (suc c); is = omega arith }; small = omega (arith, mul-le-mul_right (2 ^ j) l) }

      sum : Within (T ⊕ x) (suc c * 2 ^ j)
      sum = omega (arith, L.small)

  more : (xs : List Whole) {c : ℕ} {T D : Whole} (j n : ℕ) → Summed p c (2 ^ j) T D → All (λ x. Within x (2 ^ j)) xs → n ≡ c + length xs → n ≤ 2 ^ p
      → (S : Whole) → S ≈ D ⊕ total xs → Summed p n (2 ^ j) (summed p T xs) S
  more [] {c} {T} {D} j n L h i l S s =
      let m : n ≡ c = omega arith in
      rw m (record { small = L.small; off = omega (arith, L.off, ap (λ (x : ℕ). 2 ^ p * x) s) })
  more (x ∷ xs) {c} {T} {D} j n L h i l S s = more xs j n (one_more j c x L h.0 (omega arith)) h.1 (omega arith) l S (omega arith)

  pub summed_near : (xs : List Whole) (j n : ℕ) → All (λ x. Within x (2 ^ j)) xs → length xs ≡ n → n ≤ 2 ^ p
      → Summed p n (2 ^ j) (summed p (nat 0) xs) (total xs)
  summed_near xs j n h i l = more xs j n (none (2 ^ j)) h (omega arith) l (total xs) (omega arith)

  -- ---- where all are zero

  pub summed_zero : (xs : List Whole) (T : Whole) → T ≈ nat 0 → All (λ x. x ≈ nat 0) xs → summed p T xs ≈ nat 0
  summed_zero [] T t h = t
  summed_zero (x ∷ xs) T t h = summed_zero xs (fl p (T ⊕ x)) (omega (arith, fl_exact p P (rep_same {b = T ⊕ x} (omega (arith, t, h.0)) (rep_zero p)))) h.1

pub total_zero : (xs : List Whole) → All (λ x. x ≈ nat 0) xs → total xs ≈ nat 0
total_zero [] h = refl
total_zero (x ∷ xs) h = omega (arith, h.0, total_zero xs h.1)
