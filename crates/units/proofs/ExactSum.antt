-- The exact sum of a list is the same for every reordering of the list; that of differences is that of their integers; and it is bounded by the length and
-- the largest magnitude. Assumes nothing.
use Rattle.std.specs.Prelude.{◌≡◌, ℕ, suc, ◌+◌, ◌*◌, ◌≤◌, ◌<◌, ℤ, pos, ◌+ℤ◌, nat_abs, length, get_or}
use Rattle.std.proofs.Common.{sym, ap, ◌∙◌, arith}
use mathlib.Core.List.Perm
use mathlib.Core.List.{List, [], ◌∷◌, ◌++◌, map, Perm}
use Rattle.std.proofs.Math.IntN.{+ℤ_assoc, +ℤ_comm, +ℤ_idl, ℤ_set}
use Rattle.units.specs.Whole.{Whole, ◌⊕◌, int, difference, exact_sum, total}
use Rattle.units.proofs.Integers.{int_plus, int_mag, int_difference, mag_difference}

pub sum_reordered : {xs ys : List ℤ} → Perm xs ys → exact_sum xs ≡ exact_sum ys
sum_reordered π = Perm.foldr-eq ℤ_set ◌+ℤ◌ swap π (pos 0)
  where
    swap : (a b x : ℤ) → a +ℤ (b +ℤ x) ≡ b +ℤ (a +ℤ x)
    swap a b x = sym (+ℤ_assoc a b x) ∙ ap (λ (y : ℤ). y +ℤ x) (+ℤ_comm a b) ∙ +ℤ_assoc b a x

pub sum_append : (xs ys : List ℤ) → exact_sum (xs ++ ys) ≡ exact_sum xs +ℤ exact_sum ys
sum_append [] ys = sym (+ℤ_idl (exact_sum ys))
sum_append (x ∷ xs) ys = ap (λ (y : ℤ). x +ℤ y) (sum_append xs ys) ∙ sym (+ℤ_assoc x (exact_sum xs) (exact_sum ys))

pub sum_total : (xs : List Whole) → exact_sum (map int xs) ≡ int (total xs)
sum_total [] = sym (int_difference (pos 0))
sum_total (x ∷ xs) = ap (λ (y : ℤ). int x +ℤ y) (sum_total xs) ∙ sym (int_plus x (total xs))

-- n numbers of magnitude at most c have a sum of magnitude at most n c
pub abs_plus : (a b : ℤ) → nat_abs (a +ℤ b) ≤ nat_abs a + nat_abs b
abs_plus a b = rw (← plus, int_mag (difference a ⊕ difference b), ← (mag_difference a), ← (mag_difference b)) (omega arith)
  where
    plus : int (difference a ⊕ difference b) ≡ a +ℤ b
    plus = int_plus (difference a) (difference b) ∙ (λ i. int_difference a i +ℤ int_difference b i)

pub sum_bound : (c : ℕ) (zs : List ℤ) → ((j : ℕ) → j < length zs → nat_abs (get_or zs j (pos 0)) ≤ c) → nat_abs (exact_sum zs) ≤ length zs * c
sum_bound c [] h = omega arith
sum_bound c (z ∷ zs) h = omega (arith, abs_plus z (exact_sum zs), h 0 (omega arith), sum_bound c zs (λ j l. h (suc j) (omega arith)))
