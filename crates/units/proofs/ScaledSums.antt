-- A whole number times a sum of integers is the sum of its products with them; and a number above zero that multiplies an integer keeps its sign and multiplies
-- its magnitude. Assumes nothing.
use Rattle.std.specs.Prelude.{◌≡◌, refl, List, [], ◌∷◌, map, ℕ, zero, suc, ◌*◌, ℤ, pos, negsuc, neg_ℤ, nat_abs, ◌+ℤ◌, ◌-ℤ◌, ◌*ℤ◌}
use Rattle.std.proofs.Common.{sym, ap, ◌∙◌, arith}
use Rattle.std.proofs.Math.IntN.{*ℤ-zero}
use Rattle.units.specs.Whole.{Whole, nat, ◌⊕◌, ◌⊖◌, ◌⊙◌, int, difference, exact_sum}
use Rattle.units.proofs.Integers.{int_same, int_plus, int_minus, int_difference}
use Rattle.units.proofs.Products.{times_plus, int_times}

module _ (c : ℕ) where
  -- c times an integer, by differences
  scaled : (a : Whole) → pos c *ℤ int a ≡ int (nat c ⊙ a)
  scaled a = sym (int_times (nat c) a ∙ ap (λ (z : ℤ). z *ℤ int a) (int_difference (pos c)))

  pub scale_plus : (S T : ℤ) → pos c *ℤ (S +ℤ T) ≡ pos c *ℤ S +ℤ pos c *ℤ T
  scale_plus S T =
      let a = difference S in
      let b = difference T in
      ap (λ (z : ℤ). pos c *ℤ z) ((λ i. sym (int_difference S) i +ℤ sym (int_difference T) i) ∙ sym (int_plus a b))
      ∙ scaled (a ⊕ b)
      ∙ int_same (nat c ⊙ (a ⊕ b)) (nat c ⊙ a ⊕ nat c ⊙ b) (times_plus (nat c) a b)
      ∙ int_plus (nat c ⊙ a) (nat c ⊙ b)
      ∙ (λ i. sym (scaled a) i +ℤ sym (scaled b) i)
      ∙ (λ i. pos c *ℤ int_difference S i +ℤ pos c *ℤ int_difference T i)

  pub scale_sum : (zs : List ℤ) → pos c *ℤ exact_sum zs ≡ exact_sum (map (λ (z : ℤ). pos c *ℤ z) zs)
  scale_sum [] = *ℤ-zero (pos c)
  scale_sum (z ∷ zs) = scale_plus z (exact_sum zs) ∙ ap (λ (s : ℤ). pos c *ℤ z +ℤ s) (scale_sum zs)

  pub scale_abs : (S : ℤ) → nat_abs (pos c *ℤ S) ≡ c * nat_abs S
  scale_abs (pos n) = refl
  scale_abs (negsuc n) = neg_abs (c * suc n)
    where
      neg_abs : (n : ℕ) → nat_abs (neg_ℤ (pos n)) ≡ n
      neg_abs zero = refl
      neg_abs (suc n) = refl

-- what a sum leaves when one of its two numbers is taken away
pub plus_minus : (S T : ℤ) → (S +ℤ T) -ℤ S ≡ T
plus_minus S T =
    let a = difference S in
    let b = difference T in
    (λ i. (sym (int_difference S) i +ℤ sym (int_difference T) i) -ℤ sym (int_difference S) i)
    ∙ (λ i. sym (int_plus a b) i -ℤ int a)
    ∙ sym (int_minus (a ⊕ b) a)
    ∙ int_same ((a ⊕ b) ⊖ a) b (omega arith)
    ∙ int_difference T
