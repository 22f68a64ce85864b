-- What the theorems of proofs/Split.antt speak of. Definitions only.
use Prim.Native.Nat.{ℕ, suc, ◌+◌, ◌*◌, ◌^◌, ◌≤◌, ◌<◌}
use Rattle.units.specs.Whole.{Whole, ◌⊕◌, ◌⊖◌, ◌⊗◌, ◌≈◌, mag, Within, Multiple}
use Rattle.units.specs.Rounding.{fl}

-- A has p digits, the last of them at 2 ^ i
pub record LastPlace (p i : ℕ) (A : Whole) : Type 0 where
  pub on : Multiple i A
  pub least : 2 ^ p * 2 ^ i ≤ 2 * mag A
  pub most : mag A < 2 ^ p * 2 ^ i

-- x and y are the halves of A
pub record Halves (p s i : ℕ) (A x y : Whole) : Type 0 where
  pub sum : x ⊕ y ≈ A
  pub upper_on : Multiple (s + i) x
  pub upper_small : Within x (2 ^ p * 2 ^ i)
  pub lower_on : Multiple i y
  pub lower_small : Within (2 ⊗ y) (2 ^ s * 2 ^ i)

-- the multiple, and the two halves that come of it
abbrev pub multiplied : ℕ → ℕ → Whole → Whole
multiplied p s A = fl p (suc (2 ^ s) ⊗ A)

abbrev pub upper_half : ℕ → ℕ → Whole → Whole
upper_half p s A = fl p (multiplied p s A ⊖ fl p (multiplied p s A ⊖ A))

abbrev pub lower_half : ℕ → ℕ → Whole → Whole
lower_half p s A = fl p (A ⊖ upper_half p s A)
