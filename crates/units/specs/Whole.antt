-- Signed whole numbers as differences of two naturals, up - dn. Definitions only.
-- One number has many such writings, and `a ≈ b` says that a and b are the same number. Sums, orders and bounds are abbreviations that come to linear
-- facts about naturals, so that `omega arith` proves what is linear in signed numbers with no lemma. `Integers` crosses to the language's own ℤ.
use Rattle.std.specs.Prelude.{◌≡◌, ℕ, suc, ◌+◌, ◌-◌, ◌*◌, ◌^◌, ◌≤◌, ◌<◌, ℤ, pos, negsuc, ◌+ℤ◌}
use mathlib.Core.List.{List, [], ◌∷◌, foldr}
use Rattle.std.proofs.Math.IntN.{sub_ℕ}

pub record Whole : Type 0 where
  pub up : ℕ
  pub dn : ℕ

abbrev pub nat : ℕ → Whole
nat n = record { up = n; dn = 0 }

infixl 65 ◌⊕◌ ◌⊖◌
abbrev pub ◌⊕◌ : Whole → Whole → Whole
a ⊕ b = record { up = a.up + b.up; dn = a.dn + b.dn }

abbrev pub neg : Whole → Whole
neg a = record { up = a.dn; dn = a.up }

abbrev pub ◌⊖◌ : Whole → Whole → Whole
a ⊖ b = a ⊕ neg b

infixl 70 ◌⊗◌
abbrev pub ◌⊗◌ : ℕ → Whole → Whole
c ⊗ a = record { up = c * a.up; dn = c * a.dn }

-- the product of two of them, (a - b)(c - d) = (a c + b d) - (a d + b c)
infixl 70 ◌⊙◌
unfoldable pub ◌⊙◌ : Whole → Whole → Whole
a ⊙ b = record { up = a.up * b.up + a.dn * b.dn; dn = a.up * b.dn + a.dn * b.up }

-- the same number; at most; less
infix 50 ◌≈◌ ◌≼◌ ◌≺◌
abbrev pub ◌≈◌ : Whole → Whole → Type 0
a ≈ b = a.up + b.dn ≡ b.up + a.dn

abbrev pub ◌≼◌ : Whole → Whole → Type 0
a ≼ b = a.up + b.dn ≤ b.up + a.dn

abbrev pub ◌≺◌ : Whole → Whole → Type 0
a ≺ b = a.up + b.dn < b.up + a.dn

-- |a|; |a| ≤ c; |a| < c
abbrev pub mag : Whole → ℕ
mag a = (a.up - a.dn) + (a.dn - a.up)

abbrev pub Within : Whole → ℕ → Type 0
Within a c = (a.up ≤ a.dn + c) × (a.dn ≤ a.up + c)

abbrev pub Under : Whole → ℕ → Type 0
Under a c = (a.up < a.dn + c) × (a.dn < a.up + c)

-- the same number as one of the language's own integers, and an integer as a difference
unfoldable pub int : Whole → ℤ
int a = sub_ℕ a.up a.dn

abbrev pub difference : ℤ → Whole
difference (pos n) = nat n
difference (negsuc n) = neg (nat (suc n))

-- a is `count` times 2 ^ j
pub record Multiple (j : ℕ) (a : Whole) : Type 0 where
  pub count : Whole
  pub is : a ≈ 2 ^ j ⊗ count

-- the exact sum of a list, of integers and of differences
abbrev pub exact_sum : List ℤ → ℤ
exact_sum zs = foldr ◌+ℤ◌ (pos 0) zs

abbrev pub total : List Whole → Whole
total [] = nat 0
total (x ∷ xs) = x ⊕ total xs

-- every number of a list
abbrev pub All : (Whole → Type 0) → List Whole → Type 0
All A [] = Unit {0}
All A (x ∷ xs) = A x × All A xs
