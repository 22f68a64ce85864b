-- What the theorems of proofs/TwoProduct.antt speak of. Definitions only.
use Rattle.std.specs.Prelude.{ℕ}
use Rattle.units.specs.Whole.{Whole, ◌⊖◌, ◌⊙◌}
use Rattle.units.specs.Rounding.{fl}

-- what the algorithm computes for the error, from the halves
abbrev pub product_error : ℕ → (A B a₁ a₂ b₁ b₂ : Whole) → Whole
product_error p A B a₁ a₂ b₁ b₂ = fl p (fl p (a₂ ⊙ b₂) ⊖ fl p (fl p (fl p (fl p (A ⊙ B) ⊖ fl p (a₁ ⊙ b₁)) ⊖ fl p (a₂ ⊙ b₁)) ⊖ fl p (a₁ ⊙ b₂)))
