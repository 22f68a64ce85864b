-- What the theorems of proofs/Extraction.antt speak of. Definitions only.
use Rattle.std.specs.Prelude.{ℕ, suc, ◌+◌, ◌-◌, ◌^◌}
use Rattle.units.specs.Whole.{Whole, nat, ◌⊕◌, ◌⊖◌, ◌⊗◌, ◌≈◌, Within, Multiple}
use Rattle.units.specs.Rounding.{fl}
use Rattle.units.specs.Walk.{high, remainder}

-- q is (sigma + x rounded) less sigma, a multiple of 2 ^ -p sigma and at most 2 ^ e; the remainder is x less q and at most 2 ^ -p sigma, which is said
-- twice over, so that it comes to 0 where 2 ^ -p sigma is below a unit
pub record Extracted (p M e : ℕ) (x : Whole) : Type 0 where
  pub high_is : high p (M + e) x ≈ fl p (nat (2 ^ (M + e)) ⊕ x) ⊖ nat (2 ^ (M + e))
  pub high_on : Multiple (M + e - p) (high p (M + e) x)
  pub high_small : Within (high p (M + e) x) (2 ^ e)
  pub remainder_is : remainder p (M + e) x ≈ x ⊖ high p (M + e) x
  pub remainder_small : Within (2 ⊗ remainder p (M + e) x) (2 ^ (suc (M + e) - p))
