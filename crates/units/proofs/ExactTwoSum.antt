-- TwoSum: the sum and its error are a + b. Assumes nothing.
use Rattle.std.specs.Prelude.{ℕ, ◌*◌, ◌^◌, ◌<◌}
use Rattle.std.proofs.Common.{arith}
use Rattle.units.specs.Whole.{Whole, ◌⊕◌, ◌⊖◌, ◌≈◌, Under, Multiple}
use Rattle.units.specs.Rounding.{fl, Representable}
use Rattle.units.proofs.SignedRounding.{rep_same, fl_exact}
use Rattle.units.proofs.Distance.{error_rep}
use Rattle.units.proofs.TwoSum.{two_sum_difference}

module _ (p : ℕ) (P : 0 < p) where
  module _ {a b : Whole} (j : ℕ) (A : Representable p a) (B : Representable p b) (x : Multiple j a) (y : Multiple j b) (h : Under b (2 ^ p * 2 ^ j)) where
    -- q and y are exact, so x + y is a + b
    pub two_sum : fl p (b ⊖ fl p (fl p (a ⊕ b) ⊖ a)) ≈ a ⊕ b ⊖ fl p (a ⊕ b)
    two_sum =
        let q = fl_exact p P (two_sum_difference p P j A B x y h) in
        omega (arith, q, fl_exact p P (rep_same {b = b ⊖ fl p (fl p (a ⊕ b) ⊖ a)} (omega (arith, q)) (error_rep p P A B)))
