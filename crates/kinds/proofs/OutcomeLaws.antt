-- Two results that meet one equation are the same: what is answered, and what is left in the lent area. Assumes nothing.
use Rattle.std.specs.Prelude.{◌≡◌, List}
use Rattle.std.proofs.Common.{sym, ap, ◌∙◌}
use Rattle.kinds.specs.Outcome.{Outcome, outcome}

-- what equals one thing is equal
pub same : {A : Type 0} {x y z : A} → x ≡ z → y ≡ z → x ≡ y
same p q = p ∙ sym q

pub determined : {A X : Type 0} {r q : A} {xs ys : List X} (w : Outcome A X) → outcome r xs ≡ w → outcome q ys ≡ w → (r ≡ q) × (xs ≡ ys)
determined {A} {X} w p q = (ap (λ (w : Outcome A X). w.answer) (same p q), ap (λ (w : Outcome A X). w.area) (same p q))
