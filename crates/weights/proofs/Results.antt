-- Rule K1 for what the call gives: any two results that meet its contract are equal, and so are the areas. Assumes nothing.
use Rattle.std.specs.Prelude.{◌≡◌, List, ℕ, ⊤, Result}
use Rattle.kinds.specs.declared.refusal.Refusal.{Refusal}
use Rattle.kinds.specs.Limits.{Width}
use Rattle.kinds.specs.Outcome.{outcome}
use Rattle.kinds.proofs.OutcomeLaws.{determined}
use Rattle.weights.specs.Answers.{as_handed}
use Rattle.weights.specs.Weights.{handed_of}
use Rattle.weights.proofs.HandedSame.{handed_same}

pub handed_results : (W : Width) (ps : List ℕ) (at : ℕ) (area : List ℕ) {r q : Result ⊤ Refusal} {xs ys : List ℕ}
    → outcome (as_handed r) xs ≡ handed_of W ps at area → outcome (as_handed q) ys ≡ handed_of W ps at area → (r ≡ q) × (xs ≡ ys)
handed_results W ps at area {r} {q} e f = let d = determined (handed_of W ps at area) e f in (handed_same r q d.0, d.1)
