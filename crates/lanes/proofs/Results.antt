-- Two results of a call that meet its contract, of the same lanes, count and number, are equal, and so is what is left. Assumes nothing.
use Rattle.std.specs.Prelude.{◌≡◌, List, ℕ, ℤ, Result, Ok, Err}
use Rattle.std.proofs.Common.{ap}
use Rattle.lists.proofs.Apart.{apart}
use Rattle.kinds.specs.declared.refusal.Refusal.{Refusal}
use Rattle.kinds.specs.Outcome.{outcome}
use Rattle.kinds.proofs.AnswersLaws.{refusal_same}
use Rattle.lanes.specs.Laid.{as_laid}
use Rattle.lanes.specs.Lanes.{lay, settling, settled}
use Rattle.lanes.proofs.LanesLaws.{lay_determined, settle_determined}

-- two results with one answer are one result
pub laid_same : (a b : Result ℕ Refusal) → as_laid a ≡ as_laid b → a ≡ b
laid_same (Ok m) (Ok n) e = cc
laid_same (Ok m) (Err q) e = apart (cc)
laid_same (Err r) (Ok n) e = apart (cc)
laid_same (Err r) (Err q) e = ap Err (refusal_same r q (cc) (cc))

pub lay_results : (zs : List ℤ) (calls p : ℕ) (z : ℤ) {r q : Result ℕ Refusal} {xs ys : List ℤ} → outcome (as_laid r) xs ≡ lay zs calls p z
    → outcome (as_laid q) ys ≡ lay zs calls p z → (r ≡ q) × (xs ≡ ys)
lay_results zs calls p z {r} {q} e f = let d = lay_determined zs calls p z e f in (laid_same r q d.0, d.1)

pub settle_results : (zs : List ℤ) (calls : ℕ) (ws : List ℕ) {r q : Result ℕ Refusal} {xs ys : List ℤ} {us vs : List ℕ}
    → settling (as_laid r) xs us ≡ settled zs calls ws → settling (as_laid q) ys vs ≡ settled zs calls ws → (r ≡ q) × (xs ≡ ys) × (us ≡ vs)
settle_results zs calls ws {r} {q} e f = let d = settle_determined zs calls ws e f in (laid_same r q d.0, d.1, d.2)
