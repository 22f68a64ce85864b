-- A rescue's results: two that meet the contract, of the same bytes and areas, are equal, and so are both areas. Assumes nothing.
use Rattle.std.specs.Prelude.{◌≡◌, List, ℕ, Result, Ok, Err}
use Rattle.std.proofs.Common.{ap}
use Rattle.lists.proofs.Apart.{apart}
use Rattle.kinds.specs.declared.refusal.Refusal.{Refusal}
use Rattle.kinds.specs.Limits.{Width}
use Rattle.kinds.proofs.AnswersLaws.{refusal_same}
use Rattle.rescue.specs.declared.Report.{Report}
use Rattle.rescue.specs.Rescue.{rescuing, rescued_of}
use Rattle.rescue.specs.Rescued.{as_rescued}
use Rattle.rescue.proofs.RescueLaws.{rescue_determined}

-- two results with one answer are one result
pub rescued_same : (a b : Result Report Refusal) → as_rescued a ≡ as_rescued b → a ≡ b
rescued_same (Ok r) (Ok q) e = cc
rescued_same (Ok r) (Err q) e = apart (cc)
rescued_same (Err r) (Ok q) e = apart (cc)
rescued_same (Err r) (Err q) e = ap Err (refusal_same r q (cc) (cc))

pub rescue_results : (W : Width) (bytes sheet marks : List ℕ) {r q : Result Report Refusal} {xs ys us vs : List ℕ}
    → rescuing (as_rescued r) xs us ≡ rescued_of W bytes sheet marks → rescuing (as_rescued q) ys vs ≡ rescued_of W bytes sheet marks
    → (r ≡ q) × (xs ≡ ys) × (us ≡ vs)
rescue_results W bytes sheet marks {r} {q} e f = let d = rescue_determined W bytes sheet marks e f in (rescued_same r q d.0, d.1, d.2)
