-- A list without a fault: its first fault is none exactly then. Assumes nothing.
use Rattle.std.specs.Prelude.{◌≡◌, refl, ◌↔◌, Bool, true, false, cond, ◌&&◌, List, [], ◌∷◌, ℕ, ◌+◌, eqb}
use Rattle.lists.proofs.Apart.{apart}
use Rattle.lists.specs.Every.{every}
use Rattle.kinds.specs.Limits.{Width}
use Rattle.kinds.specs.Verdict.{Good, Refused}
use Rattle.judge.specs.Judge.{fault_of, first_fault}
use Rattle.judge.specs.FaultlessLaws.{faultless}

-- ---- the first fault, places counted from k
pub faultless_good : (W : Width) (ps : List ℕ) (k : ℕ) → (faultless W ps ≡ true) ↔ (first_fault W ps k ≡ Good)
unfolding every first_fault
faultless_good W [] k = (λ e. refl, λ e. refl)
faultless_good W (p ∷ ps) k = go (eqb (fault_of W p) 0) (faultless_good W ps (k + 1))
  where
    go : (t : Bool) → (faultless W ps ≡ true) ↔ (first_fault W ps (k + 1) ≡ Good)
        → ((t && faultless W ps) ≡ true) ↔ (cond t (first_fault W ps (k + 1)) (Refused (fault_of W p) k) ≡ Good)
    go true h = h
    go false h = (λ e. apart (cc), λ e. apart (cc))
