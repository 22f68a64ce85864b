-- What an opening answers, by the judge's verdict. Assumes nothing.
use Rattle.std.specs.Prelude.{◌≡◌, true, List, ℕ, eqb, pos, length, Float}
use Rattle.std.proofs.Common.{sym, ap, ◌∙◌, arith}
use Rattle.ieee.specs.Units.{nearest_float}
use Rattle.kinds.specs.Limits.{Width}
use Rattle.kinds.specs.Outcome.{outcome}
use Rattle.kinds.specs.Step.{Step}
use Rattle.kinds.specs.Step.{Refused}
use Rattle.kinds.specs.Verdict.{Verdict}
use Rattle.kinds.specs.Verdict as verdicts
use Rattle.judge.specs.Judge.{judged, floats, zero_sign}
use Rattle.extract.specs.Extract.{plus_zero, largest}
use Rattle.rounds.specs.Round.{fresh}
use Rattle.rounds.specs.ClosedLaws.{fresh_each}
use Rattle.walk.specs.Walk.{opened_after, opened}

pub opened_refused : (W : Width) (k : ℕ) (v : Verdict) (l p : ℕ) (ps : List ℕ) (work : List Float) → v ≡ verdicts.Refused l p
    → outcome (Refused l p) work ≡ opened_after W k v ps work
unfolding opened_after
opened_refused W k v l p ps work e = rw e

-- a good list's
abbrev pub first_of : Width → ℕ → List ℕ → Step
first_of W k ps = fresh W (nearest_float W.format (zero_sign W ps) (pos 0)) (length ps) (largest W.format (floats W ps)) 0 k (plus_zero W.format)

pub opened_good : (W : Width) (k : ℕ) (ps : List ℕ) (work : List Float) {xs : List Float} {q : Step} → xs ≡ floats W ps → q ≡ first_of W k ps
    → outcome q xs ≡ opened_after W k verdicts.Good ps work
unfolding opened_after
opened_good W k ps work x e = rw (e, x)

-- which is a state or a zero, and no refusal
pub first_accepted : (W : Width) (k : ℕ) (ps : List ℕ) (l p : ℕ) → first_of W k ps ≡ Refused l p → ⊥
first_accepted W k ps l p =
    fresh_each (λ q. q ≡ Refused l p → ⊥) W (nearest_float W.format (zero_sign W ps) (pos 0)) (length ps) (largest W.format (floats W ps)) 0 k
    (plus_zero W.format) (λ a e. let z : ◌≡◌ {A = ℕ} 0 1 = cc in omega arith) (λ a e. let z : ◌≡◌ {A = ℕ} 0 1 = cc in omega arith)

-- the list was judged good
pub opened_judged : (W : Width) (k : ℕ) (ps : List ℕ) (work : List Float) {xs : List Float} {q : Step}
    → judged W (eqb (length work) (length ps)) true ps ≡ verdicts.Good → xs ≡ floats W ps → q ≡ first_of W k ps → outcome q xs ≡ opened W k ps work
opened_judged W k ps work g x e = opened_good W k ps work x e ∙ ap (λ (v : Verdict). opened_after W k v ps work) (sym g)
