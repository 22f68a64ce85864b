-- Rules D1 and O6, for the nine calls of walk, sums and register: each is refused with k exactly when the row of k says and no earlier
-- one holds, and a refused call leaves every lent area as it was. Assumes nothing.
use Rattle.std.specs.Prelude.{◌≡◌, ◌↔◌, true, List, ℕ, ◌+ℤ◌, ◌-ℤ◌, length, Float}
use Rattle.std.proofs.Common.{ap}
use Rattle.lists.proofs.Apart.{apart}
use Rattle.kinds.specs.Limits.{doubles}
use Rattle.kinds.specs.Outcome.{Outcome, outcome}
use Rattle.kinds.specs.State.{State}
use Rattle.kinds.specs.Verdict.{Verdict}
use Rattle.kinds.specs.Verdict as verdicts
use Rattle.kinds.specs.Nearest as nearests
use Rattle.kinds.specs.Parted.{Parted}
use Rattle.kinds.specs.Parted as parteds
use Rattle.kinds.specs.Entry as entries
use Rattle.kinds.specs.Step as steps
use Rattle.judge.specs.Judge.{judged}
use Rattle.judge.specs.Table.{ListWhen}
use Rattle.words.specs.Words.{whole_of}
use Rattle.addend.specs.Addend.{units_of}
use Rattle.register.specs.Register.{added, withdrawn, rounded}
use Rattle.register.specs.Entries.{EntryWhen}
use Rattle.register.proofs.RegisterLaws.{entry_when, entry_leaves}
use Rattle.register.specs.Merge.{merged, MergeWhen}
use Rattle.register.proofs.MergeLaws as merging
use Rattle.sums.specs.Sums.{nearest_of, fitting, parts_of, parts_after}
use Rattle.sums.proofs.Promised.{nearest_refusals, parts_refusals}
use Rattle.rounds.specs.Instances.{doubles_fit}
use Rattle.walk.specs.Walk.{opened, stepped, faithful_of}
use Rattle.demands.specs.SoundState.{SoundState}
use Rattle.demands.specs.Tables.{StepWhen, OfState, WalkWhen, RoundWhen}
use Rattle.demands.proofs.TablesLaws.{round_when}
use Rattle.demands.proofs.WalkRefusals as walks

-- ---- sums::nearest is lent no area

pub nearest_refused : (ps : List ℕ) (k i : ℕ) → (nearest_of doubles ps ≡ nearests.Refused k i) ↔ ListWhen doubles true true ps (verdicts.Refused k i)
nearest_refused = nearest_refusals doubles

-- ---- sums::parts

module _ (ps : List ℕ) (area : List Float) (k i : ℕ) where
  whole : (v : Verdict) → (parts_after doubles v ps area).answer ≡ parteds.Refused k i → parts_after doubles v ps area ≡ outcome (parteds.Refused k i) area
  unfolding parts_after
  whole verdicts.Good e = apart (cc)
  whole (verdicts.Refused l j) e = rw e

  pub parts_refused : ((parts_of doubles ps area).answer ≡ parteds.Refused k i) ↔ ListWhen doubles true (fitting doubles area) ps (verdicts.Refused k i)
  parts_refused = (
    λ e. (parts_refusals doubles ps area k i).0 (whole (judged doubles true (fitting doubles area) ps) e),
    λ G. ap (λ (w : Outcome Parted Float). w.answer) ((parts_refusals doubles ps area k i).1 G),
  )

  pub parts_leaves : (parts_of doubles ps area).answer ≡ parteds.Refused k i → (parts_of doubles ps area).area ≡ area
  parts_leaves e = ap (λ (w : Outcome Parted Float). w.area) (whole (judged doubles true (fitting doubles area) ps) e)

-- ---- register::add, register::withdraw

module _ (ws : List ℕ) (p k i : ℕ) where
  pub add_refused : ((added ws p).answer ≡ entries.Refused k i) ↔ EntryWhen ws p (whole_of ws +ℤ units_of doubles p) (entries.Refused k i)
  add_refused = entry_when ws p (whole_of ws +ℤ units_of doubles p) (entries.Refused k i)

  pub add_leaves : (added ws p).answer ≡ entries.Refused k i → (added ws p).area ≡ ws
  add_leaves = entry_leaves ws p (whole_of ws +ℤ units_of doubles p)

  pub withdraw_refused : ((withdrawn ws p).answer ≡ entries.Refused k i) ↔ EntryWhen ws p (whole_of ws -ℤ units_of doubles p) (entries.Refused k i)
  withdraw_refused = entry_when ws p (whole_of ws -ℤ units_of doubles p) (entries.Refused k i)

  pub withdraw_leaves : (withdrawn ws p).answer ≡ entries.Refused k i → (withdrawn ws p).area ≡ ws
  withdraw_leaves = entry_leaves ws p (whole_of ws -ℤ units_of doubles p)

-- ---- register::round writes to no area

pub round_refused : (ws : List ℕ) (k i : ℕ) → (rounded ws ≡ nearests.Refused k i) ↔ RoundWhen ws (nearests.Refused k i)
round_refused ws k i = round_when ws (nearests.Refused k i)

-- ---- register::merge

module _ (us vs out : List ℕ) (k i : ℕ) where
  pub merge_refused : ((merged us vs out).answer ≡ entries.Refused k i) ↔ MergeWhen us vs out (entries.Refused k i)
  merge_refused = merging.merge_when us vs out (entries.Refused k i)

  pub merge_leaves : (merged us vs out).answer ≡ entries.Refused k i → (merged us vs out).area ≡ out
  merge_leaves = merging.merge_leaves us vs out

-- ---- walk::open, walk::faithful

module _ (ps : List ℕ) (work : List Float) (k i : ℕ) where
  pub open_refused : (e : ℕ) → ((opened doubles e ps work).answer ≡ steps.Refused k i) ↔ WalkWhen doubles ps work (verdicts.Refused k i)
  open_refused e = walks.open_refused doubles ps work e k i

  pub open_leaves : (e : ℕ) → (opened doubles e ps work).answer ≡ steps.Refused k i → (opened doubles e ps work).area ≡ work
  open_leaves e = walks.open_leaves doubles ps work e k i

  pub faithful_refused : ((faithful_of doubles ps work).answer ≡ steps.Refused k i) ↔ WalkWhen doubles ps work (verdicts.Refused k i)
  faithful_refused = walks.faithful_refused doubles ps work doubles_fit k i

  pub faithful_leaves : (faithful_of doubles ps work).answer ≡ steps.Refused k i → (faithful_of doubles ps work).area ≡ work
  faithful_leaves = walks.faithful_leaves doubles ps work doubles_fit k i

-- ---- walk::step

module _ (s : State) (e b : ℕ) (work : List Float) (k i : ℕ) where
  pub step_refused : ((stepped doubles s e b work).answer ≡ steps.Refused k i) ↔ StepWhen doubles s e b work (verdicts.Refused k i)
  step_refused = walks.step_refused doubles s e b work doubles_fit.top doubles_fit.top_is k i

  pub step_leaves : (stepped doubles s e b work).answer ≡ steps.Refused k i → (stepped doubles s e b work).area ≡ work
  step_leaves = walks.step_leaves doubles s e b work k i

pub step_sound : (s : State) (e b : ℕ) (work : List Float) → length work ≡ s.n → e ≡ s.ensemble
    → SoundState doubles s work ↔ ((k i : ℕ) → OfState k → (stepped doubles s e b work).answer ≡ steps.Refused k i → ⊥)
step_sound s e b work = walks.step_sound doubles s e b work doubles_fit.top doubles_fit.top_is
