-- What is heard of the nine calls of walk, sums and register: a refusal with its number is heard exactly when its row says, with the place for 2, 3 and
-- 19 and nothing more for the others. Assumes nothing.
use Rattle.std.specs.Prelude.{◌≡◌, refl, ◌↔◌, true, List, ℕ, ℤ, ◌+ℤ◌, ◌-ℤ◌, Float}
use Rattle.std.proofs.Common.{inl}
use Rattle.kinds.specs.Heard.{Place, refused, Row, step_heard, nearest_heard, parted_heard, entry_heard}
use Rattle.kinds.proofs.Hearing.{nearest_is, parted_is, entry_is, hears, placed}
use Rattle.kinds.specs.Limits.{doubles}
use Rattle.kinds.specs.State.{State}
use Rattle.kinds.specs.Verdict as verdicts
use Rattle.kinds.specs.Step as steps
use Rattle.kinds.specs.Nearest as nearests
use Rattle.kinds.specs.Parted as parteds
use Rattle.kinds.specs.Entry as entries
use Rattle.judge.specs.Table.{ListWhen}
use Rattle.judge.proofs.JudgeLaws.{list_refusal}
use Rattle.words.specs.Words.{whole_of}
use Rattle.addend.specs.Addend.{units_of}
use Rattle.register.specs.Register.{added, withdrawn, enter, rounded}
use Rattle.register.specs.Entries.{EntryWhen, wrong_length, bad_number, out_of_range}
use Rattle.register.proofs.RegisterLaws.{entry_when}
use Rattle.register.specs.Merge as merging
use Rattle.register.specs.Merge.{merged, MergeWhen}
use Rattle.sums.specs.Sums.{nearest_of, fitting, parts_of}
use Rattle.rounds.specs.Instances.{doubles_fit}
use Rattle.walk.specs.Walk.{opened, stepped, faithful_of}
use Rattle.demands.specs.Tables as tables
use Rattle.demands.specs.Tables.{StepWhen, WalkWhen, RoundWhen}
use Rattle.demands.proofs.Refusals.{parts_refused, round_refused, merge_refused}
use Rattle.demands.proofs.WalkHearing as walks

module _ (ps : List ℕ) where
  pub nearest_heard_lem : (k : ℕ) (p : Place) → (nearest_heard doubles (nearest_of doubles ps) ≡ refused k p)
      ↔ Row (λ k i. ListWhen doubles true true ps (verdicts.Refused k i)) k p
  nearest_heard_lem = walks.nearest_heard_lem doubles ps

  pub parts_heard : (area : List Float) (k : ℕ) (p : Place) → (parted_heard (parts_of doubles ps area).answer ≡ refused k p)
      ↔ Row (λ k i. ListWhen doubles true (fitting doubles area) ps (verdicts.Refused k i)) k p
  parts_heard area = hears parted_heard parteds.Refused (λ k i. refl) (parts_of doubles ps area).answer (parted_is (parts_of doubles ps area).answer)
      (λ k i. ListWhen doubles true (fitting doubles area) ps (verdicts.Refused k i)) (parts_refused ps area) (λ k i h. (list_refusal h).as_told)

  module _ (work : List Float) where
    pub open_heard : (e k : ℕ) (p : Place) → (step_heard doubles (opened doubles e ps work).answer ≡ refused k p)
        ↔ Row (λ k i. WalkWhen doubles ps work (verdicts.Refused k i)) k p
    open_heard = walks.open_heard doubles ps work

    pub faithful_heard_lem : (k : ℕ) (p : Place) → (step_heard doubles (faithful_of doubles ps work).answer ≡ refused k p)
        ↔ Row (λ k i. WalkWhen doubles ps work (verdicts.Refused k i)) k p
    faithful_heard_lem = walks.faithful_heard_lem doubles ps work doubles_fit

pub step_heard_lem : (s : State) (e b : ℕ) (work : List Float) (k : ℕ) (p : Place) → (step_heard doubles (stepped doubles s e b work).answer ≡ refused k p)
    ↔ Row (λ k i. StepWhen doubles s e b work (verdicts.Refused k i)) k p
step_heard_lem = walks.step_heard_lem doubles_fit

-- ---- the other tables give every number with place 0

pub round_heard : (ws : List ℕ) (k : ℕ) (p : Place) → (nearest_heard doubles (rounded ws) ≡ refused k p) ↔ Row (λ k i. RoundWhen ws (nearests.Refused k i)) k p
round_heard ws = hears (nearest_heard doubles) nearests.Refused (λ k i. refl) (rounded ws) (nearest_is doubles (rounded ws))
    (λ k i. RoundWhen ws (nearests.Refused k i)) (round_refused ws) (λ k i h. placed k i (inl (zeros h)))
  where
    zeros : {k i : ℕ} → RoundWhen ws (nearests.Refused k i) → i ≡ 0
    zeros (tables.wrong_words n) = refl
    zeros (tables.beyond l h) = refl

-- z is the whole number that would be there afterwards
entry_heard_lem : (ws : List ℕ) (p : ℕ) (z : ℤ) (k : ℕ) (q : Place) → (entry_heard (enter ws p z).answer ≡ refused k q)
    ↔ Row (λ k i. EntryWhen ws p z (entries.Refused k i)) k q
entry_heard_lem ws p z = hears entry_heard entries.Refused (λ k i. refl) (enter ws p z).answer (entry_is (enter ws p z).answer)
    (λ k i. EntryWhen ws p z (entries.Refused k i)) (λ k i. entry_when ws p z (entries.Refused k i)) (λ k i h. placed k i (inl (zeros h)))
  where
    zeros : {k i : ℕ} → EntryWhen ws p z (entries.Refused k i) → i ≡ 0
    zeros (wrong_length n) = refl
    zeros (bad_number l n) = refl
    zeros (out_of_range l e h) = refl

module _ (ws : List ℕ) (p : ℕ) where
  pub add_heard : (k : ℕ) (q : Place) → (entry_heard (added ws p).answer ≡ refused k q)
      ↔ Row (λ k i. EntryWhen ws p (whole_of ws +ℤ units_of doubles p) (entries.Refused k i)) k q
  add_heard = entry_heard_lem ws p (whole_of ws +ℤ units_of doubles p)

  pub withdraw_heard : (k : ℕ) (q : Place) → (entry_heard (withdrawn ws p).answer ≡ refused k q)
      ↔ Row (λ k i. EntryWhen ws p (whole_of ws -ℤ units_of doubles p) (entries.Refused k i)) k q
  withdraw_heard = entry_heard_lem ws p (whole_of ws -ℤ units_of doubles p)

pub merge_heard : (us vs out : List ℕ) (k : ℕ) (p : Place) → (entry_heard (merged us vs out).answer ≡ refused k p)
    ↔ Row (λ k i. MergeWhen us vs out (entries.Refused k i)) k p
merge_heard us vs out = hears entry_heard entries.Refused (λ k i. refl) (merged us vs out).answer (entry_is (merged us vs out).answer)
    (λ k i. MergeWhen us vs out (entries.Refused k i)) (merge_refused us vs out) (λ k i h. placed k i (inl (zeros h)))
  where
    zeros : {k i : ℕ} → MergeWhen us vs out (entries.Refused k i) → i ≡ 0
    zeros (merging.wrong_length n) = refl
    zeros (merging.out_of_range T h) = refl
