-- The promise of lanes: any additions and withdrawals from nothing, at most 2 ^ 30 of allowed numbers and any of others, settle to the words that the first
-- form holds after the same calls; and with settlings between, fewer than 2 ^ 37 in all. Assumes nothing.
use Rattle.std.specs.Prelude.{◌≡◌, refl, List, [], ◌∷◌, ℕ, ◌+◌, ◌^◌, ◌≤◌, ◌<◌, length}
use Rattle.std.proofs.Common.{inl, inr, lt_of_le_of_lt, arith, lit<}
use Rattle.lists.proofs.Apart.{apart}
use Rattle.kinds.specs.Limits.{doubles}
use Rattle.judge.specs.Judge.{fault_of}
use Rattle.judge.specs.FaultLaws.{fault_number}
use Rattle.words.specs.Words.{word_count, whole_of}
use Rattle.register.specs.Entries.{Change, pattern_of, change_of, run, allowed_in, zeros}
use Rattle.register.proofs.RunLaws.{allowed_one, allowed_rest, never_out}
use Rattle.lanes.specs.Laid.{Laid}
use Rattle.lanes.specs.Laid.{Counted, Refused}
use Rattle.lanes.specs.Lanes.{most_calls, settled_lanes, settled}
use Rattle.lanes.specs.Table.{LayWhen, counted, wrong_length, no_room, bad_number, too_many}
use Rattle.lanes.specs.SettleTable.{SettledTo}
use Rattle.lanes.specs.Runs.{lane_changed, LaneRegister, begun, Act, change, settle, acted, lane_run, changes_of}
use Rattle.lanes.specs.Runs.{NotFull, NeverFull}
use Rattle.lanes.proofs.LanesLaws.{laid_heard_lem, lay_when, lay_counts, lay_given, settle_counts}
use Rattle.lanes.proofs.FirstForm.{history_settles}

-- ---- as many as lanes can take: none is one too many
module _ (r : LaneRegister) (c : Change) (cs : List Change) where
  count_next : (acted r (change c)).calls + allowed_in cs ≤ r.calls + allowed_in (c ∷ cs)
  count_next = by (lane_changed r.lanes r.calls c).answer refl
    where
      by : (a : Laid) → (lane_changed r.lanes r.calls c).answer ≡ a → (acted r (change c)).calls + allowed_in cs ≤ r.calls + allowed_in (c ∷ cs)
      by (Counted n) a =
          let g = lay_given r.lanes r.calls (pattern_of c) (change_of c) a in
          let m = lay_counts r.lanes r.calls (pattern_of c) (change_of c) a in
          rw a (omega (arith, m.0, allowed_one c cs g.2))
      by (Refused k i) a = rw a (omega (arith, allowed_rest c cs))

  not_full : r.calls + allowed_in (c ∷ cs) ≤ most_calls → NotFull r (change c)
  not_full h a = go ((lay_when r.lanes r.calls (pattern_of c) (change_of c) (Refused 24 0)).0 (laid_heard_lem _ (Refused 24 0) a)) refl
    where
      go : {a : Laid} → LayWhen r.lanes r.calls (pattern_of c) a → a ≡ Refused 24 0 → ⊥
      go (counted l R e m) q = apart (cc)
      go (wrong_length n) q = let f : ◌≡◌ {A = ℕ} 4 24 = cc in omega arith
      go (no_room l N) q = let f : ◌≡◌ {A = ℕ} 25 24 = cc in omega arith
      go (bad_number l R n) q =
          let f : fault_of doubles (pattern_of c) ≡ 24 = cc in
          elim (fault_number doubles (pattern_of c) n) [ inl e ↦ omega arith | inr e ↦ omega arith ]
      go (too_many l R e m) q = omega (arith, allowed_one c cs e)

-- a settling leaves no more calls than there were
settle_next : (r : LaneRegister) → (acted r settle).calls ≤ r.calls
settle_next r = by (settled r.lanes r.calls r.words).answer refl
  where
    by : (a : Laid) → (settled r.lanes r.calls r.words).answer ≡ a → (acted r settle).calls ≤ r.calls
    by (Counted n) a = rw a (omega (arith, (settle_counts r.lanes r.calls r.words a).0))
    by (Refused k i) a = rw a (omega arith)

pub never_full : (r : LaneRegister) (hs : List Act) → r.calls + allowed_in (changes_of hs) ≤ most_calls → NeverFull r hs
unfolding NeverFull changes_of
never_full r [] h = tt
never_full r (change c ∷ hs) h =
    (not_full r c (changes_of hs) h, never_full (acted r (change c)) hs (omega (arith, count_next r c (changes_of hs))))
never_full r (settle ∷ hs) h = (tt, never_full (acted r settle) hs (omega (arith, settle_next r)))

-- ---- the promise: at most 2 ^ 30 allowed numbers from nothing, any number of others and any settlings between. A settling is accepted, and gives the words
-- that the first form holds after the same additions and withdrawals.
module _ (out : List ℕ) (l : length out ≡ word_count) where
  pub promise : (hs : List Act) → allowed_in (changes_of hs) ≤ most_calls
      → let r = lane_run (begun out) hs in
      SettledTo (settled r.lanes r.calls r.words) (settled_lanes (whole_of (run zeros (changes_of hs)))) (run zeros (changes_of hs))
  promise hs h = history_settles out l hs (never_full (begun out) hs (omega arith)) (never_out (changes_of hs) (lt_of_le_of_lt h (lit< tt)))

  -- with settlings between, fewer than 2 ^ 37, as long as no call is one too many since the last settling
  pub long_promise : (hs : List Act) → NeverFull (begun out) hs → allowed_in (changes_of hs) < 2 ^ 37
      → let r = lane_run (begun out) hs in
      SettledTo (settled r.lanes r.calls r.words) (settled_lanes (whole_of (run zeros (changes_of hs)))) (run zeros (changes_of hs))
  long_promise hs F h = history_settles out l hs F (never_out (changes_of hs) h)
