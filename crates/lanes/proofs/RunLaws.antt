-- Runs of additions, withdrawals and settlings on lanes that begin with nothing: the lanes always have room, whatever was called. Assumes nothing.
use Rattle.std.specs.Prelude.{◌≡◌, ℕ, length}
use Rattle.std.proofs.Math.Path.{refl, ap}
use Rattle.std.proofs.Common.{◌∙◌, inl, inr, arith}
use mathlib.Core.List.{List, [], ◌∷◌, ◌++◌, map}
use Rattle.lists.proofs.Apart.{apart}
use Rattle.kinds.specs.Heard.{nowhere, refused}
use Rattle.kinds.specs.Limits.{doubles}
use Rattle.judge.specs.Judge.{fault_of}
use Rattle.judge.specs.FaultLaws.{fault_number}
use Rattle.words.specs.Words.{word_count}
use Rattle.register.specs.Entries.{Change, pattern_of, change_of}
use Rattle.lanes.specs.Laid.{Laid}
use Rattle.lanes.specs.Laid.{Counted, Refused}
use Rattle.lanes.specs.Lanes.{most_calls, Laying, Settling, settling, settled, laid_heard}
use Rattle.lanes.specs.Table.{LayWhen, counted, wrong_length, no_room, bad_number, too_many}
use Rattle.lanes.specs.SettleTable as settle-table
use Rattle.lanes.specs.SettleTable.{SettleWhen, settles, out_of_range}
use Rattle.lanes.specs.Runs.{lane_changed, LaneRegister, begun, count_after, Act, change, settle, acted, lane_run, changes_of}
use Rattle.lanes.proofs.RoomLaws.{none_roomy}
use Rattle.lanes.proofs.LanesLaws.{laid_heard_lem, lay_when, lay_keeps, lay_counts, settle_when, settle_keeps, settle_counts}
use Rattle.lanes.proofs.ChangeLaws.{change_count, change_roomy}
use Rattle.lanes.proofs.SettlingLaws.{settle_held, settle_count, settle_roomy}
use Rattle.lanes.specs.RunLaws.{Standing}

pub begun_standing : (ws : List ℕ) → length ws ≡ word_count → Standing (begun ws)
begun_standing ws l = record { long = refl; room = none_roomy; area = l }

module _ (r : LaneRegister) (S : Standing r) where
  abbrev call : Change → Laying
  call c = lane_changed r.lanes r.calls c

  abbrev settling_now : Settling
  settling_now = settled r.lanes r.calls r.words

  -- every call leaves them so
  pub acted_standing : (a : Act) → Standing (acted r a)
  acted_standing (change c) = by (call c).answer refl
    where
      by : (a : Laid) → (call c).answer ≡ a → Standing (acted r (change c))
      by (Counted n) e = record { long = change_count r.lanes r.calls c e; room = rw e (change_roomy r.lanes r.calls c e); area = S.area }
      by (Refused k i) e =
          let same : (call c).area ≡ r.lanes = lay_keeps r.lanes r.calls (pattern_of c) (change_of c) e in
          record { long = rw same S.long; room = rw (e, same) S.room; area = S.area }
  acted_standing settle = by settling_now.answer refl
    where
      by : (a : Laid) → settling_now.answer ≡ a → Standing (acted r settle)
      by (Counted n) e = record {
        long = settle_count r.lanes r.calls r.words e;
        room = rw (e, (settle_counts r.lanes r.calls r.words e).0) (settle_roomy r.lanes r.calls r.words e);
        area = (settle_held r.lanes r.calls r.words e).long;
      }
      by (Refused k i) e =
          let same : settling_now ≡ settling (Refused k i) r.lanes r.words = settle_keeps r.lanes r.calls r.words e in
          record { long = rw same S.long; room = rw same S.room; area = rw same S.area }

  -- so that none finds no room
  pub change_room : (c : Change) → (call c).answer ≡ Refused 25 0 → ⊥
  change_room c e = go ((lay_when r.lanes r.calls (pattern_of c) (change_of c) (Refused 25 0)).0 e) refl
    where
      go : {a : Laid} → LayWhen r.lanes r.calls (pattern_of c) a → a ≡ Refused 25 0 → ⊥
      go (counted l R e h) q = apart (cc)
      go (wrong_length n) q = n S.long
      go (no_room l N) q = N S.room
      go (bad_number l R n) q =
          let f : fault_of doubles (pattern_of c) ≡ 25 = cc in
          elim (fault_number doubles (pattern_of c) n) [ inl e ↦ omega arith | inr e ↦ omega arith ]
      go (too_many l R e h) q = let f : ◌≡◌ {A = ℕ} 24 25 = cc in omega arith

  pub settle_room : settling_now.answer ≡ Refused 25 0 → ⊥
  settle_room e = go ((settle_when r.lanes r.calls r.words (Refused 25 0)).0 e) refl
    where
      go : {a : Laid} → SettleWhen r.lanes r.calls r.words a → a ≡ Refused 25 0 → ⊥
      go (settles A R h) q = apart (cc)
      go (settle-table.wrong_length N) q = N (record { first = S.long; second = S.area })
      go (settle-table.no_room A N) q = N S.room
      go (out_of_range A R h) q = let f : ◌≡◌ {A = ℕ} 9 25 = cc in omega arith

pub run_standing : (r : LaneRegister) (hs : List Act) → Standing r → Standing (lane_run r hs)
unfolding lane_run
run_standing r [] S = S
run_standing r (a ∷ hs) S = run_standing (acted r a) hs (acted_standing r S a)

-- rule R25 is for lanes that no chain of these calls can have left: from nothing none of them is refused with 25, whatever was called before
module _ (ws : List ℕ) (l : length ws ≡ word_count) (hs : List Act) where
  abbrev kept : LaneRegister
  kept = lane_run (begun ws) hs

  pub never_25 : (c : Change) → laid_heard (lane_changed kept.lanes kept.calls c).answer ≡ refused 25 nowhere → ⊥
  never_25 c e = change_room kept (run_standing (begun ws) hs (begun_standing ws l)) c (laid_heard_lem _ (Refused 25 0) e)

  pub settle_never_25 : laid_heard (settled kept.lanes kept.calls kept.words).answer ≡ refused 25 nowhere → ⊥
  settle_never_25 e = settle_room kept (run_standing (begun ws) hs (begun_standing ws l)) (laid_heard_lem _ (Refused 25 0) e)

-- ---- rule N5: where a settling is refused with 9, as it can be after many settlings, other calls may bring the number back; but once the lanes took all the
-- calls that they can, nothing is accepted any more
module _ (r : LaneRegister) (m : r.calls ≡ most_calls) (out : laid_heard (settled r.lanes r.calls r.words).answer ≡ refused 9 nowhere) where
  full_still : (a : Act) → acted r a ≡ r
  full_still (change c) = by (lane_changed r.lanes r.calls c).answer refl
    where
      by : (a : Laid) → (lane_changed r.lanes r.calls c).answer ≡ a → acted r (change c) ≡ r
      by (Counted n) e = absurd (omega (arith, (lay_counts r.lanes r.calls (pattern_of c) (change_of c) e).1))
      by (Refused k i) e =
          let same : (lane_changed r.lanes r.calls c).area ≡ r.lanes = lay_keeps r.lanes r.calls (pattern_of c) (change_of c) e in
          λ j. record { lanes = same j; calls = count_after r.calls (e j); words = r.words }
  full_still settle =
      let answer : (settled r.lanes r.calls r.words).answer ≡ Refused 9 0 = laid_heard_lem _ (Refused 9 0) out in
      let same : settled r.lanes r.calls r.words ≡ settling (Refused 9 0) r.lanes r.words =
      settle_keeps r.lanes r.calls r.words answer
      in
      λ j. record { lanes = (same j).lanes; calls = count_after r.calls (same j).answer; words = (same j).words }

  pub full_for_good : (hs : List Act) → lane_run r hs ≡ r
  unfolding lane_run
  full_for_good [] = refl
  full_for_good (a ∷ hs) = ap (λ (q : LaneRegister). lane_run q hs) (full_still a) ∙ full_for_good hs

-- ---- one run after another
pub run_join : (r : LaneRegister) (xs ys : List Act) → lane_run r (xs ++ ys) ≡ lane_run (lane_run r xs) ys
unfolding lane_run
run_join r [] ys = refl
run_join r (x ∷ xs) ys = run_join (acted r x) xs ys

pub changes_only : (cs : List Change) → changes_of (map change cs) ≡ cs
unfolding changes_of
changes_only [] = refl
changes_only (c ∷ cs) = ap (λ (ds : List Change). c ∷ ds) (changes_only cs)
