-- Lanes beside the first form: as long as no call is one too many since the last settling and none of the first form's calls leaves the range, both stand for
-- the same whole number, refused numbers and settlings between or not, and every settling is accepted and gives the first form's words. Assumes nothing.
use Rattle.std.specs.Prelude.{◌≡◌, refl, Bool, true, false, List, [], ◌∷◌, ◌++◌, ℕ, ◌+◌, ℤ, ◌+ℤ◌, length}
use Rattle.std.proofs.Common.{sym, ◌∙◌, inl, inr, arith, lit<}
use Rattle.std.proofs.Math.Path.{ap}
use Rattle.std.proofs.Math.Decide.{ℕ_discrete}
use Rattle.units.proofs.Powers.{le_or_lt}
use Rattle.lists.specs.Digits.{inside}
use Rattle.lists.proofs.SignedDigits.{cut_whole, whole_inside}
use Rattle.kinds.specs.Limits.{doubles}
use Rattle.kinds.specs.Entry as entries
use Rattle.judge.specs.Judge.{fault_of}
use Rattle.words.specs.Words.{word_bits, word_count, register_bits, whole_of, words_of}
use Rattle.register.specs.Register.{Changed}
use Rattle.register.specs.Entries.{Change, pattern_of, change_of, changed, run, NeverOut, zeros}
use Rattle.register.proofs.EnterLaws.{enter_bad, enter_out, enter_in}
use Rattle.register.proofs.RegisterLaws.{held_after}
use Rattle.register.proofs.RunLaws.{change_whole, zero_whole, zeros_held}
use Rattle.lanes.specs.Laid.{Counted}
use Rattle.lanes.specs.Lanes.{lane_sum, no_lanes, most_calls, roomy, Laying, settled_lanes, Settling, settling, settled, laid_heard}
use Rattle.lanes.specs.Runs.{lane_changed, LaneRegister, begun, Act, change, settle, acted, lane_run, changes_of, NotFull, NeverFull}
use Rattle.lanes.specs.SettleTable.{SettledTo}
use Rattle.lanes.proofs.LayLaws.{lay_bad, lay_full, lay_in, settled_in}
use Rattle.lanes.proofs.RoomLaws.{roomy_when}
use Rattle.lanes.proofs.ChangeLaws.{change_sum}
use Rattle.lanes.proofs.SettlingLaws.{settle_sum}
use Rattle.lanes.proofs.RunLaws.{begun_standing, acted_standing, run_join}
use Rattle.lanes.specs.FirstForm.{Agree}

none_whole : lane_sum no_lanes ≡ whole_of zeros
unfolding lane_sum
none_whole = sym zero_whole

pub begun_agrees : (out : List ℕ) → length out ≡ word_count → Agree (begun out) zeros
begun_agrees out l = record { standing = begun_standing out l; held = zeros_held; whole = none_whole }

module _ {r : LaneRegister} {ws : List ℕ} (A : Agree r ws) where
  tested : roomy r.calls r.lanes ≡ true
  tested = (roomy_when r.calls r.lanes).1 A.standing.room

  -- ---- a settling is accepted, and gives the first form's words
  pub settle_agrees : (out : List ℕ) → length out ≡ word_count
      → settled r.lanes r.calls out ≡ settling (Counted 0) (settled_lanes (whole_of ws)) ws
  settle_agrees out l =
      settled_in r.lanes r.calls out A.standing.long l tested
      (ap (inside register_bits) A.whole ∙ whole_inside word_bits word_count (lit< tt) A.held)
      ∙ (λ i. settling (Counted 0) (settled_lanes (A.whole i)) ((ap words_of A.whole ∙ cut_whole word_bits word_count (lit< tt) A.held) i))

  module _ (c : Change) where
    -- ---- a change of a number with a fault is refused by both
    bad_agrees : (fault_of doubles (pattern_of c) ≡ 0 → ⊥) → Agree (acted r (change c)) (changed ws c).area
    bad_agrees n =
        let a = lay_bad r.lanes r.calls (pattern_of c) (change_of c) A.standing.long tested n in
        let b = enter_bad ws (pattern_of c) (whole_of ws +ℤ change_of c) A.held.long n in
        rw (a, b) (record { standing = A.standing; held = A.held; whole = A.whole })

    -- ---- one of an allowed number is accepted by both
    module _ (e : fault_of doubles (pattern_of c) ≡ 0) where
      counts : NotFull r (change c) → (lane_changed r.lanes r.calls c).answer ≡ Counted (r.calls + 1)
      counts h = elim (le_or_lt most_calls r.calls) [
        | inl m ↦
            let most : r.calls ≡ most_calls = omega (arith, A.standing.room.few) in
            let full = lay_full r.lanes r.calls (pattern_of c) (change_of c) A.standing.long tested e most in
            absurd (h (ap (λ (o : Laying). laid_heard o.answer) full))
        | inr m ↦
            ap (λ (o : Laying). o.answer)
            (lay_in r.lanes r.calls (pattern_of c) (change_of c) A.standing.long tested e (λ k. omega arith))
      ]

      enters : ((changed ws c).answer ≡ entries.Refused 9 0 → ⊥) → (changed ws c).answer ≡ entries.Entered
      enters h = by (inside register_bits (whole_of ws +ℤ change_of c)) refl
        where
          by : (b : Bool) → inside register_bits (whole_of ws +ℤ change_of c) ≡ b → (changed ws c).answer ≡ entries.Entered
          by true i = ap (λ (o : Changed). o.answer) (enter_in ws (pattern_of c) (whole_of ws +ℤ change_of c) A.held.long e i)
          by false i = absurd (h (ap (λ (o : Changed). o.answer) (enter_out ws (pattern_of c) (whole_of ws +ℤ change_of c) A.held.long e i)))

      good_agrees : NotFull r (change c) → ((changed ws c).answer ≡ entries.Refused 9 0 → ⊥) → Agree (acted r (change c)) (changed ws c).area
      good_agrees h k = record {
        standing = acted_standing r A.standing (change c);
        held = held_after ws (pattern_of c) (whole_of ws +ℤ change_of c) A.held;
        whole =
            change_sum r.lanes r.calls c (counts h)
            ∙ ap (λ (z : ℤ). z +ℤ change_of c) A.whole
            ∙ sym (change_whole ws c (enters k));
      }

    change_agrees : NotFull r (change c) → ((changed ws c).answer ≡ entries.Refused 9 0 → ⊥) → Agree (acted r (change c)) (changed ws c).area
    change_agrees h k = elim (ℕ_discrete (fault_of doubles (pattern_of c)) 0) [ yes e ↦ good_agrees e h k | no n ↦ bad_agrees n ]

  -- ---- a settling leaves the whole number
  settled_agrees : Agree (acted r settle) ws
  settled_agrees =
      let s = settle_agrees r.words A.standing.area in
      record {
        standing = acted_standing r A.standing settle;
        held = A.held;
        whole = settle_sum r.lanes r.calls r.words (ap (λ (s : Settling). s.answer) s) ∙ A.whole;
      }

-- ---- through any history
pub run_agrees : (r : LaneRegister) (ws : List ℕ) (hs : List Act) → Agree r ws → NeverFull r hs → NeverOut ws (changes_of hs)
    → Agree (lane_run r hs) (run ws (changes_of hs))
unfolding lane_run changes_of NeverFull NeverOut run
run_agrees r ws [] A f o = A
run_agrees r ws (change c ∷ hs) A f o = run_agrees (acted r (change c)) (changed ws c).area hs (change_agrees A c f.0 o.0) f.1 o.1
run_agrees r ws (settle ∷ hs) A f o = run_agrees (acted r settle) ws hs (settled_agrees A) f.1 o

-- ---- rule N5 beside the first form: a settling after any history from nothing is accepted, and its words are those of the first form after the same changes
module _ (out : List ℕ) (l : length out ≡ word_count) (hs : List Act) (F : NeverFull (begun out) hs) (O : NeverOut zeros (changes_of hs)) where
  agrees : Agree (lane_run (begun out) hs) (run zeros (changes_of hs))
  agrees = run_agrees (begun out) zeros hs (begun_agrees out l) F O

  pub history_settles : let r = lane_run (begun out) hs in
      SettledTo (settled r.lanes r.calls r.words) (settled_lanes (whole_of (run zeros (changes_of hs)))) (run zeros (changes_of hs))
  history_settles =
      let e = settle_agrees agrees (lane_run (begun out) hs).words agrees.standing.area in
      record {
        heard = ap (λ (s : Settling). laid_heard s.answer) e;
        lanes = ap (λ (s : Settling). s.lanes) e;
        words = ap (λ (s : Settling). s.words) e;
      }

  -- and so it ends with them where its last act is a settling
  pub history_words : (lane_run (begun out) (hs ++ (settle ∷ []))).words ≡ run zeros (changes_of hs)
  unfolding lane_run
  history_words =
      ap (λ (r : LaneRegister). r.words) (run_join (begun out) hs (settle ∷ []))
      ∙ history_settles.words
