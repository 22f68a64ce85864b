-- A list in another order: it is allowed exactly when the list is, and then it has the same nearest sum and parts, and leaves the same words in a register that
-- began with zeros. Assumes nothing.
use Rattle.std.specs.Prelude.{◌≡◌, ◌↔◌, Bool, ℕ, ◌^◌, ◌≤◌, ◌<◌, eqb, length, Float}
use Rattle.std.proofs.Math.Path.{refl}
use Rattle.std.proofs.Common.{sym, ◌∙◌, inl, inr}
use Rattle.std.proofs.Math.Bool.{true}
use mathlib.Core.List.Perm
use mathlib.Core.List.{List, map, Perm}
use Rattle.std.specs.Float.Ieee.{top, of_bits}
use Rattle.units.proofs.ExactSum.{sum_reordered}
use Rattle.ieee.specs.Units.{value}
use Rattle.lists.proofs.Reordered.{length_reordered, every_reordered}
use Rattle.kinds.specs.Limits.{Width, doubles}
use Rattle.kinds.specs.Verdict.{Verdict}
use Rattle.kinds.specs.Verdict.{Good, Refused}
use Rattle.judge.specs.Judge.{fault_free, judged, zero_sign}
use Rattle.judge.specs.Table.{Allowed, Passed, ListWhen, too_many, wrong_area, wrong_parts, bad_number, allowed}
use Rattle.judge.proofs.FaultlessLaws.{faultless_good}
use Rattle.judge.proofs.FirstFaultLaws.{found, first_good}
use Rattle.judge.proofs.JudgeLaws.{list_when, list_allowed}
use Rattle.judge.proofs.JudgeCases.{judged_1, judged_4, judged_5}
use Rattle.register.specs.Entries.{Change, pattern_of, change_of, run, zeros}
use Rattle.register.proofs.RunLaws.{all_entered, zeros_held}
use Rattle.register.proofs.Farewell.{run_same}
use Rattle.sums.specs.Sums.{sum_of, nearest_after, nearest_of, parts_after, parts_of, fitting}
use Rattle.sums.specs.Reordering.{JudgedAlike, same, both_bad}

-- ---- rule S10: which lists are allowed
module _ {W : Width} {ps qs : List ℕ} (π : Perm ps qs) where
  pub allowed_reordered : Allowed W ps → Allowed W qs
  allowed_reordered A =
      let e = (faultless_good W ps 0).1 ((first_good W ps).1 A) in
      (first_good W qs).0 ((faultless_good W qs 0).0 (sym (every_reordered (fault_free W) π) ∙ e))

module _ (W : Width) {ps qs : List ℕ} (π : Perm ps qs) (area parts : Bool) where
  few : length ps ≤ W.length → length qs ≤ W.length
  few h = rw (← (length_reordered π)) h

  passed : Passed W area parts ps → Passed W area parts qs
  passed P = record { few = few P.few; right_area = P.right_area; right_parts = P.right_parts }

  judged_alike : {v : Verdict} → ListWhen W area parts ps v → JudgedAlike W ps qs v (judged W area parts qs)
  judged_alike (too_many h) = rw (judged_1 W area parts qs (rw (← (length_reordered π)) h)) (same (Refused 1 0))
  judged_alike (wrong_area h a) = rw (judged_4 W area parts qs (few h) a) (same (Refused 4 0))
  judged_alike (wrong_parts h a b) = rw (judged_5 W area parts qs (few h) a b) (same (Refused 5 0))
  judged_alike (allowed P A) = rw ((list_when W area parts qs Good).1 (allowed (passed P) (allowed_reordered π A))) (same Good)
  judged_alike (bad_number P k i F) = elim (found W qs) [
    | inl A ↦ absurd (F.bad (sym F.fault ∙ (allowed_reordered (Perm.symm π) A).none i F.inside))
    | inr G ↦ rw ((list_when W area parts qs (Refused G.0 G.1)).1 (bad_number (passed P) G.0 G.1 G.2)) (both_bad F G.2)
  ]

  pub judged_reordered : JudgedAlike W ps qs (judged W area parts ps) (judged W area parts qs)
  judged_reordered = judged_alike ((list_when W area parts ps (judged W area parts ps)).0 refl)

  -- with allowed numbers the verdict is the same, whatever the lengths
  pub judged_same : Allowed W ps → judged W area parts ps ≡ judged W area parts qs
  judged_same A = go judged_reordered
    where
      go : {v w : Verdict} → JudgedAlike W ps qs v w → v ≡ w
      go (same v) = refl
      go (both_bad {i = i} F G) = absurd (F.bad (sym F.fault ∙ A.none i F.inside))

module _ (W : Width) {ps qs : List ℕ} (π : Perm ps qs) (area parts : Bool) where
  pub good_reordered : (judged W area parts ps ≡ Good) ↔ (judged W area parts qs ≡ Good)
  good_reordered = (there π, there (Perm.symm π))
    where
      there : {xs ys : List ℕ} → Perm xs ys → judged W area parts xs ≡ Good → judged W area parts ys ≡ Good
      there {xs} ρ e = sym (judged_same W ρ area parts (list_allowed ((list_when W area parts xs Good).0 e))) ∙ e

-- ---- rule S7
module _ {ps qs : List ℕ} (π : Perm ps qs) where
  pub sum_of_reordered : (W : Width) → sum_of W.format ps ≡ sum_of W.format qs
  sum_of_reordered W = sum_reordered (Perm.map (λ (p : ℕ). value W.format (of_bits W.format p)) π)

  pub zero_sign_reordered : (W : Width) → zero_sign W ps ≡ zero_sign W qs
  unfolding zero_sign
  zero_sign_reordered W = rw (length_reordered π, every_reordered (eqb (top W.format)) π)

  module _ {W : Width} (A : Allowed W ps) where
    pub nearest_reordered : nearest_of W ps ≡ nearest_of W qs
    unfolding nearest_after
    nearest_reordered = rw (judged_same W π true true A) (by (judged W true true qs))
      where
        by : (v : Verdict) → nearest_after W v ps ≡ nearest_after W v qs
        by Good = rw (zero_sign_reordered W, sum_of_reordered W)
        by (Refused k p) = refl

    pub parts_reordered : (area : List Float) → parts_of W ps area ≡ parts_of W qs area
    unfolding parts_after
    parts_reordered area = rw (judged_same W π true (fitting W area) A) (by (judged W true (fitting W area) qs))
      where
        by : (v : Verdict) → parts_after W v ps area ≡ parts_after W v qs area
        by Good = rw (zero_sign_reordered W, sum_of_reordered W)
        by (Refused k p) = refl

-- every history of additions and withdrawals that begins with zeros and is short enough that none is refused with 9
pub history_reordered : {cs ds : List Change} → Perm cs ds → length cs < 2 ^ 37 → Allowed doubles (map pattern_of cs) → run zeros cs ≡ run zeros ds
history_reordered {cs} {ds} π h A =
    run_same zeros zeros_held cs ds (all_entered cs h A)
    (all_entered ds (rw (← (length_reordered π)) h) (allowed_reordered (Perm.map pattern_of π) A))
    (sum_reordered (Perm.map change_of π))
