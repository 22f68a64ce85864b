-- The call gives each answer exactly when its row says (rule O6), and so a refusal is heard, with a place for 2 and 3; what is answered is determined, and two
-- answers of which the same is heard are one. Assumes nothing.
use Rattle.std.specs.Prelude.{◌≡◌, refl, ◌↔◌, Bool, true, false, cond, List, ℕ, zero, suc, ◌^◌, ◌≤◌, T, eqb, ℤ, length, Float}
use Rattle.std.proofs.Common.{sym, ap, ◌∙◌, le_trans, mul-le-mul_right, lit<, lit≤}
use Rattle.std.specs.Float.{Format}
use Rattle.std.specs.Float.Ieee.{of_bits}
use Rattle.std.specs.Float.Ieee.Bits.{is_true, is_false, of_bits-fits}
use Rattle.std.specs.Float.Ieee.Scale.{finite}
use Rattle.ieee.specs.Units.{Number, pattern_units}
use Rattle.lists.proofs.Apart.{apart}
use Rattle.kinds.specs.Limits.{Width, doubles}
use Rattle.kinds.specs.Heard.{Place, nowhere, at, Heard, refused, more, done, nearest, parts, accepted, count, rescued, tells, Row, Refusal}
use Rattle.kinds.proofs.Hearing.{exactly, at_place_0, hears}
use Rattle.kinds.proofs.OutcomeLaws.{same}
use Rattle.kinds.specs.Verdict.{Verdict}
use Rattle.kinds.specs.Verdict as verdicts
use Rattle.judge.specs.Judge.{judged}
use Rattle.judge.specs.Table as lists
use Rattle.judge.specs.Table.{Allowed, Passed, ListWhen}
use Rattle.judge.specs.FaultLaws.{most_doubles}
use Rattle.judge.proofs.JudgeLaws.{list_when, list_passed, list_allowed, list_refusal}
use Rattle.sums.proofs.SumLaws.{sums_doubles, sum_at_most, sum_below_limit}
use Rattle.grade.specs.Grade.{grade_of, graded_heard}
use Rattle.grade.specs.Table as table
use Rattle.grade.specs.Table.{Earns, GradedWhen, too_many, bad_number, bad_claim, earned}
use Rattle.grade.proofs.GradeLaws.{some_grade, grade_earned}
use Rattle.grade.proofs.AnswerLaws.{list_refused, claim_refused, claim_graded}
use Rattle.grade.specs.Graded.{Graded}
use Rattle.grade.specs.Graded.{Exact, Nearest, Faithful, Wrong, Refused}
use Rattle.grade.specs.TableLaws.{Roomy, IsGrade}

pub roomy_doubles : Roomy doubles
unfolding pattern_units
roomy_doubles = record {
  inside = λ ps G. record {
    below = sum_below_limit sums_doubles (list_passed G).few (list_allowed G);
    largest =
        le_trans (rw most_doubles at (sum_at_most doubles ps (list_allowed G)))
        (le_trans (mul-le-mul_right (2 ^ 2074) (list_passed G).few) (lit≤ tt));
  };
}

pub is_grade : {f : Format} {S : ℤ} {x : Float} {g : Graded} → Earns f S x g → IsGrade g
is_grade (table.exact e) = tt
is_grade (table.nearest N d) = tt
is_grade (table.faithful F n) = tt
is_grade (table.wrong w) = tt

-- the answer of which this is heard
answer_in : Heard → Graded
answer_in (refused k nowhere) = Refused k 0
answer_in (refused k (at i)) = Refused k i
answer_in (count n) = cond (eqb n 0) Exact (cond (eqb n 1) Nearest (cond (eqb n 2) Faithful Wrong))
answer_in (more sigma t tau n pending rounds ensemble largest told) = Wrong
answer_in (done x rounds) = Wrong
answer_in (nearest x) = Wrong
answer_in (parts b) = Wrong
answer_in accepted = Wrong
answer_in (rescued written taken missing over) = Wrong

answer_back : (a : Graded) → answer_in (graded_heard a) ≡ a
unfolding answer_in
answer_back Exact = refl
answer_back Nearest = refl
answer_back Faithful = refl
answer_back Wrong = refl
answer_back (Refused k zero) = told (tells k)
  where
    told : (b : Bool) → answer_in (refused k (cond b (at 0) nowhere)) ≡ Refused k 0
    told true = refl
    told false = refl
answer_back (Refused k (suc i)) = refl

pub answer_heard : (a b : Graded) → graded_heard a ≡ graded_heard b → a ≡ b
answer_heard a b e = sym (answer_back a) ∙ ap answer_in e ∙ answer_back b

pub graded_is : (r : Graded) (k : ℕ) (p : Place) → graded_heard r ≡ refused k p → (i : ℕ) × (r ≡ Refused k i)
graded_is Exact k p e = apart (cc)
graded_is Nearest k p e = apart (cc)
graded_is Faithful k p e = apart (cc)
graded_is Wrong k p e = apart (cc)
graded_is (Refused l j) k p e = (j, cc)

module _ (W : Width) (R : Roomy W) (ps : List ℕ) (c : ℕ) where
  claim_number : T (finite (of_bits W.format c)) → Number W.format (of_bits W.format c)
  claim_number t = record { fit = of_bits-fits W.format c; fini = t }

  -- a list that isn't too long, as the judge has it
  few : length ps ≤ W.length → Passed W true true ps
  few h = record { few = h; right_area = tt; right_parts = tt }

  listed : {k i : ℕ} → ListWhen W true true ps (verdicts.Refused k i) → grade_of W ps c ≡ Refused k i
  listed {k} {i} L = list_refused W ps c k i ((list_when W true true ps (verdicts.Refused k i)).1 L)

  good : length ps ≤ W.length → Allowed W ps → judged W true true ps ≡ verdicts.Good
  good h A = (list_when W true true ps verdicts.Good).1 (lists.allowed (few h) A)

  row : {r : Graded} → GradedWhen W ps c r → grade_of W ps c ≡ r
  row (too_many h) = listed (lists.too_many h)
  row (bad_number h k i F) = listed (lists.bad_number (few h) k i F)
  row (bad_claim h A n) = claim_refused W ps c (good h A) (is_false (finite (of_bits W.format c)) n)
  row (earned h A t g E) =
      claim_graded W ps c (good h A) (is_true (finite (of_bits W.format c)) t)
      ∙ (grade_earned (R.inside ps (lists.allowed (few h) A)) (claim_number t) g).1 E

  some_row : (r : Graded) × GradedWhen W ps c r
  some_row = by ((list_when W true true ps (judged W true true ps)).0 refl)
    where
      claimed : length ps ≤ W.length → Allowed W ps → (b : Bool) → finite (of_bits W.format c) ≡ b → (r : Graded) × GradedWhen W ps c r
      claimed h A true e =
          let t : T (finite (of_bits W.format c)) = rw e tt in
          (_, earned h A t _ (some_grade (R.inside ps (lists.allowed (few h) A)) (claim_number t)))
      claimed h A false e = (_, bad_claim h A (rw e tt))

      by : {v : Verdict} → ListWhen W true true ps v → (r : Graded) × GradedWhen W ps c r
      by (lists.too_many h) = (_, too_many h)
      by (lists.wrong_area h a) = absurd a
      by (lists.wrong_parts h a b) = absurd b
      by (lists.bad_number P k i F) = (_, bad_number P.few k i F)
      by (lists.allowed P A) = claimed P.few A (finite (of_bits W.format c)) refl

  pub graded_when : (r : Graded) → (grade_of W ps c ≡ r) ↔ GradedWhen W ps c r
  graded_when = exactly (grade_of W ps c) (GradedWhen W ps c) (λ r. row) some_row

  pub graded_determined : {r q : Graded} → r ≡ grade_of W ps c → q ≡ grade_of W ps c → r ≡ q
  graded_determined = same

  -- a refusal's number is of the table, its place is one of a list, and is told as the table says
  pub graded_refusal : {k i : ℕ} → GradedWhen W ps c (Refused k i) → Refusal W.length k i
  graded_refusal (too_many h) = at_place_0 (lit< tt)
  graded_refusal (bad_number h k i F) = list_refusal (lists.bad_number (few h) k i F)
  graded_refusal (bad_claim h A n) = at_place_0 (lit< tt)
  graded_refusal (earned h A t g E) = absurd (is_grade E)

  pub graded_heard_lem : (k : ℕ) (p : Place) → (graded_heard (grade_of W ps c) ≡ refused k p) ↔ Row (λ k i. GradedWhen W ps c (Refused k i)) k p
  graded_heard_lem = hears graded_heard Refused (λ k i. refl) (grade_of W ps c) (graded_is (grade_of W ps c))
      (λ k i. GradedWhen W ps c (Refused k i)) (λ k i. graded_when (Refused k i)) (λ k i h. (graded_refusal h).as_told)
