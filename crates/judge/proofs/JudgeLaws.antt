-- What a list is refused for, case by case, and that each verdict is given exactly when rule O6 says. Assumes nothing.
use Rattle.std.specs.Prelude.{◌≡◌, refl, ◌⊎◌, ◌↔◌, Bool, true, false, List, ℕ, ◌≤◌, T, length}
use Rattle.std.proofs.Common.{◌∙◌, inl, inr, arith, lit<}
use Rattle.units.proofs.Powers.{le_or_lt}
use Rattle.kinds.specs.Limits.{Width}
use Rattle.kinds.specs.Heard.{Refusal}
use Rattle.kinds.proofs.Hearing.{exactly, placed, at_place_0}
use Rattle.kinds.specs.Verdict.{Verdict}
use Rattle.kinds.specs.Verdict.{Good, Refused}
use Rattle.judge.specs.Judge.{judged}
use Rattle.judge.specs.Table.{Passed, Allowed, ListWhen, too_many, wrong_area, wrong_parts, bad_number, allowed}
use Rattle.judge.proofs.FirstFaultLaws.{found, first_good, first_refused, first_number}
use Rattle.judge.proofs.JudgeCases.{judged_1, judged_4, judged_5, judged_passed}

-- ---- exactly when
module _ (W : Width) (area parts : Bool) (ps : List ℕ) where
  row : {v : Verdict} → ListWhen W area parts ps v → judged W area parts ps ≡ v
  row (too_many h) = judged_1 W area parts ps h
  row (wrong_area h a) = judged_4 W area parts ps h a
  row (wrong_parts h a b) = judged_5 W area parts ps h a b
  row (bad_number P k i F) = judged_passed W area parts ps P ∙ (first_refused W ps k i).1 F
  row (allowed P A) = judged_passed W area parts ps P ∙ (first_good W ps).1 A

  some_row : (v : Verdict) × ListWhen W area parts ps v
  some_row = elim (le_or_lt (length ps) W.length) [
    | inr h ↦ (_, too_many h)
    | inl h ↦ by_area h area refl
  ]
    where
      passed : Passed W area parts ps → (v : Verdict) × ListWhen W area parts ps v
      passed P = elim (found W ps) [
        | inl A ↦ (_, allowed P A)
        | inr F ↦ (_, bad_number P F.0 F.1 F.2)
      ]

      by_parts : length ps ≤ W.length → T area → (b : Bool) → parts ≡ b → (v : Verdict) × ListWhen W area parts ps v
      by_parts h a true e = passed (record { few = h; right_area = a; right_parts = rw e tt })
      by_parts h a false e = (_, wrong_parts h a (rw e tt))

      by_area : length ps ≤ W.length → (a : Bool) → area ≡ a → (v : Verdict) × ListWhen W area parts ps v
      by_area h true e = by_parts h (rw e tt) parts refl
      by_area h false e = (_, wrong_area h (rw e tt))

  pub list_when : (v : Verdict) → (judged W area parts ps ≡ v) ↔ ListWhen W area parts ps v
  list_when = exactly (judged W area parts ps) (ListWhen W area parts ps) (λ v. row) some_row

-- ---- what a verdict says
module _ {W : Width} {area parts : Bool} {ps : List ℕ} where
  pub list_passed : ListWhen W area parts ps Good → Passed W area parts ps
  list_passed (allowed P A) = P

  pub list_allowed : ListWhen W area parts ps Good → Allowed W ps
  list_allowed (allowed P A) = A

  -- a refusal's number is of the table, its place is one of a list, and is told as the table says
  pub list_refusal : {k i : ℕ} → ListWhen W area parts ps (Refused k i) → Refusal W.length k i
  list_refusal (too_many h) = at_place_0 (lit< tt)
  list_refusal (wrong_area h a) = at_place_0 (lit< tt)
  list_refusal (wrong_parts h a b) = at_place_0 (lit< tt)
  list_refusal (bad_number P k i F) = go (first_number W ps F)
    where
      go : (k ≡ 2) ⊎ (k ≡ 3) → Refusal W.length k i
      go (inl e) = record { number = rw e (lit< tt); place = omega (arith, P.few, F.inside); as_told = placed k i (inr (rw e tt)) }
      go (inr e) = record { number = rw e (lit< tt); place = omega (arith, P.few, F.inside); as_told = placed k i (inr (rw e tt)) }
