-- What the writer answers, case by case; each answer exactly when its row says (rule O6), and so it is heard, with no place; a refusal leaves the area as it
-- was; and two results that meet the writer's contract are equal. Assumes nothing.
use Rattle.std.specs.Prelude.{◌≡◌, refl, ◌↔◌, List, ℕ, ◌+◌, ◌*◌}
use Rattle.std.proofs.Common.{sym, ap, ◌∙◌, inl, inr, lit<}
use Rattle.std.proofs.Math.ListN.{length}
use Rattle.units.proofs.Powers.{le_or_lt}
use Rattle.lists.proofs.Apart.{apart}
use Rattle.kinds.specs.Heard.{Place, refused, Row, Refusal}
use Rattle.kinds.proofs.HeardLaws.{verdict_heard_lem}
use Rattle.kinds.proofs.Hearing.{exactly, at_place_0, hears}
use Rattle.kinds.specs.Limits.{Width}
use Rattle.kinds.specs.Outcome.{outcome}
use Rattle.kinds.proofs.OutcomeLaws.{determined}
use Rattle.kinds.specs.Verdict.{Verdict}
use Rattle.kinds.specs.Verdict as verdicts
use Rattle.sheet.specs.Write.{Writing, written_of, written_heard, WriteWhen, too_many, no_room, all_written}
use Rattle.sheet.specs.Written.{Written}
use Rattle.sheet.specs.Written.{Wrote, Refused}
use Rattle.sheet.proofs.WriteCases.{write_many, write_no_room, write_all}

abbrev answer_of : Writing → Written
answer_of x = x.answer

-- ---- what is heard: two answers of which the same is heard are the same, and one of which a refusal is heard is that refusal
abbrev refusal_of : Verdict → Written
refusal_of verdicts.Good = Wrote 0
refusal_of (verdicts.Refused k i) = Refused k i

pub answer_heard : (a b : Written) → written_heard a ≡ written_heard b → a ≡ b
answer_heard (Wrote n) (Wrote m) e = cc
answer_heard (Wrote n) (Refused l q) e = apart (cc)
answer_heard (Refused k p) (Wrote m) e = apart (cc)
answer_heard (Refused k p) (Refused l q) e = ap refusal_of (verdict_heard_lem (verdicts.Refused k p) (verdicts.Refused l q) e)

pub written_is : (a : Written) (k : ℕ) (p : Place) → written_heard a ≡ refused k p → (i : ℕ) × (a ≡ Refused k i)
written_is (Wrote n) k p e = apart (cc)
written_is (Refused l j) k p e = (j, cc)

module _ (W : Width) (ps area : List ℕ) where
  -- ---- exactly when
  row : {r : Written} → WriteWhen W ps area r → (written_of W ps area).answer ≡ r
  row (too_many h) = ap answer_of (write_many W ps area h)
  row (no_room f s) = ap answer_of (write_no_room W ps area f s)
  row (all_written f s) = ap answer_of (write_all W ps area f s)

  some_row : (r : Written) × WriteWhen W ps area r
  some_row = elim (le_or_lt (length ps) W.length) [
    | inr h ↦ (_, too_many h)
    | inl f ↦ elim (le_or_lt (5 + 8 * length ps) (length area)) [ inl s ↦ (_, all_written f s) | inr s ↦ (_, no_room f s) ]
  ]

  pub write_when : (r : Written) → ((written_of W ps area).answer ≡ r) ↔ WriteWhen W ps area r
  write_when = exactly (written_of W ps area).answer (WriteWhen W ps area) (λ r. row) some_row

  -- rule A1
  left : {r : Written} {k i : ℕ} → WriteWhen W ps area r → r ≡ Refused k i → (written_of W ps area).area ≡ area
  left (too_many h) e = ap (λ (x : Writing). x.area) (write_many W ps area h)
  left (no_room f s) e = ap (λ (x : Writing). x.area) (write_no_room W ps area f s)
  left (all_written f s) e = apart (cc)

  pub write_leaves : {k i : ℕ} → (written_of W ps area).answer ≡ Refused k i → (written_of W ps area).area ≡ area
  write_leaves e = left some_row.1 (sym (row some_row.1) ∙ e)

  pub write_determined : {r q : Written} {xs ys : List ℕ} → outcome r xs ≡ written_of W ps area → outcome q ys ≡ written_of W ps area → (r ≡ q) × (xs ≡ ys)
  write_determined = determined (written_of W ps area)

  -- a refusal's number is of the table, and none tells a place
  pub write_refusal : {k i : ℕ} → WriteWhen W ps area (Refused k i) → Refusal W.length k i
  write_refusal (too_many h) = at_place_0 (lit< tt)
  write_refusal (no_room f s) = at_place_0 (lit< tt)

  pub write_heard : (k : ℕ) (p : Place) → (written_heard (written_of W ps area).answer ≡ refused k p) ↔ Row (λ k i. WriteWhen W ps area (Refused k i)) k p
  write_heard = hears written_heard Refused (λ k i. refl) (written_of W ps area).answer (written_is (written_of W ps area).answer)
      (λ k i. WriteWhen W ps area (Refused k i)) (λ k i. write_when (Refused k i)) (λ k i h. (write_refusal h).as_told)
