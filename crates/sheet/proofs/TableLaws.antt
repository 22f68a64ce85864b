-- The reader gives each answer exactly when its row says (rule O6), and so it is heard, with no place; a refusal leaves the area as it was; and
-- two results that meet the reader's contract are equal. Assumes nothing.
use Rattle.std.specs.Prelude.{◌≡◌, refl, ◌↔◌, List, ℕ, ◌+◌, ◌*◌, ◌≤◌, length}
use Rattle.std.proofs.Common.{sym, ap, ◌∙◌, inl, inr, arith, lit<}
use Rattle.std.proofs.Math.Decide.{ℕ_discrete}
use Rattle.units.proofs.Powers.{le_or_lt}
use Rattle.lists.proofs.Apart.{apart}
use Rattle.kinds.specs.Heard.{Place, refused, Row, Refusal, sheet_heard}
use Rattle.kinds.proofs.Hearing.{exactly, at_place_0, sheet_is, hears}
use Rattle.kinds.specs.Limits.{Width}
use Rattle.kinds.specs.Outcome.{outcome}
use Rattle.kinds.proofs.OutcomeLaws.{determined}
use Rattle.kinds.specs.Sheet.{Sheet}
use Rattle.kinds.specs.Sheet.{Read, Refused}
use Rattle.sheet.specs.Sheet.{Reading, version_of, count_of, read_of}
use Rattle.sheet.specs.Table.{Begun, SheetWhen, no_header, other_version, too_many, too_short, too_long, no_room, all_read}
use Rattle.sheet.proofs.SheetLaws.{read_no_header, read_version, read_many, read_short, read_long, read_no_room, read_all}

abbrev answer_of : Reading → Sheet
answer_of x = x.answer

module _ (W : Width) (bytes area : List ℕ) where
  row : {r : Sheet} → SheetWhen W bytes area r → (read_of W bytes area).answer ≡ r
  row (no_header h) = ap answer_of (read_no_header W bytes area h)
  row (other_version h v) = ap answer_of (read_version W bytes area h v)
  row (too_many B m) = ap answer_of (read_many W bytes area B.header B.version m)
  row (too_short B f s) = ap answer_of (read_short W bytes area B.header B.version f s)
  row (too_long B f l) = ap answer_of (read_long W bytes area B.header B.version f l)
  row (no_room B f e s) = ap answer_of (read_no_room W bytes area B.header B.version f e s)
  row (all_read B f e s) = ap answer_of (read_all W bytes area B.header B.version f e s)

  by_length : Begun bytes → count_of bytes ≤ W.length → (r : Sheet) × SheetWhen W bytes area r
  by_length B f = elim (le_or_lt (5 + 8 * count_of bytes) (length bytes)) [
    | inr s ↦ (Refused 11 0, too_short B f s)
    | inl s ↦ elim (le_or_lt (length bytes) (5 + 8 * count_of bytes)) [
      | inr l ↦ (Refused 13 0, too_long B f l)
      | inl l ↦
          let e : length bytes ≡ 5 + 8 * count_of bytes = omega arith in
          elim (le_or_lt (count_of bytes) (length area)) [
            | inr r ↦ (Refused 4 0, no_room B f e r)
            | inl r ↦ (Read (count_of bytes), all_read B f e r)
          ]
    ]
  ]

  some_row : (r : Sheet) × SheetWhen W bytes area r
  some_row = elim (le_or_lt 5 (length bytes)) [
    | inr h ↦ (Refused 11 0, no_header h)
    | inl h ↦ elim (ℕ_discrete (version_of bytes) 1) [
      | no v ↦ (Refused 12 0, other_version h v)
      | yes v ↦ elim (le_or_lt (count_of bytes) W.length) [
        | inr m ↦ (Refused 1 0, too_many (record { header = h; version = v }) m)
        | inl f ↦ by_length (record { header = h; version = v }) f
      ]
    ]
  ]

  pub sheet_when : (r : Sheet) → ((read_of W bytes area).answer ≡ r) ↔ SheetWhen W bytes area r
  sheet_when = exactly (read_of W bytes area).answer (SheetWhen W bytes area) (λ r. row) some_row

  -- rule A1
  left : {r : Sheet} {k i : ℕ} → SheetWhen W bytes area r → r ≡ Refused k i → (read_of W bytes area).area ≡ area
  left (no_header h) e = ap (λ (x : Reading). x.area) (read_no_header W bytes area h)
  left (other_version h v) e = ap (λ (x : Reading). x.area) (read_version W bytes area h v)
  left (too_many B m) e = ap (λ (x : Reading). x.area) (read_many W bytes area B.header B.version m)
  left (too_short B f s) e = ap (λ (x : Reading). x.area) (read_short W bytes area B.header B.version f s)
  left (too_long B f l) e = ap (λ (x : Reading). x.area) (read_long W bytes area B.header B.version f l)
  left (no_room B f x s) e = ap (λ (x : Reading). x.area) (read_no_room W bytes area B.header B.version f x s)
  left (all_read B f x s) e = apart (cc)

  pub read_leaves : {k i : ℕ} → (read_of W bytes area).answer ≡ Refused k i → (read_of W bytes area).area ≡ area
  read_leaves e = left some_row.1 (sym (row some_row.1) ∙ e)

  pub read_determined : {r q : Sheet} {xs ys : List ℕ} → outcome r xs ≡ read_of W bytes area → outcome q ys ≡ read_of W bytes area → (r ≡ q) × (xs ≡ ys)
  read_determined = determined (read_of W bytes area)

  -- a refusal's number is of the table, and none tells a place
  pub sheet_refusal : {k i : ℕ} → SheetWhen W bytes area (Refused k i) → Refusal W.length k i
  sheet_refusal (no_header h) = at_place_0 (lit< tt)
  sheet_refusal (other_version h v) = at_place_0 (lit< tt)
  sheet_refusal (too_many B m) = at_place_0 (lit< tt)
  sheet_refusal (too_short B f s) = at_place_0 (lit< tt)
  sheet_refusal (too_long B f l) = at_place_0 (lit< tt)
  sheet_refusal (no_room B f x s) = at_place_0 (lit< tt)

  pub sheet_heard_lem : (k : ℕ) (p : Place) → (sheet_heard (read_of W bytes area).answer ≡ refused k p) ↔ Row (λ k i. SheetWhen W bytes area (Refused k i)) k p
  sheet_heard_lem = hears sheet_heard Refused (λ k i. refl) (read_of W bytes area).answer (sheet_is (read_of W bytes area).answer)
      (λ k i. SheetWhen W bytes area (Refused k i)) (λ k i. sheet_when (Refused k i)) (λ k i h. (sheet_refusal h).as_told)
