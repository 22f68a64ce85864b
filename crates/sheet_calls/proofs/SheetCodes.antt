-- Exactly when each code of a reading is returned, and 0; any two results that meet the contract are equal, the code and every array; and another code than 0
-- leaves every array as it was. Assumes nothing.
use Rattle.std.specs.Prelude.{◌≡◌, refl, ◌↔◌, List, ℕ, eqb, length}
use Rattle.std.proofs.Common.{sym, ap, arith}
use Rattle.kinds.specs.Limits.{doubles}
use Rattle.kinds.specs.Heard.{sheet_heard}
use Rattle.kinds.proofs.Hearing.{exactly, sheet_is}
use Rattle.kinds.specs.Sheet.{Sheet}
use Rattle.kinds.specs.Sheet as sheets
use Rattle.sheet.specs.Sheet.{read_of}
use Rattle.sheet.specs.Table as sheet-rows
use Rattle.sheet.specs.Table.{SheetWhen}
use Rattle.sheet.proofs.TableLaws.{sheet_when, sheet_heard_lem, read_leaves}
use Rattle.arrays.specs.Arrays.{values_of, returned}
use Rattle.arrays.specs.Codes.{Coded, Left}
use Rattle.arrays.specs.CodesLaws.{code_in}
use Rattle.arrays.proofs.CodesLaws.{coded, values_left, call_left, returned_determined}
use Rattle.sheet_calls.specs.SheetArrays.{unread_code, read_arrays, SheetOther, unreadable, readable}
use Rattle.sheet_calls.proofs.SheetArraysLaws.{read_other, read_read, unread_read, unread_refused}

-- ---- exactly when
sheet_some : {bytes area : List ℕ} {k i : ℕ} → SheetWhen doubles bytes area (sheets.Refused k i) → k ≡ 0 → ⊥
sheet_some (sheet-rows.no_header h) z = omega arith
sheet_some (sheet-rows.other_version h v) z = omega arith
sheet_some (sheet-rows.too_many B m) z = omega arith
sheet_some (sheet-rows.too_short B f s) z = omega arith
sheet_some (sheet-rows.too_long B f l) z = omega arith
sheet_some (sheet-rows.no_room B f e s) z = omega arith

module _ (bytes area : List ℕ) where
  unread_row : {c : ℕ} → SheetOther bytes area c → unread_code bytes area ≡ c
  unread_row (unreadable k i e) = sym (unread_refused bytes area area k i e)
  unread_row (readable n e) = sym (unread_read bytes area area n e)

  some_unread : (c : ℕ) × SheetOther bytes area c
  some_unread = by (read_of doubles bytes area).answer refl
    where
      by : (a : Sheet) → (read_of doubles bytes area).answer ≡ a → (c : ℕ) × SheetOther bytes area c
      by (sheets.Read n) e = (4, readable n e)
      by (sheets.Refused k i) e = (k, unreadable k i e)

  pub sheet_other : (c : ℕ) → (unread_code bytes area ≡ c) ↔ SheetOther bytes area c
  sheet_other = exactly (unread_code bytes area) (SheetOther bytes area) (λ c. unread_row) some_unread

  sheet_nonzero : unread_code bytes area ≡ 0 → ⊥
  sheet_nonzero z = by ((sheet_other 0).0 z) refl
    where
      by : {c : ℕ} → SheetOther bytes area c → c ≡ 0 → ⊥
      by (unreadable k i e) q = sheet_some ((sheet_when doubles bytes area (sheets.Refused k i)).0 e) q
      by (readable n e) q = omega arith

module _ (bytes area out : List ℕ) where
  pub read_coded : Coded 1 (length out) (unread_code bytes area) (sheet_heard (read_of doubles bytes area).answer) (read_arrays bytes area out).code
  read_coded = coded 1 (length out) (unread_code bytes area) (sheet_heard (read_of doubles bytes area).answer)
      (λ l. ap code_in (read_read bytes area out l)) (λ l. ap code_in (read_other bytes area out l))
      (λ p e. sheet_some ((sheet_heard_lem doubles bytes area 0 p).0 e).1 refl) (sheet_nonzero bytes area)

-- ---- determined
pub read_determined : {r q : ℕ} {xs ys us vs : List ℕ} (bytes area out : List ℕ)
    → returned r xs us ≡ read_arrays bytes area out → returned q ys vs ≡ read_arrays bytes area out → (r ≡ q) × (xs ≡ ys) × (us ≡ vs)
read_determined bytes area out = returned_determined (read_arrays bytes area out)

-- ---- what a refusal leaves
pub read_left : (bytes area values : List ℕ) → ((read_arrays bytes area values).code ≡ 0 → ⊥) → Left (read_arrays bytes area values) area values
unfolding read_arrays
read_left bytes area values = call_left sheet_heard sheets.Refused sheet_is (read_of doubles bytes area) area (λ k i. read_leaves doubles bytes area)
    values_of values values_left (eqb (length values) 1) (unread_code bytes area)
