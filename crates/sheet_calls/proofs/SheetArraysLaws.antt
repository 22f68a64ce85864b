-- A sheet as a C call, case by case: another length of the array of values, and what the reader itself answers otherwise; and that each of its refusals is one
-- of the table. Assumes nothing.
use Rattle.std.specs.Prelude.{◌≡◌, refl, cond, List, [], ◌∷◌, ◌++◌, ℕ, ◌+◌, ◌*◌, ◌≤◌, eqb, length}
use Rattle.std.proofs.Common.{sym, ap, inl, inr, arith, eq-eqb, ne_eqb}
use Rattle.units.proofs.Powers.{le_or_lt}
use Rattle.kinds.specs.Limits.{doubles}
use Rattle.kinds.specs.Heard.{Refusal, sheet_heard}
use Rattle.kinds.specs.Sheet.{Sheet}
use Rattle.kinds.specs.Sheet as sheets
use Rattle.sheet.specs.Sheet.{count_of, read_of}
use Rattle.sheet.specs.Table.{Begun, SheetWhen, no_header, other_version, too_many, too_short, too_long, no_room, all_read}
use Rattle.sheet.proofs.TableLaws.{sheet_when}
use Rattle.arrays.specs.Arrays.{code_of, values_of, returned}
use Rattle.sheet_calls.specs.SheetArrays.{unread_code, read_arrays}

module _ (bytes area out : List ℕ) where
  pub read_other : (length out ≡ 1 → ⊥) → read_arrays bytes area out ≡ returned (unread_code bytes area) area out
  unfolding read_arrays
  read_other h = rw (ne_eqb (length out) 1 h)

  pub read_read : length out ≡ 1
      → let r = read_of doubles bytes area in
      read_arrays bytes area out ≡ returned (code_of (sheet_heard r.answer)) r.area (values_of (sheet_heard r.answer) out)
  unfolding read_arrays
  read_read h = rw (eq-eqb (length out) 1 h)

pub nothing_before : (xs ys : List ℕ) → length xs ≡ 0 → xs ++ ys ≡ ys
nothing_before [] ys e = refl
nothing_before (x ∷ xs) ys e = absurd (omega arith)

-- where the array of values has another length, the code is the same over whatever area the reader is tried: its refusal, or 4 where it reads or finds no room
module _ (bytes area : List ℕ) where
  unread_is : {r : Sheet} → SheetWhen doubles bytes area r → unread_code bytes area ≡ cond (eqb (code_of (sheet_heard r)) 0) 4 (code_of (sheet_heard r))
  unread_is {r} R =
      ap (λ (x : Sheet). cond (eqb (code_of (sheet_heard x)) 0) 4 (code_of (sheet_heard x))) ((sheet_when doubles bytes area r).1 R)

  by_room : Begun bytes → count_of bytes ≤ doubles.length → length bytes ≡ 5 + 8 * count_of bytes → unread_code bytes area ≡ 4
  by_room B f e = elim (le_or_lt (count_of bytes) (length area)) [ inl s ↦ unread_is (all_read B f e s) | inr s ↦ unread_is (no_room B f e s) ]

  module _ (tried : List ℕ) where
    read_row : {n : ℕ} → SheetWhen doubles bytes tried (sheets.Read n) → unread_code bytes area ≡ 4
    read_row (all_read B f e s) = by_room B f e

    pub unread_read : (n : ℕ) → (read_of doubles bytes tried).answer ≡ sheets.Read n → 4 ≡ unread_code bytes area
    unread_read n e = sym (read_row ((sheet_when doubles bytes tried (sheets.Read n)).0 e))

    refused_row : {k i : ℕ} → SheetWhen doubles bytes tried (sheets.Refused k i) → unread_code bytes area ≡ k
    refused_row (no_header h) = unread_is (no_header h)
    refused_row (other_version h v) = unread_is (other_version h v)
    refused_row (too_many B m) = unread_is (too_many B m)
    refused_row (too_short B f s) = unread_is (too_short B f s)
    refused_row (too_long B f l) = unread_is (too_long B f l)
    refused_row (no_room B f e s) = by_room B f e

    pub unread_refused : (k i : ℕ) → (read_of doubles bytes tried).answer ≡ sheets.Refused k i → k ≡ unread_code bytes area
    unread_refused k i e = sym (refused_row ((sheet_when doubles bytes tried (sheets.Refused k i)).0 e))

-- ---- what is refused is refused with a number of the table
sheet_row : {bytes area : List ℕ} {k i : ℕ} → SheetWhen doubles bytes area (sheets.Refused k i) → Refusal doubles.length k i
sheet_row (no_header h) = record { number = omega arith; place = omega arith; as_told = refl }
sheet_row (other_version h v) = record { number = omega arith; place = omega arith; as_told = refl }
sheet_row (too_many B m) = record { number = omega arith; place = omega arith; as_told = refl }
sheet_row (too_short B f s) = record { number = omega arith; place = omega arith; as_told = refl }
sheet_row (too_long B f l) = record { number = omega arith; place = omega arith; as_told = refl }
sheet_row (no_room B f e s) = record { number = omega arith; place = omega arith; as_told = refl }

pub read_refusal : (bytes area : List ℕ) (k i : ℕ) → (read_of doubles bytes area).answer ≡ sheets.Refused k i → Refusal doubles.length k i
read_refusal bytes area k i e = sheet_row ((sheet_when doubles bytes area (sheets.Refused k i)).0 e)
