-- A sheet as C calls: what reading and writing return, and what each leaves in every array that it is lent. Definitions only.
use Rattle.std.specs.Prelude.{◌≡◌, cond, List, ℕ, eqb, length}
use Rattle.kinds.specs.Limits.{doubles}
use Rattle.kinds.specs.Heard.{sheet_heard}
use Rattle.kinds.specs.Sheet.{Read, Refused}
use Rattle.sheet.specs.Sheet.{read_of}
use Rattle.sheet.specs.Write.{written_of, written_heard}
use Rattle.arrays.specs.Arrays.{code_of, values_of, Returned, returned, too_many_or_4}

-- 4 for the array of values comes last, after what the reader itself refuses
abbrev pub unread_code : List ℕ → List ℕ → ℕ
unread_code bytes area = let code = code_of (sheet_heard (read_of doubles bytes area).answer) in cond (eqb code 0) 4 code

unfoldable pub read_arrays : List ℕ → List ℕ → List ℕ → Returned ℕ
read_arrays bytes area out =
    let r = read_of doubles bytes area in
    let h = sheet_heard r.answer in
    cond (eqb (length out) 1) (returned (code_of h) r.area (values_of h out)) (returned (unread_code bytes area) area out)

-- that code, row by row: what the reader refuses, and 4 after that
pub data SheetOther (bytes area : List ℕ) : ℕ → Type 0 where
  unreadable : (k i : ℕ) → (read_of doubles bytes area).answer ≡ Refused k i → SheetOther bytes area k
  readable : (n : ℕ) → (read_of doubles bytes area).answer ≡ Read n → SheetOther bytes area 4

-- ---- writing: 4 for the array of values has its place behind 1, where the writer has its own
unfoldable pub write_arrays : List ℕ → List ℕ → List ℕ → Returned ℕ
write_arrays ps area out =
    let w = written_of doubles ps area in
    let h = written_heard w.answer in
    cond (eqb (length out) 1) (returned (code_of h) w.area (values_of h out)) (returned (too_many_or_4 ps) area out)
