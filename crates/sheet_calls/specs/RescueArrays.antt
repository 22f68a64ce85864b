-- A damaged sheet rescued, as a C call: what it returns, and what it leaves in every array that it is lent. Definitions only.
use Rattle.std.specs.Prelude.{◌≡◌, cond, not, List, ℕ, ◌≤◌, ◌<◌, ltb, eqb, length}
use Rattle.kinds.specs.Limits.{doubles}
use Rattle.sheet.specs.Sheet.{version_of, count_of}
use Rattle.sheet.specs.Table.{Begun}
use Rattle.rescue.specs.Rescue.{rescued_of, rescued_heard}
use Rattle.arrays.specs.Arrays.{code_of, values_of}

-- what is returned, both areas and the report afterwards
pub record RescueReturned : Type 0 where
  pub code : ℕ
  pub sheet : List ℕ
  pub marks : List ℕ
  pub report : List ℕ

abbrev pub rescue_returned : ℕ → List ℕ → List ℕ → List ℕ → RescueReturned
rescue_returned c sheet marks report = record { code = c; sheet = sheet; marks = marks; report = report }

-- where the report's array has another length than four: 4 in its place, which is last
abbrev pub unrescued_code : List ℕ → ℕ
unrescued_code bytes =
    cond (ltb (length bytes) 5) 11
    (cond (not (eqb (version_of bytes) 1)) 12
    (cond (ltb doubles.length (count_of bytes)) 1
    4))

-- that code, row by row
pub data RescueOther (bytes : List ℕ) : ℕ → Type 0 where
  no_header : length bytes < 5 → RescueOther bytes 11
  other_version : 5 ≤ length bytes → (version_of bytes ≡ 1 → ⊥) → RescueOther bytes 12
  too_many : Begun bytes → doubles.length < count_of bytes → RescueOther bytes 1
  otherwise : Begun bytes → count_of bytes ≤ doubles.length → RescueOther bytes 4

-- ---- rules C9 and C10
unfoldable pub rescue_arrays : List ℕ → List ℕ → List ℕ → List ℕ → RescueReturned
rescue_arrays bytes sheet marks report =
    let r = rescued_of doubles bytes sheet marks in
    let h = rescued_heard r.answer in
    cond (eqb (length report) 4) (rescue_returned (code_of h) r.sheet r.marks (values_of h report))
    (rescue_returned (unrescued_code bytes) sheet marks report)

-- every array is as it was
pub record RescueLeft (w : RescueReturned) (xs ms vs : List ℕ) : Type 0 where
  pub sheet : w.sheet ≡ xs
  pub marks : w.marks ≡ ms
  pub report : w.report ≡ vs
