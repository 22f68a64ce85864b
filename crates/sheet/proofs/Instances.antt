-- The sheet at the scope's width: every list of at most 4,094 patterns is read back; and rule P5's sheet and some of 1, 4, 5 and 6 bytes, computed.
-- Assumes nothing.
use Rattle.std.specs.Prelude.{◌≡◌, refl, List, [], ◌∷◌, ◌++◌, ℕ, ◌≤◌, length, drop}
use Rattle.std.proofs.Common.{lit≤}
use Rattle.lists.specs.Digits.{Digits, number, digits}
use Rattle.octets.specs.Octets.{joined, eights}
use Rattle.kinds.specs.Limits.{doubles}
use Rattle.kinds.specs.Outcome.{outcome}
use Rattle.kinds.specs.Sheet.{Read, Refused}
use Rattle.sheet.specs.Sheet.{sheet_of, read_of}
use Rattle.sheet.proofs.SheetLaws.{sheet_read}
use Rattle.sheet.specs.Instances.{example_sheet, three}

pub doubles_read : (ps area : List ℕ) → length ps ≤ doubles.length → Digits 64 ps → length ps ≤ length area
    → read_of doubles (sheet_of ps) area ≡ outcome (Read (length ps)) (ps ++ drop (length ps) area)
doubles_read ps area = sheet_read doubles ps area (lit≤ tt)

pub example_is : sheet_of three ≡ example_sheet
unfolding sheet_of joined digits
example_is = refl

pub example_read : read_of doubles example_sheet (7 ∷ 7 ∷ 7 ∷ 7 ∷ []) ≡ outcome (Read 3) (three ++ (7 ∷ []))
unfolding read_of eights number
example_read = refl

-- the first of several refusals that hold is told
pub one_byte : read_of doubles (2 ∷ []) [] ≡ outcome (Refused 11 0) []
unfolding read_of eights number
one_byte = refl

pub four_bytes : read_of doubles (2 ∷ 0 ∷ 0 ∷ 0 ∷ []) [] ≡ outcome (Refused 11 0) []
unfolding read_of eights number
four_bytes = refl

pub five_bytes : read_of doubles (1 ∷ 0 ∷ 0 ∷ 0 ∷ 0 ∷ []) (7 ∷ []) ≡ outcome (Read 0) (7 ∷ [])
unfolding read_of eights number
five_bytes = refl

pub six_bytes : read_of doubles (1 ∷ 0 ∷ 0 ∷ 0 ∷ 0 ∷ 0 ∷ []) [] ≡ outcome (Refused 13 0) []
unfolding read_of eights number
six_bytes = refl

pub version_first : read_of doubles (2 ∷ 0xFF ∷ 0xFF ∷ 0xFF ∷ 0xFF ∷ []) [] ≡ outcome (Refused 12 0) []
unfolding read_of eights number
version_first = refl

pub limit_before_length : read_of doubles (1 ∷ 0 ∷ 0 ∷ 0x10 ∷ 0 ∷ []) [] ≡ outcome (Refused 1 0) []
unfolding read_of eights number
limit_before_length = refl

pub count_before_area : read_of doubles (1 ∷ 0 ∷ 0 ∷ 0 ∷ 1 ∷ []) [] ≡ outcome (Refused 11 0) []
unfolding read_of eights number
count_before_area = refl
