-- Rule O6 for a sheet: what each answer is given exactly for, in rule O5's order, each where none before it holds. None tells a place. Definitions only.
use Rattle.std.specs.Prelude.{◌≡◌, List, ℕ, ◌+◌, ◌*◌, ◌≤◌, ◌<◌, length}
use Rattle.kinds.specs.Limits.{Width}
use Rattle.kinds.specs.Sheet.{Sheet}
use Rattle.kinds.specs.Sheet.{Read, Refused}
use Rattle.sheet.specs.Sheet.{version_of, count_of}

-- a sheet with its header, of version 1
pub record Begun (bytes : List ℕ) : Type 0 where
  pub header : 5 ≤ length bytes
  pub version : version_of bytes ≡ 1

pub data SheetWhen (W : Width) (bytes area : List ℕ) : Sheet → Type 0 where
  -- rule R11: no header
  no_header : length bytes < 5 → SheetWhen W bytes area (Refused 11 0)
  -- rule R12
  other_version : 5 ≤ length bytes → (version_of bytes ≡ 1 → ⊥) → SheetWhen W bytes area (Refused 12 0)
  -- rule R1
  too_many : Begun bytes → W.length < count_of bytes → SheetWhen W bytes area (Refused 1 0)
  -- rule R11: numbers are missing
  too_short : Begun bytes → count_of bytes ≤ W.length → length bytes < 5 + 8 * count_of bytes → SheetWhen W bytes area (Refused 11 0)
  -- rule R13
  too_long : Begun bytes → count_of bytes ≤ W.length → 5 + 8 * count_of bytes < length bytes → SheetWhen W bytes area (Refused 13 0)
  -- rules R4 and A2
  no_room : Begun bytes → count_of bytes ≤ W.length → length bytes ≡ 5 + 8 * count_of bytes → length area < count_of bytes
      → SheetWhen W bytes area (Refused 4 0)
  all_read : Begun bytes → count_of bytes ≤ W.length → length bytes ≡ 5 + 8 * count_of bytes → count_of bytes ≤ length area
      → SheetWhen W bytes area (Read (count_of bytes))
