-- Writing a contribution sheet: what the writer answers and leaves, what is heard of it, and what each answer is given exactly for. Definitions only.
use Rattle.std.specs.Prelude.{cond, List, ◌++◌, ℕ, ◌+◌, ◌*◌, ◌≤◌, ◌<◌, ltb, length, drop}
use Rattle.kinds.specs.Limits.{Width}
use Rattle.kinds.specs.Heard.{Heard, refused, count, place_of}
use Rattle.kinds.specs.Outcome.{Outcome, outcome}
use Rattle.sheet.specs.Sheet.{sheet_of}
use Rattle.sheet.specs.Written.{Written}
use Rattle.sheet.specs.Written.{Wrote, Refused}

-- the answer, and the area afterwards
abbrev pub Writing : Type 0
Writing = Outcome Written ℕ

-- ---- rule O8; rules H4 and H5: what is written, and what stays
unfoldable pub written_of : Width → List ℕ → List ℕ → Writing
written_of W ps area =
    let size = 5 + 8 * length ps in
    cond (ltb W.length (length ps)) (outcome (Refused 1 0) area)
    (cond (ltb (length area) size) (outcome (Refused 4 0) area)
    (outcome (Wrote size) (sheet_of ps ++ drop size area)))

-- ---- what a caller hears
abbrev pub written_heard : Written → Heard
written_heard (Wrote size) = count size
written_heard (Refused k i) = refused k (place_of k i)

-- ---- rule O6 for writing, in rule O8's order, each row where none before it holds. None tells a place
pub data WriteWhen (W : Width) (ps area : List ℕ) : Written → Type 0 where
  -- rule R1
  too_many : W.length < length ps → WriteWhen W ps area (Refused 1 0)
  -- rules R4 and A2
  no_room : length ps ≤ W.length → length area < 5 + 8 * length ps → WriteWhen W ps area (Refused 4 0)
  all_written : length ps ≤ W.length → 5 + 8 * length ps ≤ length area → WriteWhen W ps area (Wrote (5 + 8 * length ps))
