-- What the writer answers, case by case. Assumes nothing.
use Rattle.std.specs.Prelude.{◌≡◌, List, ◌++◌, ℕ, ◌+◌, ◌*◌, ◌≤◌, ◌<◌, drop}
use borrow.Author.Tests.{lt-ltb, le-ltb}
use Rattle.std.proofs.Math.ListN.{length}
use Rattle.kinds.specs.Limits.{Width}
use Rattle.kinds.specs.Outcome.{outcome}
use Rattle.sheet.specs.Sheet.{sheet_of}
use Rattle.sheet.specs.Write.{written_of}
use Rattle.sheet.specs.Written.{Wrote, Refused}

module _ (W : Width) (ps area : List ℕ) where
  pub write_many : W.length < length ps → written_of W ps area ≡ outcome (Refused 1 0) area
  unfolding written_of
  write_many h = rw (lt-ltb W.length (length ps) h)

  pub write_no_room : length ps ≤ W.length → length area < 5 + 8 * length ps → written_of W ps area ≡ outcome (Refused 4 0) area
  unfolding written_of
  write_no_room few s = rw (le-ltb W.length (length ps) few, lt-ltb (length area) (5 + 8 * length ps) s)

  pub write_all : length ps ≤ W.length → 5 + 8 * length ps ≤ length area
      → written_of W ps area ≡ outcome (Wrote (5 + 8 * length ps)) (sheet_of ps ++ drop (5 + 8 * length ps) area)
  unfolding written_of
  write_all few s = rw (le-ltb W.length (length ps) few, le-ltb (length area) (5 + 8 * length ps) s)
