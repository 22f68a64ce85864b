-- What the theorems of proofs/SheetLaws.antt speak of. Definitions only.
use Rattle.std.specs.Prelude.{◌≡◌, List, ℕ, ◌+◌, ◌*◌, ◌≤◌}
use Rattle.std.proofs.Math.ListN.{length}
use Rattle.kinds.specs.Limits.{Width}
use Rattle.sheet.specs.Sheet.{version_of, count_of}

-- ---- a sheet that is read

-- what holds of it
pub record Readable (W : Width) (bytes area : List ℕ) : Type 0 where
  pub header : 5 ≤ length bytes
  pub version : version_of bytes ≡ 1
  pub few : count_of bytes ≤ W.length
  pub exact : length bytes ≡ 5 + 8 * count_of bytes
  pub room : count_of bytes ≤ length area
