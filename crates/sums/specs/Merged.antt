-- What the theorems of proofs/Merged.antt speak of. Definitions only.
use Rattle.std.specs.Prelude.{ℕ}
use mathlib.Core.List.{List, map}
use Rattle.register.specs.Entries.{add, run, zeros}

-- the register of a list: its numbers, added to zeros
abbrev pub added_up : List ℕ → List ℕ
added_up ps = run zeros (map add ps)
