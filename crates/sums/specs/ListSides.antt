-- The sums of a list's positive and of its negative numbers, side by side. Definitions only.
use Rattle.std.specs.Prelude.{List, map, ℕ}
use Rattle.units.specs.Whole.{Whole, difference, total}
use Rattle.kinds.specs.Limits.{Width}
use Rattle.addend.specs.Addend.{units_of}

abbrev pub list_sides : Width → List ℕ → Whole
list_sides W ps = total (map difference (map (units_of W) ps))
