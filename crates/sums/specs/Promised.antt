-- What the theorems of proofs/Promised.antt speak of. Definitions only.
use Rattle.std.specs.Prelude.{List, [], ◌∷◌, ℤ, ◌-ℤ◌, Float}
use Rattle.std.specs.Float.{Format}
use Rattle.ieee.specs.Units.{value}
use Rattle.ieee.specs.Accuracy.{NearestTo}

-- rule S4
abbrev pub EachNearest : Format → ℤ → List Float → Type 0
EachNearest f S [] = Unit {0}
EachNearest f S (x ∷ xs) = NearestTo f S x × EachNearest f (S -ℤ value f x) xs
