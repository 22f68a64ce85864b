-- Rule S6: a non-overlapping sequence of floats, document 000's Definition 5.1. Definitions only.
use Rattle.std.specs.Prelude.{◌≡◌, ◌⊎◌, List, [], ◌∷◌, ◌*◌, ◌^◌, ◌≤◌, ◌<◌, Float}
use Rattle.std.specs.Float.{Format}
use Rattle.std.specs.Float.Ieee.{prec}
use Rattle.units.specs.Rounding.{ufp}
use Rattle.ieee.specs.Units.{magnitude}

-- y is zero, or |x| ≥ |y| and ufp(y) < 2 eps ufp(x). Where x is zero only the first can be.
abbrev pub Apart : Format → Float → Float → Type 0
Apart f x y = (magnitude f y ≡ 0) ⊎ ((magnitude f y ≤ magnitude f x) × (2 ^ prec f * ufp (magnitude f y) < 2 * ufp (magnitude f x)))

-- each pair of neighbours is so: zeros stand at the end, and zeros only
abbrev pub NonOverlapping : Format → List Float → Type 0
NonOverlapping f [] = Unit {0}
NonOverlapping f (x ∷ []) = Unit {0}
NonOverlapping f (x ∷ y ∷ zs) = Apart f x y × NonOverlapping f (y ∷ zs)
