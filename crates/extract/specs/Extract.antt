-- One area of the faithful walk over lib.Ieee's operations: taking its numbers, adding them up, and the largest magnitude. Definitions only.
-- Rule WB2: each operation is one rounded operation of the format.
use Rattle.std.specs.Prelude.{false, cond, ℕ, max, pos, Float}
use mathlib.Core.List.{List, map, foldl, foldr}
use Rattle.std.specs.Float.{Format}
use Rattle.std.specs.Float.Ieee.{of_bits, add, sub, neg, lt}
use Rattle.ieee.specs.Units.{magnitude, nearest_float}

abbrev pub plus_zero : Format → Float
plus_zero f = of_bits f 0

-- ---- rule WB1: taking numbers
abbrev pub high_part : Format → Float → Float → Float
high_part f sigma p = sub f (add f sigma p) sigma

abbrev pub remainder_of : Format → Float → Float → Float
remainder_of f sigma p = sub f p (high_part f sigma p)

unfoldable pub remainders : Format → Float → List Float → List Float
remainders f sigma xs = map (remainder_of f sigma) xs

unfoldable pub gathered : Format → Float → Float → List Float → Float
gathered f sigma tau xs = foldl (λ t p. add f t (high_part f sigma p)) tau xs

-- ---- T of rule W3; rule E4 has why there is one chain
unfoldable pub last_sum : Format → List Float → Float
last_sum f xs = foldl (add f) (plus_zero f) xs

-- ---- a magnitude, for rule W3's test
abbrev pub absolute : Format → Float → Float
absolute f x = cond (lt x (plus_zero f)) (neg x) x

-- ---- mu of rule WO3, in units
unfoldable pub largest : Format → List Float → ℕ
largest f xs = foldr (λ x m. max (magnitude f x) m) 0 xs

-- ---- rule WS13: the larger of m and of all of xs in magnitude, as a float without a sign
unfoldable pub largest_with : Format → Float → List Float → Float
largest_with f m xs = nearest_float f false (pos (max (magnitude f m) (largest f xs)))
