-- The first number of a list that is too large or none. Definitions only.
use Rattle.std.specs.Prelude.{cond, List, [], ◌∷◌, ℕ, ◌+◌, Float}
use Rattle.kinds.specs.Limits.{Width}
use Rattle.sound.specs.Sound.{at_most}

-- the first place that is not finite, of magnitude at most so many units, or the length where there is none
unfoldable pub first_above : Width → ℕ → List Float → ℕ
first_above W most [] = 0
first_above W most (x ∷ xs) = cond (at_most W most x) (first_above W most xs + 1) 0
