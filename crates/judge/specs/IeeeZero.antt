-- What the theorems of proofs/IeeeZero.antt speak of. Definitions only.
use Rattle.std.specs.Prelude.{ℕ, ◌*◌, ◌<◌, Float}
use mathlib.Core.List.{List, [], ◌∷◌, foldl}
use Rattle.std.specs.Float.{Format}
use Rattle.std.specs.Float.Ieee.{top, of_bits, add}
use Rattle.lists.specs.Each.{Each}
use Rattle.kinds.specs.Limits.{Width}

-- the numbers added up as the format adds; +0 where there is none
unfoldable pub ieee_sum : Format → List Float → Float
ieee_sum f [] = of_bits f 0
ieee_sum f (x ∷ xs) = foldl (add f) x xs

-- a list of patterns of the format, its NaNs and infinities too
abbrev pub Patterns : Width → List ℕ → Type 0
Patterns W ps = Each (λ p. p < 2 * top W.format) ps
