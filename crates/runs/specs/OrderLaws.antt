-- What the theorems of proofs/OrderLaws.antt speak of. Definitions only.
use Rattle.std.specs.Prelude.{Bool, ◌&&◌, ℕ, eqb}
use mathlib.Core.List.Permᴰ
use mathlib.Core.List.{List, [], ◌∷◌}
use Rattle.lists.specs.Bitset.{has, without}

-- bs are the members of P, each once
unfoldable pub once : ℕ → List ℕ → Bool
once P [] = eqb P 0
once P (b ∷ bs) = has P b && once (without P b) bs
