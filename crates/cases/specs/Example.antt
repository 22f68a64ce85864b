-- What the theorems of proofs/Example.antt speak of. Definitions only.
use Rattle.std.specs.Prelude.{List, [], ◌∷◌, ℕ}
use Rattle.kinds.specs.Step as steps
use Rattle.sound.specs.Sound as N
use Rattle.rounds.specs.Round as R
use Rattle.walk.specs.Walk as W
use Rattle.sums.specs.Sums as S

-- ---- rule T6's list
abbrev pub unequal : List ℕ
unequal = 0x3FF0000000000000 ∷ 0x3CA0000000000000 ∷ 1 ∷ []

-- ---- rule T3's list
abbrev pub minus_zeros : List ℕ
minus_zeros = 0x8000000000000000 ∷ 0x8000000000000000 ∷ []
