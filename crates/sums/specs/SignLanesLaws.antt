-- What the theorems of proofs/SignLanesLaws.antt speak of. Definitions only.
use Rattle.std.specs.Prelude.{List, ℕ, ◌+◌, get_or, set}

-- d more in the lane k
abbrev pub raised : List ℕ → ℕ → ℕ → List ℕ
raised xs k d = set xs k (get_or xs k 0 + d)
