-- What the theorems of proofs/LaneFarewell.antt speak of. Definitions only.
use Rattle.std.specs.Prelude.{List, ◌∷◌, ◌++◌}
use Rattle.register.specs.Entries.{Change}

-- ---- a comes after xs, its opposite b after ys, and ws follow
abbrev pub around : List Change → List Change → List Change → Change → Change → List Change
around xs ys ws a b = xs ++ (a ∷ (ys ++ (b ∷ ws)))
