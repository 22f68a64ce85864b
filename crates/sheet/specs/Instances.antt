-- What the theorems of proofs/Instances.antt speak of. Definitions only.
use Rattle.std.specs.Prelude.{List, [], ◌∷◌, ℕ}

-- `01 00000003 4630000000000000 3FF0000000000000 C630000000000000`
abbrev pub example_sheet : List ℕ
example_sheet =
    1 ∷ 0 ∷ 0 ∷ 0 ∷ 3 ∷ 0x46 ∷ 0x30 ∷ 0 ∷ 0 ∷ 0 ∷ 0 ∷ 0 ∷ 0 ∷ 0x3F ∷ 0xF0 ∷ 0 ∷ 0 ∷ 0 ∷ 0 ∷ 0 ∷ 0 ∷ 0xC6 ∷ 0x30 ∷ 0 ∷ 0 ∷ 0 ∷ 0 ∷ 0 ∷ 0 ∷ []

abbrev pub three : List ℕ
three = 0x4630000000000000 ∷ 0x3FF0000000000000 ∷ 0xC630000000000000 ∷ []
