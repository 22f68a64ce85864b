-- What the theorems of proofs/Told.antt speak of. Definitions only.
use Rattle.std.specs.Prelude.{◌≡◌, Float}
use Rattle.kinds.specs.Step.{Step}
use Rattle.kinds.specs.Step.{More, Done, Refused}

-- an answer with a state tells m, and the state keeps l
abbrev pub Tells : Float → Float → Step → Type 0
Tells m l (More s told) = (told ≡ m) × (s.largest ≡ l)
Tells m l (Done x r) = Unit {0}
Tells m l (Refused k p) = Unit {0}
