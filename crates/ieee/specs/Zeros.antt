-- What the theorems of proofs/Zeros.antt speak of. Definitions only.
use Rattle.std.specs.Prelude.{Float}
use Rattle.std.specs.Float.{Format}
use Rattle.std.specs.Float.Ieee.{top, of_bits}

-- its pattern is the sign alone
abbrev pub minus_zero : Format → Float
minus_zero f = of_bits f (top f)
