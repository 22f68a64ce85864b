-- What the theorems of proofs/HeardLaws.antt speak of. Definitions only.
use Rattle.std.specs.Prelude.{T}
use Rattle.std.specs.Float.Ieee.{fits}
use Rattle.kinds.specs.Limits.{Width}
use Rattle.kinds.specs.Step.{Step}
use Rattle.kinds.specs.Step.{More, Done, Refused}
use Rattle.kinds.specs.Nearest.{Nearest}
use Rattle.kinds.specs.Nearest as nearests

-- ---- the answers with floats

-- the floats of an answer are ones that the format holds
abbrev pub NearestFits : Width → Nearest → Type 0
NearestFits W (nearests.Sum x) = T (fits W.format x)
NearestFits W (nearests.Refused k p) = Unit {0}

abbrev pub StepFits : Width → Step → Type 0
StepFits W (More s told) =
    T (fits W.format s.sigma) × T (fits W.format s.t) × T (fits W.format s.tau) × T (fits W.format s.largest)
    × T (fits W.format told)
StepFits W (Done x r) = T (fits W.format x)
StepFits W (Refused k p) = Unit {0}
