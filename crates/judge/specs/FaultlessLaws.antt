-- What the theorems of proofs/FaultlessLaws.antt speak of. Definitions only.
use Rattle.std.specs.Prelude.{Bool, List, ℕ}
use Rattle.lists.specs.Every.{every}
use Rattle.kinds.specs.Limits.{Width}
use Rattle.judge.specs.Judge.{fault_free}

-- no pattern of a list has a fault
abbrev pub faultless : Width → List ℕ → Bool
faultless W ps = every (fault_free W) ps
