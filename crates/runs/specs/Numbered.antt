-- What the theorems of proofs/Numbered.antt speak of. Definitions only.
use Rattle.std.specs.Prelude.{ℕ}
use Rattle.walk.specs.Ensembles.{walk_under}
use Rattle.runs.specs.Runs.{Ran}

-- ---- a run
abbrev pub run_under : ℕ → Ran → Ran
run_under k r = record { walk = walk_under k r.walk; steps = r.steps }
