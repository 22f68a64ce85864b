-- What the theorems of proofs/NoRefusal.antt speak of. Definitions only.
use Rattle.std.specs.Prelude.{◌≡◌}
use Rattle.kinds.specs.Step.{Step}
use Rattle.kinds.specs.Step.{More, Done, Refused}
use Rattle.kinds.specs.Verdict.{Verdict}
use Rattle.kinds.specs.Verdict as verdicts

-- the verdict that an answer comes from
abbrev pub verdict_of : Step → Verdict
verdict_of (More s told) = verdicts.Good
verdict_of (Done x r) = verdicts.Good
verdict_of (Refused k i) = verdicts.Refused k i

pub record Unrefused (a : Step) : Type 0 where
  pub good : verdict_of a ≡ verdicts.Good
