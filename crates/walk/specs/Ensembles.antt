-- What the theorems of proofs/Ensembles.antt speak of. Definitions only.
use Rattle.std.specs.Prelude.{◌≡◌}
use Prim.Native.Nat.{ℕ}
use Rattle.kinds.specs.States.{state_of}
use Rattle.kinds.specs.Outcome.{outcome}
use Rattle.kinds.specs.State.{State}
use Rattle.kinds.specs.Step.{Step}
use Rattle.kinds.specs.Step.{More, Done, Refused}
use Rattle.walk.specs.Walk.{Walked}

-- the same state, answer and walk under the number k
abbrev pub under : ℕ → State → State
under k s = state_of s.n s.sigma s.t s.tau s.pending s.rounds k s.largest

abbrev pub answer_under : ℕ → Step → Step
answer_under k (More s told) = More (under k s) told
answer_under k (Done x r) = Done x r
answer_under k (Refused l p) = Refused l p

abbrev pub walk_under : ℕ → Walked → Walked
walk_under k w = outcome (answer_under k w.answer) w.area

-- ---- the number stays: an answer's state, if it has one, is of the ensemble k
abbrev pub Named : ℕ → Step → Type 0
Named k (More s told) = s.ensemble ≡ k
Named k (Done x r) = Unit {0}
Named k (Refused l p) = Unit {0}
