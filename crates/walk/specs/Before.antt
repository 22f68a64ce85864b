-- The walk as it was before a state kept its round's largest remainder: mu of a close is the largest magnitude of the work area, and nothing is told. The
-- reference for rule DR6, which says that no run differs. A state of it keeps +0, which every gate lets pass. Definitions only.
use Rattle.std.specs.Prelude.{cond, ℕ, zero, suc, eqb, length, Float}
use mathlib.Core.List.{List, foldl}
use Rattle.lists.specs.Bitset.{without}
use Rattle.kinds.specs.Limits.{Width, blocks_of}
use Rattle.kinds.specs.Outcome.{outcome}
use Rattle.kinds.specs.State.{State}
use Rattle.kinds.specs.Step.{Step}
use Rattle.kinds.specs.Step.{More, Done, Refused}
use Rattle.kinds.specs.Verdict.{Verdict}
use Rattle.kinds.specs.Verdict as verdicts
use Rattle.extract.specs.Extract.{plus_zero, gathered, largest}
use Rattle.sound.specs.Sound.{gated}
use Rattle.rounds.specs.Round.{block_of, turned, in_round, closed_by}
use Rattle.walk.specs.Walk.{Walked, opened, rising}

unfoldable pub taken_before : Width → State → ℕ → List Float → Walked
taken_before W s b work =
    let f = W.format in
    let next = in_round s (gathered f s.sigma s.tau (block_of W b work)) (plus_zero f) (without s.pending b) in
    let xs = turned W s.sigma b work in
    outcome (cond (eqb next.pending 0) (closed_by W (largest f xs) next xs) (More next (plus_zero f))) xs

unfoldable pub stepped_before_after : Width → Verdict → State → ℕ → List Float → Walked
stepped_before_after W verdicts.Good s b work = taken_before W s b work
stepped_before_after W (verdicts.Refused k p) s b work = outcome (Refused k p) work

abbrev pub stepped_before : Width → State → ℕ → ℕ → List Float → Walked
stepped_before W s k b work = stepped_before_after W (gated W s k b work) s b work

-- ---- the undivided walk
abbrev pub onward_before : Width → Walked → ℕ → Walked
onward_before W w b = after w.answer
  where
    after : Step → Walked
    after (More s told) = stepped_before W s s.ensemble b w.area
    after (Done x r) = w
    after (Refused k p) = w

unfoldable pub rounds_before : Width → ℕ → ℕ → Walked → Walked
rounds_before W blocks zero w = w
rounds_before W blocks (suc k) w = rounds_before W blocks k (foldl (onward_before W) w (rising blocks))

abbrev pub faithful_before : Width → List ℕ → List Float → Walked
faithful_before W ps work = rounds_before W (blocks_of W (length ps)) (suc W.rounds) (opened W 0 ps work)

-- ---- a state, an answer and a walk without the numbers that are kept and told
abbrev pub forgetful : Width → State → State
forgetful W s = in_round s s.tau (plus_zero W.format) s.pending

abbrev pub forgotten_answer : Width → Step → Step
forgotten_answer W (More s told) = More (forgetful W s) (plus_zero W.format)
forgotten_answer W (Done x r) = Done x r
forgotten_answer W (Refused k p) = Refused k p

abbrev pub forgotten : Width → Walked → Walked
forgotten W w = outcome (forgotten_answer W w.answer) w.area
