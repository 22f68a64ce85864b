-- The faithful walk: opening, a block step, and the undivided run. Definitions only.
use Rattle.std.specs.Prelude.{true, cond, ℕ, zero, suc, eqb, pos, length, Float}
use mathlib.Core.List.{List, [], ◌∷◌, ◌++◌, foldl}
use Rattle.ieee.specs.Units.{nearest_float}
use Rattle.kinds.specs.Limits.{Width, blocks_of}
use Rattle.kinds.specs.Outcome.{Outcome, outcome}
use Rattle.kinds.specs.State.{State}
use Rattle.kinds.specs.Step.{Step}
use Rattle.kinds.specs.Step.{More, Done, Refused}
use Rattle.kinds.specs.Verdict.{Verdict}
use Rattle.kinds.specs.Verdict as verdicts
use Rattle.judge.specs.Judge.{judged, floats, zero_sign}
use Rattle.extract.specs.Extract.{plus_zero, largest}
use Rattle.sound.specs.Sound.{gated}
use Rattle.rounds.specs.Round.{turned, taken_state, fresh, closed}

-- rule A3: the answer, and the work area afterwards
abbrev pub Walked : Type 0
Walked = Outcome Step Float

-- ---- rules WO1 to WO3, WS12 and WS14: the opening, under the number k of an ensemble; it tells +0
unfoldable pub opened_after : Width → ℕ → Verdict → List ℕ → List Float → Walked
opened_after W k verdicts.Good ps work =
    let zero = nearest_float W.format (zero_sign W ps) (pos 0) in
    let xs = floats W ps in
    outcome (fresh W zero (length ps) (largest W.format xs) 0 k (plus_zero W.format)) xs
opened_after W k (verdicts.Refused l p) ps work = outcome (Refused l p) work

abbrev pub opened : Width → ℕ → List ℕ → List Float → Walked
opened W k ps work = opened_after W k (judged W (eqb (length work) (length ps)) true ps) ps work

-- ---- rules WB1 and WC1, a step of an accepted block: its numbers become their remainders, tau gathers them, and after the last pending block the round
-- closes; no block is cut again before that (rule E3). Rule WS14: what is told is the largest remainder of the block's own round
unfoldable pub taken : Width → State → ℕ → List Float → Walked
taken W s b work =
    let next = taken_state W s b work in
    let xs = turned W s.sigma b work in
    outcome (cond (eqb next.pending 0) (closed W next xs) (More next next.largest)) xs

unfoldable pub stepped_after : Width → Verdict → State → ℕ → List Float → Walked
stepped_after W verdicts.Good s b work = taken W s b work
stepped_after W (verdicts.Refused k p) s b work = outcome (Refused k p) work

-- a step that names the ensemble k
abbrev pub stepped : Width → State → ℕ → ℕ → List Float → Walked
stepped W s k b work = stepped_after W (gated W s k b work) s b work

-- ---- rule WR1
-- a step at block b of a walk that goes on, under the number that its state has; nothing of one that has ended
abbrev pub onward : Width → Walked → ℕ → Walked
onward W w b = after w.answer
  where
    after : Step → Walked
    after (More s told) = stepped W s s.ensemble b w.area
    after (Done x r) = w
    after (Refused k p) = w

-- the blocks 0 to count - 1
unfoldable pub rising : ℕ → List ℕ
rising zero = []
rising (suc count) = rising count ++ (count ∷ [])

-- that many rounds, each with its blocks in rising order
unfoldable pub rounds_from : Width → ℕ → ℕ → Walked → Walked
rounds_from W blocks zero w = w
rounds_from W blocks (suc k) w = rounds_from W blocks k (foldl (onward W) w (rising blocks))

-- the undivided walk under the number k: one round more than a sound state has closed at most, so that no walk is cut short
abbrev pub undivided_of : Width → ℕ → List ℕ → List Float → Walked
undivided_of W k ps work = rounds_from W (blocks_of W (length ps)) (suc W.rounds) (opened W k ps work)

-- the undivided call is given no number, and answers no state that could have one
abbrev pub faithful_of : Width → List ℕ → List Float → Walked
faithful_of W ps work = undivided_of W 0 ps work
