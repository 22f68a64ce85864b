-- Rules D1 and O6 for a block step, for the walk of a list and for rounding a register: what each answer is given exactly for.
-- Definitions only.
use Rattle.std.specs.Prelude.{◌≡◌, true, false, ◌⊎◌, List, ℕ, ◌≤◌, ◌<◌, eqb, nat_abs, length, Float}
use Rattle.std.specs.Float.{binary64}
use Rattle.ieee.specs.Units.{limit, nearest_float}
use Rattle.lists.specs.Bitset.{has}
use Rattle.kinds.specs.Limits.{Width, blocks_of}
use Rattle.kinds.specs.State.{State}
use Rattle.kinds.specs.Verdict.{Verdict}
use Rattle.kinds.specs.Verdict.{Good, Refused}
use Rattle.kinds.specs.Nearest.{Nearest}
use Rattle.kinds.specs.Nearest as nearests
use Rattle.judge.specs.Table.{ListWhen}
use Rattle.words.specs.Words.{word_count, whole_of}
use Rattle.sound.specs.Numbers.{Numbers}
use Rattle.demands.specs.SoundState.{SoundSet, SoundState, FirstUnsound}

-- rule O2, for a step that names the ensemble k, each where none before it holds. 19 tells the place, and no other does.
pub data StepWhen (W : Width) (s : State) (k b : ℕ) (work : List Float) : Verdict → Type 0 where
  -- rules R4 and A2
  wrong_length : (length work ≡ s.n → ⊥) → StepWhen W s k b work (Refused 4 0)
  -- rule R21
  other_ensemble : length work ≡ s.n → (k ≡ s.ensemble → ⊥) → StepWhen W s k b work (Refused 21 0)
  -- rule R8
  unsound_numbers : length work ≡ s.n → k ≡ s.ensemble → (Numbers W s → ⊥) → StepWhen W s k b work (Refused 8 0)
  -- rule R18
  unsound_set : length work ≡ s.n → k ≡ s.ensemble → Numbers W s → (SoundSet W s → ⊥) → StepWhen W s k b work (Refused 18 0)
  -- rule R19
  unsound_place : length work ≡ s.n → k ≡ s.ensemble → Numbers W s → SoundSet W s → (i : ℕ) → FirstUnsound W s work i → StepWhen W s k b work (Refused 19 i)
  -- rule R6
  no_block : length work ≡ s.n → k ≡ s.ensemble → SoundState W s work → blocks_of W s.n ≤ b → StepWhen W s k b work (Refused 6 0)
  -- rule R7
  taken_before_lem : length work ≡ s.n → k ≡ s.ensemble → SoundState W s work → b < blocks_of W s.n → has s.pending b ≡ false
      → StepWhen W s k b work (Refused 7 0)
  accepted : length work ≡ s.n → k ≡ s.ensemble → SoundState W s work → b < blocks_of W s.n → has s.pending b ≡ true → StepWhen W s k b work Good

-- the refusals that are the state's: it isn't sound
abbrev pub OfState : ℕ → Type 0
OfState k = (k ≡ 8) ⊎ ((k ≡ 18) ⊎ (k ≡ 19))

-- opening and the undivided call: a list with a work area, and no parts slice
abbrev pub WalkWhen : Width → List ℕ → List Float → Verdict → Type 0
WalkWhen W ps work = ListWhen W (eqb (length work) (length ps)) true ps

-- rule O4, with rules R4 and R10; `limit` is rule G5's
pub data RoundWhen (ws : List ℕ) : Nearest → Type 0 where
  wrong_words : (length ws ≡ word_count → ⊥) → RoundWhen ws (nearests.Refused 4 0)
  beyond : length ws ≡ word_count → limit binary64 ≤ nat_abs (whole_of ws) → RoundWhen ws (nearests.Refused 10 0)
  nearest : length ws ≡ word_count → nat_abs (whole_of ws) < limit binary64 → RoundWhen ws (nearests.Sum (nearest_float binary64 false (whole_of ws)))
