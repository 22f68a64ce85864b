-- Rule S3 of a walk's opening, from C: of nothing but -0 the ten numbers are those of a finished walk with -0 after 0 rounds; a line for each width.
-- Assumes nothing.
use Rattle.std.specs.Prelude.{◌≡◌, List, ◌∷◌, ℕ, length, replicate, Float}
use Rattle.std.proofs.Common.{ap, ◌∙◌}
use Rattle.std.specs.Float.Ieee.{top}
use Rattle.ieee.proofs.Zeros.{minus_bits}
use Rattle.kinds.specs.Limits.{Width, doubles, singles}
use Rattle.judge.specs.Judge.{floats}
use Rattle.judge.specs.Table.{MinusZeros}
use Rattle.rounds.specs.Fitting.{Fitting}
use Rattle.rounds.specs.Instances.{doubles_fit, singles_fit}
use Rattle.walk.specs.Walk.{Walked}
use Rattle.runs.proofs.ZeroSum.{opened_minus}
use Rattle.runs.specs.Instances.{Accepted}
use Rattle.arrays.specs.Arrays.{returned}
use Rattle.step_calls.specs.StepArrays.{walk_numbers, walk_returned, open_with, open_arrays, open_singles}
use Rattle.step_calls.proofs.StepArraysLaws.{open_walked}

pub open_minus : {W : Width} → Fitting W → (k : ℕ) (ps : List ℕ) (work : List Float) (numbers : List ℕ) → Accepted W ps work → length numbers ≡ walk_numbers
    → MinusZeros W ps → open_with W k ps work numbers ≡ returned 0 (floats W ps) (2 ∷ top W.format ∷ 0 ∷ replicate 7 0)
open_minus {W} F k ps work numbers G l M =
    open_walked W k ps work numbers l
    ∙ ap (λ (w : Walked). walk_returned W w numbers) (opened_minus F ps work G M k)
    ∙ ap (λ (b : ℕ). returned 0 (floats W ps) (2 ∷ b ∷ 0 ∷ replicate 7 0)) (minus_bits W.format)

module _ (k : ℕ) (ps : List ℕ) (work : List Float) (numbers : List ℕ) where
  pub open_minus_64 : Accepted doubles ps work → length numbers ≡ walk_numbers → MinusZeros doubles ps
      → open_arrays k ps work numbers ≡ returned 0 (floats doubles ps) (2 ∷ 0x8000000000000000 ∷ 0 ∷ replicate 7 0)
  open_minus_64 = open_minus doubles_fit k ps work numbers

  pub open_minus_32 : Accepted singles ps work → length numbers ≡ walk_numbers → MinusZeros singles ps
      → open_singles k ps work numbers ≡ returned 0 (floats singles ps) (2 ∷ 0x80000000 ∷ 0 ∷ replicate 7 0)
  open_minus_32 = open_minus singles_fit k ps work numbers
