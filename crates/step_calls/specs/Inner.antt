-- What the functions below the calls ask for. Definitions only.
use Rattle.std.specs.Prelude.{Bool, ◌&&◌, List, ℕ, ◌*◌, ◌-◌, ◌^◌, ◌%◌, ◌≤◌, leb, get_or}
use Rattle.std.specs.Float.{Format}
use Rattle.std.specs.Float.Ieee.{ones, hid, top}
use Rattle.kinds.specs.Heard.{Refusal}
use Rattle.kinds.specs.Limits.{Width, doubles}
use Rattle.kinds.specs.Step.{Step}
use Rattle.kinds.specs.Step as steps

-- a refusal, if it is one, is of the table
abbrev pub StepRefusal : Step → Type 0
StepRefusal (steps.More s told) = Unit {0}
StepRefusal (steps.Done x r) = Unit {0}
StepRefusal (steps.Refused k p) = Refusal doubles.length k p

-- the numbers that a step reads are a state's: the rounds and the ensemble fit 32 bits, and each pattern is one of the format's and no NaN's
abbrev pub number : Format → ℕ → Bool
number f p = leb p (2 * top f - 1) && leb (p % top f) (ones f * hid f)

abbrev pub readable : Format → List ℕ → Bool
readable f ns =
    leb (get_or ns 6 0) (2 ^ 32 - 1) && leb (get_or ns 7 0) (2 ^ 32 - 1) && number f (get_or ns 1 0) && number f (get_or ns 2 0) && number f (get_or ns 3 0)
    && number f (get_or ns 8 0)

-- what these calls ask of a width: a place among its lists is one that a code has room for, and its rounds fit their field
pub record Callable (W : Width) : Type 0 where
  pub places : W.length ≤ doubles.length
  pub counted : W.rounds ≤ 2 ^ 32 - 1
