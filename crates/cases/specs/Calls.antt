-- A call of the library on given input, and what comes of it: what its caller hears, and its lent area afterwards. Definitions only.
-- The meanings are those that the public contracts cite.
use Rattle.std.specs.Prelude.{List, [], ◌∷◌, ◌++◌, map, ℕ, ◌-◌, ◌^◌, length, replicate}
use Rattle.std.specs.Float.{binary64}
use Rattle.std.specs.Float.Ieee.{of_bits, to_bits}
use Rattle.kinds.specs.Limits.{doubles}
use Rattle.kinds.specs.Outcome.{Outcome, outcome}
use Rattle.kinds.specs.Heard.{Heard, step_heard, nearest_heard, parted_heard, entry_heard, sheet_heard}
use Rattle.register.specs.Register.{added, withdrawn, rounded}
use Rattle.register.specs.Merge.{merged}
use Rattle.kinds.specs.States.{state_of}
use Rattle.kinds.specs.State.{State}
use Rattle.walk.specs.Walk.{Walked, opened, stepped, faithful_of}
use Rattle.sums.specs.Sums.{nearest_of, parts_of}
use Rattle.sheet.specs.Sheet.{read_of}
use Rattle.sheet.specs.Write.{written_of, written_heard}
use Rattle.rescue.specs.Rescue.{rescued_of, rescued_heard}
use Rattle.weights.specs.Weights.{handed_of, handed_heard}
use Rattle.pairs.specs.Limits.{double_pairs}
use Rattle.pairs.specs.Pairs.{multiplied_of, weighted_of, paired_heard}
use Rattle.grade.specs.Grade.{grade_of, graded_heard}

-- what an area holds before the call, at each place: 1.5, a number that is in no list and no answer of the table
abbrev pub beforehand : ℕ
beforehand = 0x3FF8000000000000

-- and an area of bytes
abbrev pub byte_beforehand : ℕ
byte_beforehand = 0xF8

-- the registers of -2^2111 and of 2^2111 - 1
abbrev pub least : List ℕ
least = replicate 32 0 ++ (2 ^ 63 ∷ [])

abbrev pub greatest : List ℕ
greatest = replicate 32 (2 ^ 64 - 1) ++ ((2 ^ 63 - 1) ∷ [])

-- a state by the patterns of its sigma, t and tau; n, the pending set, the rounds closed and the ensemble; the pattern of its largest remainder
pub record Given : Type 0 where
  pub sigma : ℕ
  pub t : ℕ
  pub tau : ℕ
  pub n : ℕ
  pub pending : ℕ
  pub rounds : ℕ
  pub ensemble : ℕ
  pub largest : ℕ

abbrev pub given_state : Given → State
given_state s =
    state_of s.n (of_bits binary64 s.sigma) (of_bits binary64 s.t) (of_bits binary64 s.tau) s.pending s.rounds s.ensemble
    (of_bits binary64 s.largest)

pub data Call : Type 0 where
  -- the faithful sum of a list by the undivided call; the same with an area of a length of its own
  faithful_sum : List ℕ → Call
  faithful_within : List ℕ → ℕ → Call
  -- the opening of a list's walk, under the number of an ensemble; a step of a state with its work area, which names an ensemble and a block
  opening : ℕ → List ℕ → Call
  step : Given → List ℕ → ℕ → ℕ → Call
  -- the nearest sum of a list; its sum in k parts
  nearest_sum : List ℕ → Call
  sum_in_parts : List ℕ → ℕ → Call
  -- a register's words, and the pattern of the number to add or to withdraw; rounding them
  add : List ℕ → ℕ → Call
  withdraw : List ℕ → ℕ → Call
  round : List ℕ → Call
  -- two registers merged to an area of a length
  merge : List ℕ → List ℕ → ℕ → Call
  -- reading a sheet's bytes to an area of a length; writing a list as a sheet to so many bytes
  sheet : List ℕ → ℕ → Call
  write : List ℕ → ℕ → Call
  -- rescuing a damaged sheet's bytes, to so many bytes for the sheet and so many for the marks
  rescue : List ℕ → ℕ → ℕ → Call
  -- handing on the weight of a weight list's clock at a place, to an area of a length
  hand_on : List ℕ → ℕ → ℕ → Call
  -- the grade of a claim, by its pattern, of a list's sum
  grading : List ℕ → ℕ → Call
  -- the products of two lists' pairs, to an area of a length; the nearest weighted sum of them
  products : List ℕ → List ℕ → ℕ → Call
  weighted_sum : List ℕ → List ℕ → Call

-- what its caller hears, beside the patterns or words of the lent area afterwards; of two areas the second stands behind the first
abbrev pub Result : Type 0
Result = Outcome Heard ℕ

abbrev pub walk_result : Walked → Result
walk_result w = outcome (step_heard doubles w.answer) (map (to_bits binary64) w.area)

unfoldable pub result_of : Call → Result
result_of (faithful_sum ps) = walk_result (faithful_of doubles ps (replicate (length ps) (of_bits binary64 beforehand)))
result_of (faithful_within ps m) = walk_result (faithful_of doubles ps (replicate m (of_bits binary64 beforehand)))
result_of (opening k ps) = walk_result (opened doubles k ps (replicate (length ps) (of_bits binary64 beforehand)))
result_of (step s ps k b) =
    walk_result (stepped doubles (given_state s) k b (map (of_bits binary64) ps))
result_of (nearest_sum ps) = outcome (nearest_heard doubles (nearest_of doubles ps)) []
result_of (sum_in_parts ps k) =
    let s = parts_of doubles ps (replicate k (of_bits binary64 beforehand)) in
    outcome (parted_heard s.answer) (map (to_bits binary64) s.area)
result_of (add ws p) = outcome (entry_heard (added ws p).answer) (added ws p).area
result_of (withdraw ws p) = outcome (entry_heard (withdrawn ws p).answer) (withdrawn ws p).area
result_of (round ws) = outcome (nearest_heard doubles (rounded ws)) []
result_of (merge us vs m) =
    let r = merged us vs (replicate m beforehand) in
    outcome (entry_heard r.answer) r.area
result_of (sheet bytes m) =
    let r = read_of doubles bytes (replicate m beforehand) in
    outcome (sheet_heard r.answer) r.area
result_of (write ps m) =
    let r = written_of doubles ps (replicate m byte_beforehand) in
    outcome (written_heard r.answer) r.area
result_of (rescue bytes m k) =
    let r = rescued_of doubles bytes (replicate m byte_beforehand) (replicate k byte_beforehand) in
    outcome (rescued_heard r.answer) (r.sheet ++ r.marks)
result_of (hand_on ps place m) =
    let r = handed_of doubles ps place (replicate m beforehand) in
    outcome (handed_heard r.answer) r.area
result_of (grading ps c) = outcome (graded_heard (grade_of doubles ps c)) []
result_of (products ps qs m) =
    let r = multiplied_of double_pairs ps qs (replicate m beforehand) in
    outcome (paired_heard r.answer) r.area
result_of (weighted_sum ps qs) = outcome (nearest_heard doubles (weighted_of double_pairs ps qs)) []

-- one row of the table
pub record Case : Type 0 where
  pub call : Call
  pub expected : Result
