-- Rule C10 computed: an array of values of another length, where each call looks at it. Assumes nothing.
use Rattle.std.specs.Prelude.{◌≡◌, refl, replicate}
use mathlib.Core.List.{[], ◌∷◌}
use Rattle.lists.specs.Digits.{number}
use Rattle.kinds.specs.Outcome.{outcome}
use Rattle.register.specs.Merge as G
use Rattle.octets.specs.Octets.{eights}
use Rattle.sound.specs.Sound as N
use Rattle.rounds.specs.Round as R
use Rattle.walk.specs.Walk as W
use Rattle.sums.specs.Sums as S
use Rattle.sheet.specs.Sheet.{read_of}
use Rattle.weights.specs.Weights as H
use Rattle.pairs.specs.Pairs as X
use Rattle.arrays.specs.Arrays.{returned}
use Rattle.step_calls.specs.StepArrays.{step_with, step_arrays}
use Rattle.sum_calls.specs.SumArrays.{nearest_with, nearest_arrays}
use Rattle.part_calls.specs.PartArrays.{parts_arrays}
use Rattle.sheet_calls.specs.SheetArrays.{read_arrays, write_arrays}
use Rattle.sheet_calls.specs.RescueArrays.{rescue_returned, rescue_arrays}
use Rattle.grade.specs.Grade as Q

-- ---- rule C10, another length of the array of values: 1 before it, 5 behind it, on a sheet all else before it
pub too_many_first : nearest_arrays (replicate 4095 0) [] ≡ outcome 1 []
unfolding nearest_with
too_many_first = refl

pub four_before_five : parts_arrays [] [] [] ≡ returned 4 [] []
unfolding parts_arrays
four_before_five = refl

pub four_for_ten : step_arrays [] [] 7 0 ≡ returned 4 [] []
unfolding step_with
four_for_ten = refl

pub sheet_first : read_arrays [] [] [] ≡ returned 11 [] []
unfolding read_arrays read_of eights number
sheet_first = refl

pub four_last : read_arrays (1 ∷ 0 ∷ 0 ∷ 0 ∷ 0 ∷ []) [] [] ≡ returned 4 [] []
unfolding read_arrays read_of eights number
four_last = refl

pub four_without_values : write_arrays [] (replicate 5 7) [] ≡ returned 4 (replicate 5 7) []
unfolding write_arrays
four_without_values = refl

pub too_many_to_write : write_arrays (replicate 4095 0) [] [] ≡ returned 1 [] []
unfolding write_arrays
too_many_to_write = refl

pub four_for_report : rescue_arrays (1 ∷ replicate 4 0) (replicate 5 7) [] (replicate 3 7) ≡ rescue_returned 4 (replicate 5 7) [] (replicate 3 7)
unfolding rescue_arrays number
four_for_report = refl
