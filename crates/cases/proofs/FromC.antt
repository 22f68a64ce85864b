-- The C calls on a few numbers, computed: what they return, and what they leave in each array. What is written and what is read again could be wrong alike;
-- here a slip in the order of the ten numbers, of values or of a sheet's bytes shows. The walk is of 2^100, 2^51 and -2^100: it opens, closes a round that
-- leaves 2^51 in t, and finishes. Assumes nothing.
use Rattle.std.specs.Prelude.{◌≡◌, refl, ℕ, Float, replicate}
use mathlib.Core.List.{List, [], ◌∷◌, ◌++◌, zip, zip_with}
use Rattle.std.specs.Float.{binary64}
use Rattle.std.specs.Float.Ieee.{of_bits, to_bits, add, sub, mul, le, eq}
use Rattle.units.specs.Rounding.{ceil}
use Rattle.lists.specs.Digits.{number, digits, signed, residue}
use Rattle.ieee.specs.Units.{value, magnitude, negative, nearest_float}
use Rattle.kinds.specs.Outcome.{outcome}
use Rattle.lists.specs.Every.{every}
use Rattle.lists.specs.Filter.{filter}
use Rattle.judge.specs.Judge.{fault_of, first_bad, first_fault, judged, zero_sign}
use Rattle.register.specs.Register.{enter, rounded}
use Rattle.register.specs.Merge as G
use Rattle.octets.specs.Octets.{eights, joined}
use Rattle.extract.specs.Extract.{remainders, gathered, last_sum, largest, largest_with}
use Rattle.exponent.specs.Power.{power_of}
use Rattle.sound.specs.Sound as N
use Rattle.rounds.specs.Round as R
use Rattle.walk.specs.Walk as W
use Rattle.sums.specs.Sums as S
use Rattle.sheet.specs.Sheet.{sheet_of, read_of}
use Rattle.sheet.specs.Write.{written_of}
use Rattle.rescue.specs.Rescue.{rescued_of}
use Rattle.weights.specs.Weights as H
use Rattle.pairs.specs.Pairs as X
use Rattle.arrays.specs.Arrays.{returned}
use Rattle.step_calls.specs.StepArrays.{open_with, step_with, open_arrays, step_arrays}
use Rattle.sum_calls.specs.SumArrays.{faithful_with, nearest_with, faithful_arrays, nearest_arrays}
use Rattle.part_calls.specs.PartArrays.{parts_arrays}
use Rattle.register_calls.specs.RegisterArrays.{add_arrays, withdraw_arrays, merge_arrays, round_arrays}
use Rattle.sheet_calls.specs.SheetArrays.{read_arrays, write_arrays}
use Rattle.sheet_calls.specs.RescueArrays.{rescue_returned, rescue_arrays}
use Rattle.weight_calls.specs.WeightArrays.{hand_on_arrays}
use Rattle.pair_calls.specs.PairArrays.{products_arrays, weighted_arrays}
use Rattle.grade.specs.Grade as Q
use Rattle.grade_calls.specs.GradeArrays.{grade_arrays}

abbrev numbers : List ℕ
numbers = 0x4630000000000000 ∷ 0x4320000000000000 ∷ 0xC630000000000000 ∷ []

abbrev zeros : List Float
zeros = replicate 3 (of_bits binary64 0)

abbrev copied : List Float
copied = of_bits binary64 0x4630000000000000 ∷ of_bits binary64 0x4320000000000000 ∷ of_bits binary64 0xC630000000000000 ∷ []

-- ---- the walk by blocks
abbrev begun : List ℕ
begun = 1 ∷ 0x4660000000000000 ∷ 0 ∷ 0 ∷ 3 ∷ 1 ∷ 0 ∷ 7 ∷ 0 ∷ 0 ∷ []

abbrev further : List ℕ
further = 1 ∷ 0x4340000000000000 ∷ 0x4320000000000000 ∷ 0 ∷ 3 ∷ 1 ∷ 1 ∷ 7 ∷ 0 ∷ 0 ∷ []

pub opens : open_arrays 7 numbers zeros (replicate 10 7) ≡ returned 0 copied begun
unfolding open_with judged first_fault fault_of W.opened_after R.fresh largest power_of ceil magnitude nearest_float of_bits to_bits le eq
opens = refl

pub goes_on : step_arrays begun copied 7 0 ≡ returned 0 zeros further
unfolding step_with W.stepped_after W.taken R.turned R.fresh R.scaled R.finished R.closed_by
    N.sound_sigma N.at_most N.sound_largest N.sound_numbers N.sound_pending N.bad_place N.sound N.gated remainders gathered last_sum largest largest_with
    power_of ceil
    magnitude negative nearest_float of_bits to_bits add sub mul le eq
goes_on = refl

pub finishes : step_arrays further zeros 7 0 ≡ returned 0 zeros (2 ∷ 0x4320000000000000 ∷ 2 ∷ replicate 7 0)
unfolding step_with W.stepped_after W.taken R.turned R.fresh R.scaled R.finished R.closed_by
    N.sound_sigma N.at_most N.sound_largest N.sound_numbers N.sound_pending N.bad_place N.sound N.gated remainders gathered last_sum largest largest_with
    power_of ceil
    magnitude negative nearest_float of_bits to_bits add sub mul le eq
finishes = refl

-- ---- the sums in one call: 2^51, in 2 rounds
pub undivided : faithful_arrays numbers zeros (7 ∷ 7 ∷ []) ≡ returned 0 zeros (0x4320000000000000 ∷ 2 ∷ [])
unfolding faithful_with judged first_fault fault_of W.opened_after W.stepped_after W.taken W.rising W.rounds_from R.turned R.fresh R.scaled R.finished
    R.closed_by
    N.sound_sigma N.at_most N.sound_largest N.sound_numbers N.sound_pending N.bad_place N.sound N.gated remainders gathered last_sum largest largest_with
    power_of ceil
    magnitude negative nearest_float of_bits to_bits add sub mul le eq
undivided = refl

pub nearest : nearest_arrays numbers (7 ∷ []) ≡ outcome 0 (0x4320000000000000 ∷ [])
unfolding nearest_with judged first_fault fault_of S.nearest_after nearest_float value of_bits to_bits
nearest = refl

-- 2^54 + 1 in one part: the part is 2^54, and doesn't add up
pub in_parts : parts_arrays (0x4350000000000000 ∷ 0x3FF0000000000000 ∷ []) (of_bits binary64 0 ∷ []) (7 ∷ [])
    ≡ returned 0 (of_bits binary64 0x4350000000000000 ∷ []) (0 ∷ [])
unfolding parts_arrays judged first_fault fault_of S.parts_after S.parts nearest_float value of_bits to_bits
in_parts = refl

-- ---- a register: 1 is 2^1074 units, so 2^50 in word 16
abbrev only_one : List ℕ
only_one = replicate 16 0 ++ 0x4000000000000 ∷ replicate 16 0

pub added : add_arrays (replicate 33 0) 0x3FF0000000000000 ≡ outcome 0 only_one
unfolding enter number digits signed residue value fault_of of_bits
added = refl

pub withdrawn : withdraw_arrays only_one 0x3FF0000000000000 ≡ outcome 0 (replicate 33 0)
unfolding enter number digits signed residue value fault_of of_bits
withdrawn = refl

-- 1 in one room, and a unit in the other
pub merged : merge_arrays only_one (1 ∷ replicate 32 0) (replicate 33 7) ≡ outcome 0 (1 ∷ replicate 15 0 ++ 0x4000000000000 ∷ replicate 16 0)
unfolding G.merged number digits signed residue
merged = refl

pub rounds : round_arrays only_one (7 ∷ []) ≡ outcome 0 (0x3FF0000000000000 ∷ [])
unfolding round_arrays rounded number signed nearest_float value of_bits to_bits
rounds = refl

-- ---- a sheet of two numbers, into an area of three
pub reads : read_arrays (1 ∷ 0 ∷ 0 ∷ 0 ∷ 2 ∷ 0x3F ∷ 0xF0 ∷ replicate 6 0 ++ 0x40 ∷ replicate 7 0) (7 ∷ 7 ∷ 7 ∷ []) (7 ∷ [])
    ≡ returned 0 (0x3FF0000000000000 ∷ 0x4000000000000000 ∷ 7 ∷ []) (2 ∷ [])
unfolding read_arrays read_of eights number
reads = refl

-- and 1 and a NaN with a payload, to one byte more than they need
pub writes : write_arrays (0x3FF0000000000000 ∷ 0x7FF0000000000203 ∷ []) (replicate 22 7) (7 ∷ [])
    ≡ returned 0 (1 ∷ 0 ∷ 0 ∷ 0 ∷ 2 ∷ 0x3F ∷ 0xF0 ∷ replicate 6 0 ++ 0x7F ∷ 0xF0 ∷ replicate 4 0 ++ 2 ∷ 3 ∷ 7 ∷ []) (21 ∷ [])
unfolding write_arrays written_of sheet_of joined digits
writes = refl

-- and of a NaN, 1 and a byte, where three are counted, 1 is saved
pub saves : rescue_arrays (1 ∷ 0 ∷ 0 ∷ 0 ∷ 3 ∷ 0x7F ∷ 0xF8 ∷ replicate 6 0 ++ 0x3F ∷ 0xF0 ∷ replicate 7 0) (replicate 14 7) (replicate 3 7) (replicate 4 7)
    ≡ rescue_returned 0 (1 ∷ 0 ∷ 0 ∷ 0 ∷ 1 ∷ 0x3F ∷ 0xF0 ∷ replicate 6 0 ++ 7 ∷ []) (1 ∷ 0 ∷ 7 ∷ []) (13 ∷ 2 ∷ 1 ∷ 1 ∷ [])
unfolding rescue_arrays rescued_of eights number fault_of magnitude of_bits filter sheet_of joined digits
saves = refl

-- ---- weights: 1/2, 1/4 and 1/4, without the first
pub hands_on : hand_on_arrays (0x3FE0000000000000 ∷ 0x3FD0000000000000 ∷ 0x3FD0000000000000 ∷ []) 0 (7 ∷ 7 ∷ 7 ∷ [])
    ≡ outcome 0 (0 ∷ 0x3FE0000000000000 ∷ 0x3FE0000000000000 ∷ [])
unfolding judged first_fault fault_of H.weight_good H.weight_of H.pattern_for H.total H.spread H.bad_weight H.weighed H.handed_after
    magnitude negative nearest_float of_bits to_bits
hands_on = refl

-- ---- pairs: (1 + 2^-52) times itself with the error, and 1 and 2^-53 in one sum; at another length of its array 22 before 4
pub multiplies : products_arrays (0x3FF0000000000001 ∷ []) (0x3FF0000000000001 ∷ []) (7 ∷ 7 ∷ []) ≡ outcome 0 (0x3FF0000000000002 ∷ 0x3970000000000000 ∷ [])
unfolding zip zip_with first_bad X.pair_fault X.pairs_judged X.nearest_product X.products_of X.multiplied_after magnitude value of_bits to_bits
multiplies = refl

pub weighs : weighted_arrays (0x3FF0000000000000 ∷ 0x3E40000000000000 ∷ []) (0x3FF0000000000000 ∷ 0x3E50000000000000 ∷ []) (7 ∷ [])
    ≡ outcome 0 (0x3FF0000000000000 ∷ [])
unfolding weighted_arrays zip zip_with first_bad X.pair_fault X.pairs_judged X.nearest_product X.weighted_after magnitude value of_bits to_bits
weighs = refl

pub outside_at_1 : weighted_arrays (0 ∷ 0 ∷ []) (0 ∷ 1 ∷ []) (7 ∷ []) ≡ outcome 87 (7 ∷ [])
unfolding weighted_arrays zip zip_with first_bad X.pair_fault X.pairs_judged X.weighted_after magnitude of_bits
outside_at_1 = refl

pub twenty_two_before_four : weighted_arrays (0 ∷ []) [] [] ≡ outcome 22 []
unfolding weighted_arrays
twenty_two_before_four = refl

-- ---- grades: the odd neighbour of a tie is faithful; a NaN is no claim; another length of the array before that
pub grades : grade_arrays (0x3FF0000000000000 ∷ 0x3CA0000000000000 ∷ []) 0x3FF0000000000001 (7 ∷ []) ≡ outcome 0 (2 ∷ [])
unfolding grade_arrays judged first_fault fault_of Q.other_side Q.grade_at Q.graded_after magnitude nearest_float value of_bits to_bits
grades = refl

pub no_claim : grade_arrays [] 0x7FF8000000000000 (7 ∷ []) ≡ outcome 20 (7 ∷ [])
unfolding grade_arrays judged first_fault Q.graded_after of_bits
no_claim = refl

pub four_before_twenty : grade_arrays [] 0x7FF8000000000000 [] ≡ outcome 4 []
unfolding grade_arrays
four_before_twenty = refl

-- ---- two blocks, 65 ones: block 0 leaves its 64 in tau, and a step takes tau from there. It looks at the second number to the ninth alone: the others are 7
abbrev one : Float
one = of_bits binary64 0x3FF0000000000000

abbrev half_done : List Float
half_done = replicate 64 (of_bits binary64 0) ++ one ∷ []

pub half_way : step_arrays (7 ∷ 0x4060000000000000 ∷ 0 ∷ 0 ∷ 65 ∷ 3 ∷ 0 ∷ 7 ∷ 0 ∷ 7 ∷ []) (replicate 65 one) 7 0
    ≡ returned 0 half_done (1 ∷ 0x4060000000000000 ∷ 0 ∷ 0x4050000000000000 ∷ 65 ∷ 2 ∷ 0 ∷ 7 ∷ 0 ∷ 0 ∷ [])
unfolding step_with W.stepped_after W.taken R.turned R.fresh R.scaled R.finished R.closed_by
    N.sound_sigma N.at_most N.sound_largest N.sound_numbers N.sound_pending N.bad_place N.sound N.gated remainders gathered last_sum largest largest_with
    power_of ceil
    magnitude negative nearest_float of_bits to_bits add sub mul le eq
half_way = refl

pub second_half : step_arrays (7 ∷ 0x4060000000000000 ∷ 0 ∷ 0x4050000000000000 ∷ 65 ∷ 2 ∷ 0 ∷ 7 ∷ 0 ∷ 7 ∷ []) half_done 7 1
    ≡ returned 0 (replicate 65 (of_bits binary64 0)) (2 ∷ 0x4050400000000000 ∷ 1 ∷ replicate 7 0)
unfolding step_with W.stepped_after W.taken R.turned R.fresh R.scaled R.finished R.closed_by
    N.sound_sigma N.at_most N.sound_largest N.sound_numbers N.sound_pending N.bad_place N.sound N.gated remainders gathered last_sum largest largest_with
    power_of ceil
    magnitude negative nearest_float of_bits to_bits add sub mul le eq
second_half = refl

-- rules WS14 and C11: a round that closes over 2^-60 and restarts tells it in the tenth number and keeps +0 in the ninth, where a step reads what is kept
abbrev keeping : ℕ → List ℕ
keeping largest = 7 ∷ 0x4070000000000000 ∷ 0 ∷ 0 ∷ 1 ∷ 1 ∷ 0 ∷ 7 ∷ largest ∷ 7 ∷ []

pub restarts : step_arrays (keeping 0x3C30000000000000) (of_bits binary64 0 ∷ []) 7 0
    ≡ returned 0 (of_bits binary64 0 ∷ []) (1 ∷ 0x3C50000000000000 ∷ 0 ∷ 0 ∷ 1 ∷ 1 ∷ 1 ∷ 7 ∷ 0 ∷ 0x3C30000000000000 ∷ [])
unfolding step_with W.stepped_after W.taken R.turned R.fresh R.scaled R.finished R.closed_by
    N.sound_sigma N.at_most N.sound_largest N.sound_numbers N.sound_pending N.bad_place N.sound N.gated remainders gathered last_sum largest largest_with
    power_of ceil
    magnitude negative nearest_float of_bits to_bits add sub mul le eq
restarts = refl

-- and a NaN there is no state's
pub kept_nan : step_arrays (keeping 0x7FF8000000000000) (of_bits binary64 0 ∷ []) 7 0 ≡ returned 8 (of_bits binary64 0 ∷ []) (keeping 0x7FF8000000000000)
unfolding step_with W.stepped_after N.sound_sigma N.at_most N.sound_largest N.sound_numbers N.gated ceil magnitude negative of_bits to_bits le eq
kept_nan = refl

-- rule C11: 2^32 rounds are no state's
abbrev many_rounds : List ℕ
many_rounds = 1 ∷ 0x4660000000000000 ∷ 0 ∷ 0 ∷ 3 ∷ 1 ∷ 0x100000000 ∷ 7 ∷ 0 ∷ 0 ∷ []

pub rounds_of_33_bits : step_arrays many_rounds copied 7 0 ≡ returned 8 copied many_rounds
unfolding step_with W.stepped_after W.taken R.turned R.fresh R.scaled R.finished R.closed_by
    N.sound_sigma N.at_most N.sound_largest N.sound_numbers N.sound_pending N.bad_place N.sound N.gated remainders gathered last_sum largest largest_with
    power_of ceil
    magnitude negative nearest_float of_bits to_bits add sub mul le eq
rounds_of_33_bits = refl

-- rule R21: an eighth number of 33 bits is another ensemble, whatever its lower 32 are, and is told before rounds of 33 bits, which are 8
abbrev elsewhere : List ℕ
elsewhere = 1 ∷ 0x4660000000000000 ∷ 0 ∷ 0 ∷ 3 ∷ 1 ∷ 0x100000000 ∷ 0x100000007 ∷ 0 ∷ 0 ∷ []

pub ensemble_of_33_bits : step_arrays elsewhere copied 7 0 ≡ returned 21 copied elsewhere
unfolding step_with W.stepped_after N.gated
ensemble_of_33_bits = refl

-- rule R19: under sigma = 2^102 the 2^100 at place 0 is above 2^-M sigma, and place 0 is 19 + 32
abbrev lowered : List ℕ
lowered = 1 ∷ 0x4650000000000000 ∷ 0 ∷ 0 ∷ 3 ∷ 1 ∷ 0 ∷ 7 ∷ 0 ∷ 0 ∷ []

pub work_at_place_0 : step_arrays lowered copied 7 0 ≡ returned 51 copied lowered
unfolding step_with W.stepped_after N.sound_sigma N.at_most N.sound_largest N.sound_numbers N.sound_pending N.bad_place N.gated ceil
    magnitude negative of_bits to_bits le eq
work_at_place_0 = refl

-- 2^54 + 1 in two parts adds up
pub in_two_parts : parts_arrays (0x4350000000000000 ∷ 0x3FF0000000000000 ∷ []) (replicate 2 (of_bits binary64 0)) (7 ∷ [])
    ≡ returned 0 (of_bits binary64 0x4350000000000000 ∷ one ∷ []) (1 ∷ [])
unfolding parts_arrays judged first_fault fault_of S.parts_after S.parts nearest_float value of_bits to_bits
in_two_parts = refl

-- a sum below zero keeps its sign; a NaN at place 1 is 2 + 64
pub below_zero : nearest_arrays (0xBFF0000000000000 ∷ []) (7 ∷ []) ≡ outcome 0 (0xBFF0000000000000 ∷ [])
unfolding nearest_with judged first_fault fault_of S.nearest_after nearest_float value of_bits to_bits
below_zero = refl

pub bad_on_arrays : nearest_arrays (0x3FF0000000000000 ∷ 0x7FF8000000000000 ∷ []) (7 ∷ []) ≡ outcome 66 (7 ∷ [])
unfolding nearest_with judged first_fault fault_of magnitude S.nearest_after of_bits
bad_on_arrays = refl

-- ---- rule S3: -0 alone, by blocks, undivided, nearest and in two parts
pub opens_minus : open_arrays 7 (0x8000000000000000 ∷ []) (one ∷ []) (replicate 10 7)
    ≡ returned 0 (of_bits binary64 0x8000000000000000 ∷ []) (2 ∷ 0x8000000000000000 ∷ 0 ∷ replicate 7 0)
unfolding open_with judged first_fault fault_of zero_sign every W.opened_after R.fresh largest magnitude nearest_float of_bits to_bits
opens_minus = refl

pub undivided_minus : faithful_arrays (0x8000000000000000 ∷ []) (one ∷ []) (7 ∷ 7 ∷ [])
    ≡ returned 0 (of_bits binary64 0x8000000000000000 ∷ []) (0x8000000000000000 ∷ 0 ∷ [])
unfolding faithful_with judged first_fault fault_of zero_sign every W.opened_after W.rising W.rounds_from R.fresh largest magnitude nearest_float of_bits
    to_bits
undivided_minus = refl

pub nearest_minus : nearest_arrays (0x8000000000000000 ∷ []) (7 ∷ []) ≡ outcome 0 (0x8000000000000000 ∷ [])
unfolding nearest_with judged first_fault fault_of zero_sign every S.nearest_after nearest_float value of_bits to_bits
nearest_minus = refl

pub in_parts_minus : parts_arrays (0x8000000000000000 ∷ []) (one ∷ one ∷ []) (7 ∷ [])
    ≡ returned 0 (of_bits binary64 0x8000000000000000 ∷ of_bits binary64 0 ∷ []) (1 ∷ [])
unfolding parts_arrays judged first_fault fault_of zero_sign every S.parts_after S.parts nearest_float value of_bits to_bits
in_parts_minus = refl
