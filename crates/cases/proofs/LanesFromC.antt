-- The calls on lanes from C on a few numbers, computed: the codes, the values and the arrays. What lanes hold is in cases/Lanes. Assumes nothing.
use Rattle.std.specs.Prelude.{◌≡◌, refl, List, [], ◌∷◌, ◌++◌, ℤ, pos, negsuc, replicate}
use Rattle.std.specs.Float.Ieee.{of_bits}
use Rattle.lists.specs.Digits.{digits, signed, residue}
use Rattle.lists.specs.Every.{every}
use Rattle.ieee.specs.Units.{value, magnitude}
use Rattle.judge.specs.Judge.{fault_of}
use Rattle.lanes.specs.Lanes.{lane_sum, digits_of, plus_lanes, roomy, lay, settled, no_lanes}
use Rattle.arrays.specs.Arrays.{returned}
use Rattle.cases.specs.Lanes.{one, nan, full, middle, top}
use Rattle.lane_calls.specs.LaneArrays.{laid_returned, add_lanes, withdraw_lanes, settle_returned, settle_lanes}

-- ---- 1 is 2^1074 units, so 2^18 in lane 33
pub adds : add_lanes no_lanes 0 one (7 ∷ []) ≡ returned 0 (middle (pos 0x40000)) (1 ∷ [])
unfolding laid_returned lay roomy every digits_of plus_lanes digits value fault_of of_bits
adds = refl

-- the last call that lanes take: below zero the digit is too
pub withdraws : withdraw_lanes no_lanes 0x3FFFFFFF one (7 ∷ []) ≡ returned 0 (middle (negsuc 0x3FFFF)) (full ∷ [])
unfolding laid_returned lay roomy every digits_of plus_lanes digits value fault_of of_bits
withdraws = refl

-- ---- settling: of -1 unit every lane but the top one is 2^32 - 1, and every word 2^64 - 1
pub settles_below : settle_lanes (top (negsuc 0) (pos 0)) 1 (replicate 33 7) (7 ∷ [])
    ≡ settle_returned 0 (replicate 65 (pos 0xFFFFFFFF) ++ negsuc 0 ∷ []) (replicate 33 0xFFFFFFFFFFFFFFFF) (0 ∷ [])
unfolding settle_lanes settled roomy every lane_sum digits signed residue
settles_below = refl

-- one unit below the least
abbrev below_least : List ℤ
below_least = top (negsuc 0) (negsuc 0x7FFFFFFF)

pub out_of_range : settle_lanes below_least full (replicate 33 7) (7 ∷ []) ≡ settle_returned 9 below_least (replicate 33 7) (7 ∷ [])
unfolding settle_lanes settled roomy every lane_sum
out_of_range = refl

-- ---- refusals, each before a later one: 4 for the values before a count of 2^30 + 1
pub four_for_values : add_lanes no_lanes 0x40000001 nan (7 ∷ 7 ∷ []) ≡ returned 4 no_lanes (7 ∷ 7 ∷ [])
unfolding laid_returned
four_for_values = refl

-- 25 for that count before the NaN
pub room_before_number : add_lanes no_lanes 0x40000001 nan (7 ∷ []) ≡ returned 25 no_lanes (7 ∷ [])
unfolding laid_returned lay roomy
room_before_number = refl

-- 2 at place 0 before 24, and 24 itself
pub number_before_count : add_lanes no_lanes full nan (7 ∷ []) ≡ returned 34 no_lanes (7 ∷ [])
unfolding laid_returned lay roomy every fault_of of_bits
number_before_count = refl

pub one_too_many : add_lanes no_lanes full one (7 ∷ []) ≡ returned 24 no_lanes (7 ∷ [])
unfolding laid_returned lay roomy every fault_of magnitude of_bits
one_too_many = refl

-- settling: 4 for the words before 25
pub four_for_words : settle_lanes no_lanes 0x40000001 (replicate 32 7) (7 ∷ []) ≡ settle_returned 4 no_lanes (replicate 32 7) (7 ∷ [])
unfolding settle_lanes settled
four_for_words = refl
