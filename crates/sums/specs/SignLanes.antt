-- Lanes by sign: 64 lanes of 32 bits for the positive numbers and 64 behind them for the negative ones, each with a digit's sum and with the sum of what lies
-- above the digit. Definitions only.
use Rattle.std.specs.Prelude.{◌≡◌, List, ℕ, ◌+◌, ◌*◌, ◌/◌, ◌%◌, ◌^◌, ◌≤◌, ◌<◌, length, take, drop, get_or, replicate}
use Rattle.std.specs.Float.Ieee.{of_bits}
use Rattle.units.specs.Whole.{Whole}
use Rattle.ieee.specs.Units.{magnitude}
use Rattle.lists.specs.Digits.{number}
use Rattle.kinds.specs.Limits.{doubles}
use Rattle.addend.specs.Sides.{sides_of}
use Rattle.sums.specs.ListSides.{list_sides}

abbrev pub lane_bits : ℕ
lane_bits = 32

abbrev pub side_lanes : ℕ
side_lanes = 64

-- what lanes of one side stand for, and both sides
abbrev pub side_of : List ℕ → List ℕ → ℕ
side_of low above = number lane_bits low + number lane_bits above * 2 ^ lane_bits

abbrev pub lane_sides : List ℕ → List ℕ → Whole
lane_sides low above = record {
  up = side_of (take side_lanes low) (take side_lanes above);
  dn = side_of (drop side_lanes low) (drop side_lanes above);
}

-- what n numbers may leave in a lane: a digit is below 2 ^ 32, and what lies above it at most 2 ^ 52
pub record Room (n : ℕ) (low above : List ℕ) : Type 0 where
  pub digits : (j : ℕ) → get_or low j 0 ≤ n * 2 ^ lane_bits
  pub rests : (j : ℕ) → get_or above j 0 ≤ n * 2 ^ 52

-- both areas have their lengths
pub record Lanes (low above : List ℕ) : Type 0 where
  pub first : length low ≡ side_lanes + side_lanes
  pub second : length above ≡ side_lanes + side_lanes

-- nothing is in them
pub record Empty (low above : List ℕ) : Type 0 where
  pub first : low ≡ replicate (side_lanes + side_lanes) 0
  pub second : above ≡ replicate (side_lanes + side_lanes) 0

-- the pattern p goes to the lane k, with the digit d and with h above it
pub record AtLane (p k d h : ℕ) : Type 0 where
  pub within : k < side_lanes + side_lanes
  pub side : k / side_lanes ≡ p / 2 ^ 63
  pub low : d < 2 ^ lane_bits
  pub above : h ≤ 2 ^ 52
  pub units : (d + h * 2 ^ lane_bits) * 2 ^ (lane_bits * (k % side_lanes)) ≡ magnitude doubles.format (of_bits doubles.format p)

-- p was added to lanes: to the side of its sign, and to no lane more than a number may add
pub record Put (p : ℕ) (low above low' above' : List ℕ) : Type 0 where
  pub plus : (lane_sides low' above').up ≡ (lane_sides low above).up + (sides_of doubles p).up
  pub minus : (lane_sides low' above').dn ≡ (lane_sides low above).dn + (sides_of doubles p).dn
  pub digits : (j : ℕ) → get_or low' j 0 ≤ get_or low j 0 + 2 ^ lane_bits
  pub rests : (j : ℕ) → get_or above' j 0 ≤ get_or above j 0 + 2 ^ 52

-- a list in lanes
pub record Gathered (ps : List ℕ) (low above : List ℕ) : Type 0 where
  pub plus : (lane_sides low above).up ≡ (list_sides doubles ps).up
  pub minus : (lane_sides low above).dn ≡ (list_sides doubles ps).dn
  pub room : Room 4094 low above

-- the most that lanes carry on
abbrev pub most_carry : ℕ
most_carry = 4095 * 2 ^ 52

-- the lanes k and k + 1 and what is carried into them are the word w, and the carry into the next two
pub record Paired (low above : List ℕ) (k carry w next : ℕ) : Type 0 where
  pub total : w + next * 2 ^ 64 ≡ carry + (get_or low k 0 + get_or above k 0 * 2 ^ 32) + (get_or low (k + 1) 0 + get_or above (k + 1) 0 * 2 ^ 32) * 2 ^ 32
  pub small : next ≤ most_carry
