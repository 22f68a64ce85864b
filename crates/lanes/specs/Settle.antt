-- Settling lane by lane, from the lowest: the digit that stays in a lane and the carry that it hands on. Definitions only.
use Rattle.std.specs.Prelude.{List, [], ◌∷◌, ℕ, ◌+◌, ◌*◌, ◌^◌, ℤ, pos, ◌+ℤ◌, take, get_or}
use Rattle.std.specs.Int.Signed.{shr_z}
use Rattle.lists.specs.Digits.{residue}
use Rattle.lanes.specs.Lanes.{lane_bits, low_lanes}

-- of a lane and what is carried into it, rule N5: the digit is what is left of the sum, and the carry is the sum by 2 ^ 32, rounded down
abbrev pub lane_digit : ℤ → ℕ
lane_digit t = residue lane_bits t

abbrev pub handed_on : ℤ → ℤ
handed_on t = shr_z t (2 ^ lane_bits)

-- the digits of lanes into the lowest of which c is carried, and the carry out of the highest
unfoldable pub lane_digits : ℤ → List ℤ → List ℕ
lane_digits c [] = []
lane_digits c (z ∷ zs) = lane_digit (z +ℤ c) ∷ lane_digits (handed_on (z +ℤ c)) zs

unfoldable pub lane_carry : ℤ → List ℤ → ℤ
lane_carry c [] = c
lane_carry c (z ∷ zs) = lane_carry (handed_on (z +ℤ c)) zs

-- the carry into the lane i, and the top lane with what is carried into it
abbrev pub carry_into : List ℤ → ℕ → ℤ
carry_into zs i = lane_carry (pos 0) (take i zs)

abbrev pub top_lane : List ℤ → ℤ
top_lane zs = get_or zs low_lanes (pos 0) +ℤ carry_into zs low_lanes

-- digits of 64 bits from digits of 32, two by two
unfoldable pub pairs : List ℕ → List ℕ
pairs [] = []
pairs (d ∷ []) = d ∷ []
pairs (d ∷ e ∷ ds) = (d + e * 2 ^ lane_bits) ∷ pairs ds
