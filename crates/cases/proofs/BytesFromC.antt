-- The C calls on bytes on a few numbers, computed: what they return, and what they leave in each area; a slip in the order of bytes shows. Assumes nothing.
use Rattle.std.specs.Prelude.{◌≡◌, refl, List, [], ◌∷◌, ◌++◌, ℕ, replicate}
use Rattle.std.specs.Float.Ieee.{of_bits, to_bits, add, sub, mul, le, eq}
use Rattle.units.specs.Rounding.{ceil}
use Rattle.lists.specs.Digits.{number, digits, signed, residue}
use Rattle.lists.specs.Every.{every}
use Rattle.ieee.specs.Units.{value, magnitude, negative, nearest_float}
use Rattle.kinds.specs.Outcome.{outcome}
use Rattle.judge.specs.Judge.{fault_of, first_fault, judged, zero_sign}
use Rattle.register.specs.Register.{enter}
use Rattle.octets.specs.Octets.{eights, joined}
use Rattle.extract.specs.Extract.{remainders, gathered, last_sum, largest, largest_with}
use Rattle.exponent.specs.Power.{power_of}
use Rattle.sound.specs.Sound as N
use Rattle.rounds.specs.Round as R
use Rattle.walk.specs.Walk as W
use Rattle.sums.specs.Sums as S
use Rattle.calls.specs.Calls.{answered, sum_call, faithful_call, nearest_call, register_call, add_call, withdraw_call}

-- ---- sums: -1 is summed in 1 round, and its nearest sum tells none
abbrev minus_one : List ℕ
minus_one = replicate 6 0 ++ 0xF0 ∷ 0xBF ∷ []

pub sum_in_bytes : faithful_call minus_one (replicate 16 7) ≡ outcome 0 (minus_one ++ 1 ∷ replicate 7 0)
unfolding sum_call answered eights joined number digits judged first_fault fault_of W.opened_after W.stepped_after W.taken W.rising W.rounds_from
    R.turned R.fresh R.scaled R.finished R.closed_by
    N.sound_sigma N.at_most N.sound_largest N.sound_numbers N.sound_pending N.bad_place N.sound N.gated remainders gathered last_sum largest largest_with
    power_of ceil
    magnitude negative nearest_float of_bits to_bits add sub mul le eq
sum_in_bytes = refl

pub nearest_in_bytes : nearest_call minus_one (replicate 16 7) ≡ outcome 0 (minus_one ++ replicate 8 0)
unfolding sum_call answered eights joined number digits judged first_fault fault_of S.nearest_after nearest_float value of_bits to_bits
nearest_in_bytes = refl

-- a NaN at place 0 is 2 + 32
pub bad_in_bytes : nearest_call (replicate 6 0 ++ 0xF8 ∷ 0x7F ∷ []) (replicate 16 7) ≡ outcome 34 (replicate 16 7)
unfolding sum_call answered eights number judged first_fault fault_of S.nearest_after of_bits
bad_in_bytes = refl

-- of two numbers the second is at fault, so the first stands first
pub second_in_bytes : nearest_call (replicate 6 0 ++ 0xF0 ∷ 0x3F ∷ replicate 6 0 ++ 0xF8 ∷ 0x7F ∷ []) (replicate 16 7) ≡ outcome 66 (replicate 16 7)
unfolding sum_call answered eights number judged first_fault fault_of magnitude S.nearest_after of_bits
second_in_bytes = refl

-- -0 twice, and its sum: 0x80 in byte 7
pub minus_in_bytes : faithful_call (replicate 7 0 ++ 0x80 ∷ replicate 7 0 ++ 0x80 ∷ []) (replicate 16 7) ≡ outcome 0 (replicate 7 0 ++ 0x80 ∷ replicate 8 0)
unfolding sum_call answered eights joined number digits judged first_fault fault_of zero_sign every W.opened_after W.rising W.rounds_from R.fresh largest
    magnitude nearest_float of_bits to_bits
minus_in_bytes = refl

pub nearest_minus_in_bytes : nearest_call (replicate 7 0 ++ 0x80 ∷ []) (replicate 16 7) ≡ outcome 0 (replicate 7 0 ++ 0x80 ∷ replicate 8 0)
unfolding sum_call answered eights joined number digits judged first_fault fault_of zero_sign every S.nearest_after nearest_float value of_bits to_bits
nearest_minus_in_bytes = refl

-- ---- a register of 264 bytes, the lowest first: 2^50 in word 16 is 4 in byte 134
abbrev one_in_bytes : List ℕ
one_in_bytes = replicate 134 0 ++ 4 ∷ replicate 129 0

pub added_in_bytes : add_call (replicate 264 0) 0x3FF0000000000000 ≡ outcome 0 one_in_bytes
unfolding register_call answered eights joined enter number digits signed residue value fault_of of_bits
added_in_bytes = refl

pub withdrawn_in_bytes : withdraw_call one_in_bytes 0x3FF0000000000000 ≡ outcome 0 (replicate 264 0)
unfolding register_call answered eights joined enter number digits signed residue value fault_of of_bits
withdrawn_in_bytes = refl

pub short_register : add_call (replicate 263 0) 0 ≡ outcome 4 (replicate 263 0)
unfolding register_call
short_register = refl
