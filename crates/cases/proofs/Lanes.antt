-- Calls on lanes at their bounds, and with two faults: one table that is computed. Assumes nothing. The limits are written once, beside the definitions; these
-- rows hold them to the scope's numbers. 1 is 2^1074 units, 2^18 in lane 33; the pattern 3FFFFFFFFFFFFFFF has digits in lanes 31, 32 and 33.
use Rattle.std.specs.Prelude.{◌≡◌, refl, List, [], ◌∷◌, ◌++◌, map, ℕ, ◌+◌, ◌-◌, ◌*◌, ◌^◌, ℤ, pos, negsuc, neg_ℤ, replicate}
use Rattle.std.specs.Float.Ieee.{of_bits}
use Rattle.lists.specs.Digits.{digits, signed, residue}
use Rattle.lists.specs.Each.{Each}
use Rattle.lists.specs.Every.{every}
use Rattle.ieee.specs.Units.{value, magnitude}
use Rattle.judge.specs.Judge.{fault_of}
use Rattle.kinds.specs.Heard.{nowhere, at, Heard, refused, count}
use Rattle.lanes.specs.Lanes.{lane_sum, digits_of, plus_lanes, roomy, lay, lane_added, lane_withdrawn, settled, laid_heard, no_lanes}
use Rattle.cases.specs.Lanes.{one, nan, full, middle, top}

pub data LaneCall : Type 0 where
  -- lanes, the calls that they have taken, and the pattern of a number
  add : List ℤ → ℕ → ℕ → LaneCall
  withdraw : List ℤ → ℕ → ℕ → LaneCall
  -- lanes, the calls that they have taken, and words
  settle : List ℤ → ℕ → List ℕ → LaneCall

-- what is heard, the lanes afterwards, and of a settling the words
pub record LaneResult : Type 0 where
  pub heard : Heard
  pub lanes : List ℤ
  pub words : List ℕ

abbrev is : Heard → List ℤ → List ℕ → LaneResult
is h zs ws = record { heard = h; lanes = zs; words = ws }

unfoldable pub lane_result : LaneCall → LaneResult
lane_result (add zs n p) = is (laid_heard (lane_added zs n p).answer) (lane_added zs n p).area []
lane_result (withdraw zs n p) = is (laid_heard (lane_withdrawn zs n p).answer) (lane_withdrawn zs n p).area []
lane_result (settle zs n ws) = is (laid_heard (settled zs n ws).answer) (settled zs n ws).lanes (settled zs n ws).words

pub record LaneCase : Type 0 where
  pub call : LaneCall
  pub expected : LaneResult

abbrev row : LaneCall → LaneResult → LaneCase
row c r = record { call = c; expected = r }

-- a call that is refused, and leaves what it was given
abbrev row_refused : LaneCall → ℕ → LaneCase
row_refused (add zs n p) k = row (add zs n p) (is (refused k nowhere) zs [])
row_refused (withdraw zs n p) k = row (withdraw zs n p) (is (refused k nowhere) zs [])
row_refused (settle zs n ws) k = row (settle zs n ws) (is (refused k nowhere) zs ws)

abbrev above_limit : ℕ
above_limit = 0x7E70000000000001

-- what a lane holds at most after n calls
abbrev bound : ℕ → ℕ
bound n = (n + 1) * 2 ^ 32

abbrev words : List ℕ
words = replicate 33 7

unfoldable pub lane_rows : List LaneCase
lane_rows =
    -- rule N3: a digit with the number's sign, of either call, and a lane as it was beside it
    row (add no_lanes 0 one) (is (count 1) (middle (pos (2 ^ 18))) [])
    ∷ row (withdraw no_lanes 0 one) (is (count 1) (middle (neg_ℤ (pos (2 ^ 18)))) [])
    ∷ row (add (middle (pos 5)) 3 0xBFF0000000000000) (is (count 4) (middle (negsuc (2 ^ 18 - 6))) [])
    -- three digits, the middle one of 32 ones: 2^53 - 1 shifted by 1022
    ∷ row (add no_lanes 0 0x3FFFFFFFFFFFFFFF)
    (is (count 1) (replicate 31 (pos 0) ++ pos 0xC0000000 ∷ pos 0xFFFFFFFF ∷ pos 0x7FFFF ∷ replicate 32 (pos 0)) [])
    -- the largest number, 2^2074 units, is in lane 64
    ∷ row (withdraw no_lanes 0 0x7E70000000000000) (is (count 1) (replicate 64 (pos 0) ++ neg_ℤ (pos (2 ^ 26)) ∷ pos 0 ∷ []) [])
    -- rule N4: a lane at its bound of either sign is taken, and one beyond it isn't
    ∷ row (add (middle (pos (bound 0))) 0 one) (is (count 1) (middle (pos (bound 0 + 2 ^ 18))) [])
    ∷ row (add (middle (neg_ℤ (pos (bound 7)))) 7 one) (is (count 8) (middle (neg_ℤ (pos (bound 7 - 2 ^ 18)))) [])
    ∷ row_refused (add (middle (pos (bound 0 + 1))) 0 one) 25
    ∷ row_refused (withdraw (middle (negsuc (bound 7))) 7 one) 25
    -- -2^63 and 2^63 - 1, whatever the count
    ∷ row_refused (add (middle (negsuc (2 ^ 63 - 1))) (full - 1) one) 25
    ∷ row_refused (settle (top (negsuc (2 ^ 63 - 1)) (pos 0)) full words) 25
    ∷ row_refused (settle (top (pos (2 ^ 63 - 1)) (pos 0)) full words) 25
    -- rule N2: the last call that is taken, the first that isn't, and a count that there can't be
    ∷ row (withdraw (middle (pos (bound (full - 1)))) (full - 1) one) (is (count full) (middle (pos (bound (full - 1) - 2 ^ 18))) [])
    ∷ row_refused (add no_lanes full one) 24
    ∷ row_refused (add no_lanes (full + 1) one) 25
    -- at a count of 2^30 lanes are settled still, and the count starts afresh
    ∷ row (settle no_lanes full words) (is (count 0) no_lanes (replicate 33 0))
    ∷ row_refused (settle no_lanes (full + 1) words) 25
    -- ---- rule O13, each before a later one
    ∷ row_refused (add (replicate 65 (pos 0)) (full + 1) nan) 4
    ∷ row_refused (add (replicate 67 (negsuc (2 ^ 63 - 1))) 0 one) 4
    ∷ row_refused (add (middle (pos (bound 0 + 1))) 0 nan) 25
    ∷ row_refused (withdraw (middle (pos (bound full + 1))) full one) 25
    ∷ row (withdraw no_lanes full nan) (is (refused 2 (at 0)) no_lanes [])
    ∷ row (add no_lanes full above_limit) (is (refused 3 (at 0)) no_lanes [])
    -- ---- rule O14
    ∷ row_refused (settle (replicate 65 (pos 0)) (full + 1) words) 4
    ∷ row_refused (settle (top (pos 0) (pos (2 ^ 31))) (full + 1) (replicate 34 7)) 4
    ∷ row_refused (settle (top (pos 0) (pos (2 ^ 31))) (full + 1) words) 25
    ∷ row_refused (settle (top (pos 0) (pos (2 ^ 31))) 0 words) 9
    -- rule N10: the largest number, withdrawn, brings the sum back into range
    ∷ row (withdraw (top (pos 0) (pos (2 ^ 31))) 0 0x7E70000000000000) (is (count 1) (replicate 64 (pos 0) ++ neg_ℤ (pos (2 ^ 26)) ∷ pos (2 ^ 31) ∷ []) [])
    ∷ row (settle (replicate 64 (pos 0) ++ neg_ℤ (pos (2 ^ 26)) ∷ pos (2 ^ 31) ∷ []) 1 words)
    (is (count 0) (replicate 64 (pos 0) ++ pos (2 ^ 32 - 2 ^ 26) ∷ pos (2 ^ 31 - 1) ∷ []) (replicate 32 0 ++ (2 ^ 63 - 2 ^ 26) ∷ []))
    -- ---- rule N5: carries of both signs, of which one goes through all lanes, and the top lane at both ends and beyond
    ∷ row (settle (pos (2 ^ 32) ∷ negsuc 0 ∷ pos (3 * 2 ^ 32 + 1) ∷ negsuc (2 ^ 32 - 1) ∷ replicate 62 (pos 0)) 5 words)
    (is (count 0) (pos 0 ∷ pos 0 ∷ pos 1 ∷ pos 3 ∷ replicate 61 (pos 0xFFFFFFFF) ++ negsuc 0 ∷ [])
    (0 ∷ 0x300000001 ∷ replicate 31 0xFFFFFFFFFFFFFFFF))
    ∷ row (settle (top (negsuc 0) (pos 0)) 1 words) (is (count 0) (replicate 65 (pos 0xFFFFFFFF) ++ negsuc 0 ∷ []) (replicate 33 0xFFFFFFFFFFFFFFFF))
    ∷ row (settle (pos (2 ^ 32) ∷ replicate 64 (pos 0xFFFFFFFF) ++ pos 3 ∷ []) 0 words) (is (count 0) (top (pos 0) (pos 4)) (replicate 32 0 ++ 2 ^ 34 ∷ []))
    ∷ row (settle (top (pos 9) (negsuc (2 ^ 31 - 1))) 0 words) (is (count 0) (top (pos 9) (negsuc (2 ^ 31 - 1))) (9 ∷ replicate 31 0 ++ 2 ^ 63 ∷ []))
    ∷ row (settle (top (pos 9) (pos (2 ^ 31 - 1))) 0 words)
    (is (count 0) (top (pos 9) (pos (2 ^ 31 - 1))) (9 ∷ replicate 31 0 ++ (2 ^ 31 - 1) * 2 ^ 32 ∷ []))
    ∷ row_refused (settle (top (negsuc 0) (negsuc (2 ^ 31 - 1))) full words) 9
    ∷ row_refused (settle (pos (2 ^ 32) ∷ replicate 64 (pos 0xFFFFFFFF) ++ pos (2 ^ 31 - 1) ∷ []) full words) 9
    ∷ []

abbrev given : LaneCase → LaneResult
given c = lane_result c.call

abbrev wanted : LaneCase → LaneResult
wanted c = c.expected

computed_lanes : map given lane_rows ≡ map wanted lane_rows
unfolding lane_rows lane_result lay roomy every digits_of plus_lanes digits signed residue value magnitude fault_of of_bits settled lane_sum
computed_lanes = refl

-- so each row holds
each_row : (rs : List LaneCase) → map given rs ≡ map wanted rs → Each (λ c. lane_result c.call ≡ c.expected) rs
each_row [] e = tt
each_row (r ∷ rs) e =
    let first : lane_result r.call ≡ r.expected = cc in
    let rest : map given rs ≡ map wanted rs = cc in
    (first, each_row rs rest)

pub lanes_hold : Each (λ c. lane_result c.call ≡ c.expected) lane_rows
lanes_hold = each_row lane_rows computed_lanes
