-- The register that carries later: its lanes and the whole number that they stand for, an addition, a withdrawal and settling. Definitions only.
use Rattle.std.specs.Prelude.{Bool, cond, not, ◌&&◌, List, [], ◌∷◌, ◌++◌, map, ℕ, suc, ◌+◌, ◌*◌, ◌^◌, eqb, leb, ℤ, pos, negsuc, neg_ℤ, nat_abs, ◌+ℤ◌, ◌*ℤ◌}
use Rattle.std.specs.Prelude.{length, take, get_or, replicate}
use Rattle.lists.specs.Digits.{digits, signed, residue, inside}
use Rattle.lists.specs.Every.{every}
use Rattle.kinds.specs.Limits.{doubles}
use Rattle.kinds.specs.Outcome.{Outcome, outcome}
use Rattle.kinds.specs.Heard.{Heard, refused, count, place_of}
use Rattle.judge.specs.Judge.{fault_of}
use Rattle.words.specs.Words.{word_count, register_bits, words_of}
use Rattle.addend.specs.Addend.{units_of}
use Rattle.lanes.specs.Laid.{Laid}
use Rattle.lanes.specs.Laid.{Counted, Refused}

-- ---- rule N1: 66 lanes of 32 bits each, and the whole number that they stand for
abbrev pub lane_count : ℕ
lane_count = 66

abbrev pub lane_bits : ℕ
lane_bits = 32

-- those below the top one
abbrev pub low_lanes : ℕ
low_lanes = 65

unfoldable pub lane_sum : List ℤ → ℤ
lane_sum [] = pos 0
lane_sum (z ∷ zs) = z +ℤ pos (2 ^ lane_bits) *ℤ lane_sum zs

-- lanes that hold nothing
abbrev pub no_lanes : List ℤ
no_lanes = replicate lane_count (pos 0)

-- ---- rule N2: so many calls at the most before lanes are settled
abbrev pub most_calls : ℕ
most_calls = 2 ^ 30

-- ---- rule N3: the 32-bit digits of a whole number's magnitude, each with the number's sign; and lanes with them, lane by lane
unfoldable pub digits_of : ℤ → List ℤ
digits_of (pos n) = map pos (digits lane_bits lane_count n)
digits_of (negsuc n) = map (λ d. neg_ℤ (pos d)) (digits lane_bits lane_count (suc n))

unfoldable pub plus_lanes : List ℤ → List ℤ → List ℤ
plus_lanes [] ds = []
plus_lanes (z ∷ zs) [] = z ∷ zs
plus_lanes (z ∷ zs) (d ∷ ds) = (z +ℤ d) ∷ plus_lanes zs ds

-- ---- rule N4: what so many calls may have left in a lane
abbrev pub lane_limit : ℕ → ℕ
lane_limit calls = (calls + 1) * 2 ^ lane_bits

unfoldable pub roomy : ℕ → List ℤ → Bool
roomy calls zs = leb calls most_calls && every (λ z. leb (nat_abs z) (lane_limit calls)) zs

-- ---- rule O13: an addition and a withdrawal, of lanes that took so many calls since they were settled; z is what the lanes' whole number changes by
abbrev pub Laying : Type 0
Laying = Outcome Laid ℤ

unfoldable pub lay : List ℤ → ℕ → ℕ → ℤ → Laying
lay zs calls p z =
    cond (not (eqb (length zs) lane_count)) (outcome (Refused 4 0) zs)
    (cond (not (roomy calls zs)) (outcome (Refused 25 0) zs)
    (cond (not (eqb (fault_of doubles p) 0)) (outcome (Refused (fault_of doubles p) 0) zs)
    (cond (eqb calls most_calls) (outcome (Refused 24 0) zs)
    (outcome (Counted (calls + 1)) (plus_lanes zs (digits_of z))))))

abbrev pub lane_added : List ℤ → ℕ → ℕ → Laying
lane_added zs calls p = lay zs calls p (units_of doubles p)

abbrev pub lane_withdrawn : List ℤ → ℕ → ℕ → Laying
lane_withdrawn zs calls p = lay zs calls p (neg_ℤ (units_of doubles p))

-- ---- rule N5: lanes that are settled: the digits of the whole number in two's complement, the top one signed
abbrev pub settled_lanes : ℤ → List ℤ
settled_lanes z =
    let ds = digits lane_bits lane_count (residue register_bits z) in
    map pos (take low_lanes ds) ++ (signed lane_bits (get_or ds low_lanes 0) ∷ [])

-- rule O14: the answer, and both areas afterwards
pub record Settling : Type 0 where
  pub answer : Laid
  pub lanes : List ℤ
  pub words : List ℕ

abbrev pub settling : Laid → List ℤ → List ℕ → Settling
settling a zs ws = record { answer = a; lanes = zs; words = ws }

unfoldable pub settled : List ℤ → ℕ → List ℕ → Settling
settled zs calls ws =
    cond (not (eqb (length zs) lane_count && eqb (length ws) word_count)) (settling (Refused 4 0) zs ws)
    (cond (not (roomy calls zs)) (settling (Refused 25 0) zs ws)
    (cond (not (inside register_bits (lane_sum zs))) (settling (Refused 9 0) zs ws)
    (settling (Counted 0) (settled_lanes (lane_sum zs)) (words_of (lane_sum zs)))))

-- rule F11
abbrev pub laid_heard : Laid → Heard
laid_heard (Counted n) = count n
laid_heard (Refused k p) = refused k (place_of k p)
