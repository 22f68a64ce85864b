-- The fault of one pattern, what a list is refused for, in rule O1's order, and which zero it sums to. Definitions only.
use Rattle.std.specs.Prelude.{Bool, cond, not, ◌&&◌, List, [], ◌∷◌, map, ℕ, ◌+◌, leb, ltb, eqb, length, Float}
use Rattle.std.specs.Float.Ieee.{top, of_bits}
use Rattle.std.specs.Float.Ieee.Scale.{finite}
use Rattle.ieee.specs.Units.{magnitude}
use Rattle.lists.specs.Every.{every}
use Rattle.kinds.specs.Limits.{Width}
use Rattle.kinds.specs.Verdict.{Verdict}
use Rattle.kinds.specs.Verdict.{Good, Refused}

-- rules R2 and R3: 2 where a pattern isn't finite, 3 where its magnitude is beyond the limit, 0 where it is allowed
unfoldable pub fault_of : Width → ℕ → ℕ
fault_of W p =
    cond (finite (of_bits W.format p))
    (cond (leb (magnitude W.format (of_bits W.format p)) (magnitude W.format (of_bits W.format W.magnitude))) 0 3)
    2

-- a pattern without a fault
abbrev pub fault_free : Width → ℕ → Bool
fault_free W p = eqb (fault_of W p) 0

-- the lowest bad place with its own fault, places counted from k, where a member's fault is a refusal's number, or 0 for none
unfoldable pub first_bad : {A : Type 0} → (A → ℕ) → List A → ℕ → Verdict
first_bad faults [] k = Good
first_bad faults (x ∷ xs) k = cond (eqb (faults x) 0) (first_bad faults xs (k + 1)) (Refused (faults x) k)

unfoldable pub first_fault : Width → List ℕ → ℕ → Verdict
unfolding first_bad
first_fault W ps k = first_bad (fault_of W) ps k

-- rule O1, with rules R1, R4 and R5: area and parts say whether the lent areas have the right lengths
unfoldable pub judged : Width → Bool → Bool → List ℕ → Verdict
judged W area parts ps =
    cond (ltb W.length (length ps)) (Refused 1 0)
    (cond (not area) (Refused 4 0)
    (cond (not parts) (Refused 5 0)
    (first_fault W ps 0)))

-- the numbers of a list
abbrev pub floats : Width → List ℕ → List Float
floats W ps = map (of_bits W.format) ps

-- ---- rule S3
-- the pattern of -0: the sign alone
abbrev pub minus_pattern : Width → ℕ
minus_pattern W = top W.format

-- the sign of the zero that a list with exact sum zero answers: negative where the list isn't empty and nothing but -0
unfoldable pub zero_sign : Width → List ℕ → Bool
zero_sign W ps = ltb 0 (length ps) && every (eqb (minus_pattern W)) ps
