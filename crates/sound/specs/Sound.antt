-- A sound state, in three tests: the numbers, the pending set, the first bad work place; and the gate of a step, with a refusal for each. Definitions only.
use Rattle.std.specs.Prelude.{Bool, cond, not, ◌&&◌, List, [], ◌∷◌, ℕ, ◌+◌, ◌*◌, ◌^◌, leb, ltb, eqb, length, Float}
use Rattle.std.specs.Float.Ieee.{prec}
use Rattle.std.specs.Float.Ieee.Scale.{finite}
use Rattle.units.specs.Rounding.{ceil}
use Rattle.ieee.specs.Units.{negative, magnitude}
use Rattle.lists.specs.Bitset.{has}
use Rattle.judge.specs.Table.{size_of}
use Rattle.kinds.specs.Limits.{Width, exponent_of, blocks_of}
use Rattle.kinds.specs.State.{State}
use Rattle.kinds.specs.Verdict.{Verdict}
use Rattle.kinds.specs.Verdict.{Good, Refused}

-- rule WS6: in units from 2^M to 2^M times the limit
unfoldable pub sound_sigma : Width → ℕ → Float → Bool
sound_sigma W n sigma =
    let m = magnitude W.format sigma in
    finite sigma && not (negative sigma) && eqb m (2 ^ ceil m) && leb (2 ^ exponent_of n) m && leb m (2 ^ exponent_of n * size_of W W.magnitude)

-- finite, and not beyond so many units
unfoldable pub at_most : Width → ℕ → Float → Bool
at_most W most x = finite x && leb (magnitude W.format x) most

-- rule WS15: no sign, and at most eps times sigma, which is 2^-prec times it
unfoldable pub sound_largest : Width → Float → Float → Bool
sound_largest W sigma x = finite x && not (negative x) && leb (2 ^ prec W.format * magnitude W.format x) (magnitude W.format sigma)

-- rules WS3, WS4, WS6, WS7 and WS15
unfoldable pub sound_numbers : Width → State → Bool
sound_numbers W s =
    leb 1 s.n && leb s.n W.length && leb s.rounds W.rounds && sound_sigma W s.n s.sigma
    && at_most W (size_of W W.carried) s.t && at_most W (size_of W W.carried) s.tau && sound_largest W s.sigma s.largest

-- rule WS5
unfoldable pub sound_pending : Width → State → Bool
sound_pending W s = ltb 0 s.pending && ltb s.pending (2 ^ blocks_of W s.n)

-- rule WS8 for one place
abbrev pub sound_place : Width → State → Float → Bool
sound_place W s x = finite x && leb (2 ^ exponent_of s.n * magnitude W.format x) (magnitude W.format s.sigma)

-- the first work place that is not sound, or the length where each is
unfoldable pub bad_place : Width → State → List Float → ℕ
bad_place W s [] = 0
bad_place W s (x ∷ xs) = cond (sound_place W s x) (bad_place W s xs + 1) 0

-- rules WS3 to WS8, and WS15
unfoldable pub sound : Width → State → List Float → Bool
sound W s xs = sound_numbers W s && sound_pending W s && eqb (bad_place W s xs) (length xs)

-- ---- rule O2, for a step that names the ensemble k
unfoldable pub gated : Width → State → ℕ → ℕ → List Float → Verdict
gated W s k b work =
    cond (not (eqb (length work) s.n)) (Refused 4 0)
    (cond (not (eqb k s.ensemble)) (Refused 21 0)
    (cond (not (sound_numbers W s)) (Refused 8 0)
    (cond (not (sound_pending W s)) (Refused 18 0)
    (cond (not (eqb (bad_place W s work) (length work))) (Refused 19 (bad_place W s work))
    (cond (leb (blocks_of W s.n) b) (Refused 6 0)
    (cond (not (has s.pending b)) (Refused 7 0)
    Good))))))
