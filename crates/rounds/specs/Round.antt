-- One round of the faithful walk: the blocks, sigma, how a round opens, and the four rules of its close. Definitions only.
-- Rule WB2: each operation is one rounded operation of the format.
use Rattle.std.specs.Prelude.{Bool, cond, ◌||◌, List, ◌++◌, ℕ, ◌+◌, ◌-◌, ◌*◌, eqb, take, drop, Float}
use Rattle.std.specs.Float.{Format}
use Rattle.std.specs.Float.Ieee.{prec, low, hid, of_bits, add, sub, mul, le, eq}
use Rattle.units.specs.Rounding.{ceil}
use Rattle.ieee.specs.Units.{magnitude}
use Rattle.lists.specs.Bitset.{without, full}
use Rattle.kinds.specs.Limits.{Width, exponent_of, blocks_of}
use Rattle.kinds.specs.States.{state_of}
use Rattle.kinds.specs.State.{State}
use Rattle.kinds.specs.Step.{Step}
use Rattle.kinds.specs.Step.{More, Done}
use Rattle.extract.specs.Extract.{plus_zero, remainders, gathered, last_sum, absolute, largest, largest_with}
use Rattle.exponent.specs.Power.{power_of}

-- rule L8
abbrev pub block_of : Width → ℕ → List Float → List Float
block_of W b xs = take W.block (drop (W.block * b) xs)

-- rule WB1: block b turned into its remainders, and no other place
unfoldable pub turned : Width → Float → ℕ → List Float → List Float
turned W sigma b xs = take (W.block * b) xs ++ (remainders W.format sigma (block_of W b xs) ++ drop (W.block * b + W.block) xs)

-- the same round with another tau, largest remainder and pending set: the one place that writes out what a round keeps of its state
abbrev pub in_round : State → Float → Float → ℕ → State
in_round s tau largest pending = state_of s.n s.sigma s.t tau pending s.rounds s.ensemble largest

-- the state after block b: tau has gathered its numbers, its remainders are looked at for the largest of the round (rule WS13), and it is pending no more
abbrev pub taken_state : Width → State → ℕ → List Float → State
taken_state W s b work =
    let f = W.format in
    let block = block_of W b work in
    in_round s (gathered f s.sigma s.tau block) (largest_with f s.largest (remainders f s.sigma block)) (without s.pending b)

-- the state and its work area after every block, as its round closes
abbrev pub all_taken : Width → State → List Float → State
all_taken W s xs =
    let f = W.format in
    in_round s (gathered f s.sigma s.tau xs) (largest_with f s.largest (remainders f s.sigma xs)) 0

abbrev pub all_left : Width → State → List Float → List Float
all_left W s xs = remainders W.format s.sigma xs

-- every number is zero
abbrev pub all_zero : Format → List Float → Bool
all_zero f xs = eqb (largest f xs) 0

-- ---- rule WO3: sigma, with mu and 2^e in units
abbrev pub sigma_of : Format → ℕ → ℕ → Float
sigma_of f n mu = power_of f (exponent_of n + ceil mu)

-- rule WC2
abbrev pub round_of : Width → ℕ → Float → Float → ℕ → ℕ → State
round_of W n sigma t rounds ensemble = state_of n sigma t (plus_zero W.format) (full (blocks_of W n)) rounds ensemble (plus_zero W.format)

-- rules WO3 and W2: an opening and a restart take e and sigma from mu alike, with t = +0. Rules WO2 and W1: where mu is zero the answer is `zero`.
abbrev pub fresh_round : Width → ℕ → ℕ → ℕ → ℕ → State
fresh_round W n mu rounds ensemble = round_of W n (sigma_of W.format n mu) (plus_zero W.format) rounds ensemble

-- With a state, `told` is the largest remainder of the round that has closed, +0 where none has (rule WS14).
unfoldable pub fresh : Width → Float → ℕ → ℕ → ℕ → ℕ → Float → Step
fresh W zero n mu rounds ensemble told = cond (eqb mu 0) (Done zero rounds) (More (fresh_round W n mu rounds ensemble) told)

-- ---- the close
-- 2^j eps sigma, as the product of the float 2^j eps and sigma: eps (rule L3) is 2^-prec, and a unit 2^-low
unfoldable pub scaled : Format → ℕ → Float → Float
scaled f j sigma = mul f (power_of f (low f + j - prec f)) sigma

-- the least normal number: 2^-1022
abbrev pub least_normal : Format → Float
least_normal f = of_bits f (hid f)

-- the sum of rule W3
unfoldable pub finished : Format → Float → Float → Float → List Float → Float
finished f tau1 t tau xs = let tau2 = sub f tau (sub f tau1 t) in add f tau1 (add f tau2 (last_sum f xs))

-- rules WC1 and W1 to W4, for a state whose last pending block was taken and its work area, with mu for rules W1 and W2; rule WR2: the round counts. Rule
-- WS14: told is the closed round's largest remainder, and the new round keeps +0
unfoldable pub closed_by : Width → ℕ → State → List Float → Step
closed_by W mu s xs =
    let f = W.format in
    let M = exponent_of s.n in
    let t' = add f s.t s.tau in
    let rounds = s.rounds + 1 in
    cond (eq t' (plus_zero f))
    (fresh W (plus_zero f) s.n mu rounds s.ensemble s.largest)
    (cond (le s.sigma (least_normal f) || le (scaled f (2 * M + 1) s.sigma) (absolute f t'))
    (Done (finished f t' s.t s.tau xs) rounds)
    (More (round_of W s.n (scaled f M s.sigma) t' rounds s.ensemble) s.largest))

-- mu is the largest remainder that the state has kept: in a run that of the whole area
abbrev pub closed : Width → State → List Float → Step
closed W s xs = closed_by W (magnitude W.format s.largest) s xs
