-- Calls at binary32: from C on a few numbers, computed, and the list at which 000's limit of 2,894 numbers is wrong. Its stopping test asks for
-- 2^(2M+1) eps <= 1, which at M = 12 doesn't hold. What the walk would answer there is computed, and so is the nearest sum; that the walk is right
-- below follows from its theorem. Assumes nothing.
use Rattle.std.specs.Prelude.{◌≡◌, refl, true, List, [], ◌∷◌, ℕ, ◌+◌, ◌<◌, Float, eqb, nat_abs, length, replicate}
use Rattle.std.proofs.Common.{sym, ap, subst, ◌∙◌, arith, lit<}
use Rattle.std.specs.Float.{binary32}
use Rattle.std.specs.Float.Ieee.{of_bits, to_bits, add, sub, mul, le, eq}
use Rattle.units.specs.Rounding.{ceil}
use Rattle.ieee.specs.Units.{value, magnitude, negative, nearest_float}
use Rattle.ieee.proofs.Finite.{same_float}
use Rattle.ieee.proofs.PatternBounds.{pattern_number}
use Rattle.kinds.specs.Limits.{Width, singles}
use Rattle.kinds.specs.Verdict.{Good}
use Rattle.kinds.specs.Outcome.{outcome}
use Rattle.kinds.specs.Heard.{Heard, done, refused, nowhere, step_heard, nearest, nearest_heard}
use Rattle.judge.specs.Judge.{fault_of, first_fault, judged}
use Rattle.judge.proofs.JudgeLaws.{list_when}
use Rattle.extract.specs.Extract.{remainders, gathered, last_sum, largest, largest_with}
use Rattle.exponent.specs.Power.{power_of}
use Rattle.sound.specs.Sound as N
use Rattle.rounds.specs.Round as R
use Rattle.walk.specs.Walk as W
use Rattle.sums.specs.Sums as S
use Rattle.runs.proofs.Instances.{faithful_32}
use Rattle.arrays.specs.Arrays.{returned}
use Rattle.step_calls.specs.StepArrays.{open_with, step_with, open_singles, step_singles}
use Rattle.sum_calls.specs.SumArrays.{faithful_with, nearest_with, faithful_singles, nearest_singles}

-- ---- 000's limit: 1, 1/2, -2^-24, -2^-25, -2^-25 and zeros. Their sum is the single below 3/2, and only that one is faithful to it
abbrev witness : ℕ → List ℕ
witness zeros = 0x3F800000 ∷ 0x3F000000 ∷ 0xB3800000 ∷ 0xB3000000 ∷ 0xB3000000 ∷ replicate zeros 0

abbrev work : ℕ → List Float
work n = replicate n (of_bits binary32 0)

-- the walk without what it leaves
abbrev summed : Width → ℕ → Heard
summed width zeros = step_heard width (W.faithful_of width (witness zeros) (work (5 + zeros))).answer

-- with 2,046 numbers M is 11, and the faithful sum is the sum itself: by rule D2, since that is a single
abbrev below_three_halves : Float
below_three_halves = of_bits binary32 0x3FBFFFFF

allowed_2046 : judged singles (eqb (length (work 2046)) (length (witness 2041))) true (witness 2041) ≡ Good
unfolding judged first_fault fault_of magnitude of_bits
allowed_2046 = refl

sum_2046 : value binary32 below_three_halves ≡ S.sum_of binary32 (witness 2041)
unfolding value of_bits
sum_2046 = refl

some_units : nat_abs (value binary32 below_three_halves) ≡ 0 → ⊥
unfolding value of_bits
some_units e =
    let some : 0 < nat_abs (value binary32 below_three_halves) = lit< tt in
    let none : 0 < 0 = subst (λ (n : ℕ). 0 < n) e some in
    omega arith

bits_2046 : to_bits binary32 below_three_halves ≡ 0x3FBFFFFF
unfolding to_bits of_bits
bits_2046 = refl

pub at_2046 : (r : ℕ) × (summed singles 2041 ≡ done 0x3FBFFFFF r)
at_2046 =
    let P = faithful_32 (witness 2041) (work 2046) ((list_when singles _ true (witness 2041) Good).0 allowed_2046) in
    let Y = pattern_number binary32 0x3FBFFFFF (lit< tt) in
    let v = P.faithful.exact below_three_halves Y sum_2046 ∙ sym sum_2046 in
    let x = same_float P.faithful.number Y v (λ z. absurd (some_units (ap nat_abs (sym v ∙ z)))) in
    (P.rounds, ap (step_heard singles) P.answer ∙ ap (λ (b : ℕ). done b P.rounds) (ap (to_bits binary32) x ∙ bits_2046))

pub nearest_at_2046 : nearest_heard singles (S.nearest_of singles (witness 2041)) ≡ nearest 0x3FBFFFFF
unfolding judged first_fault fault_of S.nearest_after nearest_float value of_bits to_bits
nearest_at_2046 = refl

-- one more is too many
pub at_2047 : summed singles 2042 ≡ refused 1 nowhere
unfolding judged first_fault fault_of W.opened_after W.stepped_after W.taken W.rising W.rounds_from R.turned R.fresh R.scaled R.finished R.closed_by
    N.sound_sigma N.at_most N.sound_largest N.sound_numbers N.sound_pending N.bad_place N.sound N.gated remainders gathered last_sum largest largest_with
    power_of ceil
    magnitude negative nearest_float of_bits to_bits add sub mul le eq
at_2047 = refl

-- and the walk of a width that allowed it, with M at 12, answers 3/2 after three rounds, where the sum is still the single below. Its one block is the whole
-- list: the prover computes it, and how a list is cut into blocks is of no matter; tests/walk.py has it with blocks of 64
pub sum_2047 : value binary32 below_three_halves ≡ S.sum_of binary32 (witness 2042)
unfolding value of_bits
sum_2047 = refl

abbrev longer : Width
longer = record { format = binary32; length = 2047; magnitude = 0x71800000; block = 2047; parts = 8; carried = 0x77000000; rounds = 2 }

pub were_2047_allowed : summed longer 2042 ≡ done 0x3FC00000 3
unfolding judged first_fault fault_of W.opened_after W.stepped_after W.taken W.rising W.rounds_from R.turned R.fresh R.scaled R.finished R.closed_by
    N.sound_sigma N.at_most N.sound_largest N.sound_numbers N.sound_pending N.bad_place N.sound N.gated remainders gathered last_sum largest largest_with
    power_of ceil
    magnitude negative nearest_float of_bits to_bits add sub mul le eq
were_2047_allowed = refl

-- ---- from C: 2^50, 2^21 and -2^50
abbrev numbers : List ℕ
numbers = 0x58800000 ∷ 0x4A000000 ∷ 0xD8800000 ∷ []

abbrev copied : List Float
copied = of_bits binary32 0x58800000 ∷ of_bits binary32 0x4A000000 ∷ of_bits binary32 0xD8800000 ∷ []

abbrev begun : List ℕ
begun = 1 ∷ 0x5A000000 ∷ 0 ∷ 0 ∷ 3 ∷ 1 ∷ 0 ∷ 7 ∷ 0 ∷ 0 ∷ []

pub opens : open_singles 7 numbers (work 3) (replicate 10 7) ≡ returned 0 copied begun
unfolding open_with judged first_fault fault_of W.opened_after R.fresh largest power_of ceil magnitude nearest_float of_bits to_bits le eq
opens = refl

-- a step's round leaves 2^21, which it tells; the next round has kept nothing yet
pub goes_on : step_singles begun copied 7 0
    ≡ returned 0 (of_bits binary32 0 ∷ of_bits binary32 0x4A000000 ∷ of_bits binary32 0 ∷ [])
    (1 ∷ 0x4B800000 ∷ 0 ∷ 0 ∷ 3 ∷ 1 ∷ 1 ∷ 7 ∷ 0 ∷ 0x4A000000 ∷ [])
unfolding step_with W.stepped_after W.taken R.turned R.fresh R.scaled R.finished R.closed_by
    N.sound_sigma N.at_most N.sound_largest N.sound_numbers N.sound_pending N.bad_place N.sound N.gated remainders gathered last_sum largest largest_with
    power_of ceil
    magnitude negative nearest_float of_bits to_bits add sub mul le eq
goes_on = refl

pub undivided : faithful_singles numbers (work 3) (7 ∷ 7 ∷ []) ≡ returned 0 (work 3) (0x4A000000 ∷ 2 ∷ [])
unfolding faithful_with judged first_fault fault_of W.opened_after W.stepped_after W.taken W.rising W.rounds_from R.turned R.fresh R.scaled R.finished
    R.closed_by
    N.sound_sigma N.at_most N.sound_largest N.sound_numbers N.sound_pending N.bad_place N.sound N.gated remainders gathered last_sum largest largest_with
    power_of ceil
    magnitude negative nearest_float of_bits to_bits add sub mul le eq
undivided = refl

pub in_one_call : nearest_singles numbers (7 ∷ []) ≡ outcome 0 (0x4A000000 ∷ [])
unfolding nearest_with judged first_fault fault_of S.nearest_after nearest_float value of_bits to_bits
in_one_call = refl

-- a pattern of 33 bits is none of a state's, though its lower 32 are
abbrev of33bits : List ℕ
of33bits = 1 ∷ 0x15A000000 ∷ 0 ∷ 0 ∷ 3 ∷ 1 ∷ 0 ∷ 7 ∷ 0 ∷ 0 ∷ []

pub sigma_of_33_bits : step_singles of33bits copied 7 0 ≡ returned 8 copied of33bits
unfolding step_with W.stepped_after W.taken R.turned R.fresh R.scaled R.finished R.closed_by
    N.sound_sigma N.at_most N.sound_largest N.sound_numbers N.sound_pending N.bad_place N.sound N.gated remainders gathered last_sum largest largest_with
    power_of ceil
    magnitude negative nearest_float of_bits to_bits add sub mul le eq
sigma_of_33_bits = refl
