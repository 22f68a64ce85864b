-- What rules S8 and S9 can't say more of: faithful sums of one list in two orders that differ, one by blocks; one that is off by more than 2^-53 of S; one of a
-- list with exact sum zero. And that two doubles with one between them aren't neighbours. Each is computed. Assumes nothing.
use Rattle.std.specs.Prelude.{◌≡◌, refl, ℕ, ◌*◌, ◌^◌, ◌≤◌, ◌<◌, nat_abs, ◌-ℤ◌, Float}
use Rattle.std.proofs.Common.{ap, lt_irrefl, not-le_of_lt, arith, lit≤}
use mathlib.Core.List.Perm
use mathlib.Core.List.{List, [], ◌∷◌, map, Perm}
use Rattle.std.specs.Int.Signed.{lt_z_yes}
use Rattle.std.specs.Float.{binary64}
use Rattle.std.specs.Float.Ieee.{of_bits, to_bits, add, sub, mul, le, eq}
use Rattle.std.specs.Float.Ieee.Bits.{of_bits-fits}
use Rattle.units.specs.Rounding.{ceil}
use Rattle.ieee.specs.Units.{magnitude, negative, value, nearest_float}
use Rattle.ieee.specs.Accuracy.{EqualOrNeighbouring, equal, below, above}
use Rattle.kinds.specs.Limits.{doubles}
use Rattle.judge.specs.Judge.{fault_of, first_fault, judged}
use Rattle.extract.specs.Extract.{remainders, gathered, last_sum, largest, largest_with}
use Rattle.exponent.specs.Power.{power_of}
use Rattle.sound.specs.Sound as N
use Rattle.rounds.specs.Round as R
use Rattle.sums.specs.Sums.{sum_of}
use Rattle.walk.specs.Walk as W
use Rattle.runs.specs.Reordering.{Summed, undivided, by_blocks}

-- 1, 2^-53 and twice 2^-106, in two orders; 1 and -1
abbrev one : List ℕ
one = 0x3FF0000000000000 ∷ 0x3CA0000000000000 ∷ 0x3950000000000000 ∷ 0x3950000000000000 ∷ []

abbrev other : List ℕ
other = 0x3FF0000000000000 ∷ 0x3950000000000000 ∷ 0x3950000000000000 ∷ 0x3CA0000000000000 ∷ []

abbrev cancelled : List ℕ
cancelled = 0x3FF0000000000000 ∷ 0xBFF0000000000000 ∷ []

reordered : Perm one other
reordered =
    Perm.cons 0x3FF0000000000000
    (Perm.trans (Perm.swap 0x3950000000000000 0x3CA0000000000000 (0x3950000000000000 ∷ []))
    (Perm.cons 0x3950000000000000 (Perm.swap 0x3950000000000000 0x3CA0000000000000 [])))

-- by patterns: the sum, the rounds, and what is left of each number
abbrev Sum : List ℕ → ℕ → ℕ → List ℕ → Type 0
Sum ps x k left = Summed doubles ps (of_bits binary64 x) k (map (of_bits binary64) left)

computed : Sum one 0x3FF0000000000000 1 (0 ∷ 0x3CA0000000000000 ∷ 0x3950000000000000 ∷ 0x3950000000000000 ∷ [])
    × Sum other 0x3FF0000000000001 1 (0 ∷ 0x3950000000000000 ∷ 0x3950000000000000 ∷ 0x3CA0000000000000 ∷ [])
    × Sum cancelled 0 1 (0 ∷ 0 ∷ [])
unfolding
    judged first_fault fault_of W.opened_after W.stepped_after W.taken W.rising W.rounds_from R.turned R.fresh R.scaled R.finished R.closed_by
    N.sound_sigma N.at_most N.sound_largest N.sound_numbers N.sound_pending N.bad_place N.sound N.gated remainders gathered last_sum largest largest_with
    power_of ceil
    nearest_float value of_bits to_bits add sub mul le eq
computed = (
  undivided (map (of_bits binary64) one) refl,
  by_blocks 7 (map (of_bits binary64) other) (0 ∷ []) refl,
  undivided (map (of_bits binary64) cancelled) refl,
)

-- rule S8: not equal
pub not_equal : ((ps qs : List ℕ) → Perm ps qs → (x y : Float) (j k : ℕ) (xs ys : List Float) → Summed doubles ps x j xs → Summed doubles qs y k ys → x ≡ y) → ⊥
unfolding of_bits to_bits
not_equal h =
    let e = ap (to_bits binary64) (h one other reordered _ _ _ _ _ _ computed.0 computed.1) in
    omega arith

-- rule S9: not 2^53
pub not_closer : ((ps : List ℕ) (x : Float) (k : ℕ) (xs : List Float) → Summed doubles ps x k xs → 0 < nat_abs (sum_of binary64 ps)
    → 2 ^ 53 * nat_abs (value binary64 x -ℤ sum_of binary64 ps) < nat_abs (sum_of binary64 ps)) → ⊥
unfolding value magnitude negative of_bits
not_closer h = not-le_of_lt (h one _ _ _ computed.0 (lit≤ tt)) (lit≤ tt)

-- rule S9: not where S is zero
pub not_at_zero : ((ps : List ℕ) (x : Float) (k : ℕ) (xs : List Float) → Summed doubles ps x k xs
    → 2 ^ 52 * nat_abs (value binary64 x -ℤ sum_of binary64 ps) < nat_abs (sum_of binary64 ps)) → ⊥
unfolding value magnitude negative of_bits
not_at_zero h = lt_irrefl _ (h cancelled _ _ _ computed.2)

-- rule S8: 1 and the second double above it are neither equal nor neighbours
pub not_two_apart : EqualOrNeighbouring binary64 (of_bits binary64 0x3FF0000000000000) (of_bits binary64 0x3FF0000000000002) → ⊥
unfolding of_bits to_bits value magnitude negative
not_two_apart (equal e) = let p = ap (to_bits binary64) e in omega arith
not_two_apart (below n) =
    n.none (of_bits binary64 0x3FF0000000000001) (record { fit = of_bits-fits binary64 0x3FF0000000000001; fini = tt }) (lt_z_yes tt) (lt_z_yes tt)
not_two_apart (above n) = absurd n.less.lt
