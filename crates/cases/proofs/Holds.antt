-- Every row of the five tables holds: one test that is computed over a whole table, and one law from the test to each row. Assumes nothing.
use Rattle.std.specs.Prelude.{◌≡◌, refl, Bool, true, false, cond, ◌&&◌, ℕ, zero, suc, ◌<◌, T, eqb, length, get_or}
use Rattle.std.proofs.Common.{sym, ap, ◌∙◌, arith, eqb→eq}
use mathlib.Core.List.{List, [], ◌∷◌, map, zip, zip_with}
use Rattle.std.specs.Float.Ieee.Fits.{and_l, and_r}
use Rattle.std.specs.Float.Ieee.{of_bits, to_bits, add, sub, mul, le, eq}
use Rattle.units.specs.Rounding.{ceil}
use Rattle.lists.specs.Digits.{number, digits, signed, residue}
use Rattle.ieee.specs.Units.{value, nearest_float}
use Rattle.lists.specs.Every as L
use Rattle.lists.specs.Filter.{filter}
use Rattle.judge.specs.Judge.{fault_of, first_bad, first_fault, judged, zero_sign}
use Rattle.register.specs.Register.{enter, rounded}
use Rattle.register.specs.Merge.{merged}
use Rattle.extract.specs.Extract.{remainders, gathered, last_sum, largest, largest_with}
use Rattle.exponent.specs.Power.{power_of}
use Rattle.sound.specs.Sound as N
use Rattle.rounds.specs.Round as R
use Rattle.walk.specs.Walk as W
use Rattle.walk.specs.Before.{taken_before, stepped_before_after, stepped_before}
use Rattle.sums.specs.Sums as S
use Rattle.weights.specs.Weights as H
use Rattle.pairs.specs.Pairs as X
use Rattle.grade.specs.Grade as Q
use Rattle.kinds.specs.Limits.{doubles}
use Rattle.kinds.specs.Outcome.{outcome}
use Rattle.kinds.specs.Heard.{nowhere, at, Heard, refused, more, done, nearest, parts, accepted, count, rescued}
use Rattle.octets.specs.Octets.{eights, joined}
use Rattle.sheet.specs.Sheet.{sheet_of, read_of}
use Rattle.sheet.specs.Write.{written_of}
use Rattle.rescue.specs.Rescue.{rescued_of}
use Rattle.cases.specs.Calls.{Result, Case, given_state, walk_result, result_of}
use Rattle.cases.specs.Table.{table}
use Rattle.cases.specs.Bounds.{bounds}
use Rattle.cases.specs.Faults.{faults}
use Rattle.cases.specs.PairRows.{pairs}
use Rattle.cases.specs.Largest.{outside, witness, largests}

-- ---- what is heard, as numbers, and back
code : Heard → List ℕ
code (refused k nowhere) = 0 ∷ k ∷ []
code (refused k (at p)) = 1 ∷ k ∷ p ∷ []
code (more s t u n b r e l m) = 2 ∷ s ∷ t ∷ u ∷ n ∷ b ∷ r ∷ e ∷ l ∷ m ∷ []
code (done x r) = 3 ∷ x ∷ r ∷ []
code (nearest x) = 4 ∷ x ∷ []
code (parts true) = 5 ∷ []
code (parts false) = 6 ∷ []
code accepted = 7 ∷ []
code (count n) = 8 ∷ n ∷ []
code (rescued w t m o) = 9 ∷ w ∷ t ∷ m ∷ o ∷ []

decode : List ℕ → Heard
decode l =
    let tag = get_or l 0 0 in
    cond (eqb tag 0) (refused (get_or l 1 0) nowhere)
    (cond (eqb tag 1) (refused (get_or l 1 0) (at (get_or l 2 0)))
    (cond (eqb tag 2)
    (more (get_or l 1 0) (get_or l 2 0) (get_or l 3 0) (get_or l 4 0) (get_or l 5 0) (get_or l 6 0) (get_or l 7 0) (get_or l 8 0) (get_or l 9 0))
    (cond (eqb tag 3) (done (get_or l 1 0) (get_or l 2 0))
    (cond (eqb tag 4) (nearest (get_or l 1 0))
    (cond (eqb tag 5) (parts true)
    (cond (eqb tag 6) (parts false)
    (cond (eqb tag 7) accepted
    (cond (eqb tag 8) (count (get_or l 1 0))
    (rescued (get_or l 1 0) (get_or l 2 0) (get_or l 3 0) (get_or l 4 0))))))))))

decoded : (h : Heard) → decode (code h) ≡ h
unfolding decode code
decoded (refused k nowhere) = refl
decoded (refused k (at p)) = refl
decoded (more s t u n b r e l m) = refl
decoded (done x r) = refl
decoded (nearest x) = refl
decoded (parts true) = refl
decoded (parts false) = refl
decoded accepted = refl
decoded (count n) = refl
decoded (rescued w t m o) = refl

-- ---- the test
same : List ℕ → List ℕ → Bool
same [] [] = true
same [] (y ∷ ys) = false
same (x ∷ xs) [] = false
same (x ∷ xs) (y ∷ ys) = eqb x y && same xs ys

passes : Case → Bool
unfolding same code result_of
passes r = same (code (result_of r.call).answer) (code r.expected.answer) && same (result_of r.call).area r.expected.area

every : List Case → Bool
unfolding passes
every [] = true
every (r ∷ rs) = passes r && every rs

-- ---- the law
same_lists : (xs ys : List ℕ) → T (same xs ys) → xs ≡ ys
unfolding same
same_lists [] [] t = refl
same_lists [] (y ∷ ys) t = absurd t
same_lists (x ∷ xs) [] t = absurd t
same_lists (x ∷ xs) (y ∷ ys) t = λ i. eqb→eq x y (and_l (eqb x y) (same xs ys) t) i ∷ same_lists xs ys (and_r (eqb x y) (same xs ys) t) i

row_holds : (r : Case) → T (passes r) → result_of r.call ≡ r.expected
unfolding passes
row_holds r t = λ i. outcome (heard i) (area i)
  where
    a : Result
    a = result_of r.call

    b : Result
    b = r.expected

    codes : code a.answer ≡ code b.answer
    codes = same_lists (code a.answer) (code b.answer) (and_l (same (code a.answer) (code b.answer)) (same a.area b.area) t)

    heard : a.answer ≡ b.answer
    heard = sym (decoded a.answer) ∙ ap decode codes ∙ decoded b.answer

    area : a.area ≡ b.area
    area = same_lists a.area b.area (and_r (same (code a.answer) (code b.answer)) (same a.area b.area) t)

rows_hold : (rs : List Case) → T (every rs) → (k : ℕ) (d : Case) → k < length rs → result_of (get_or rs k d).call ≡ (get_or rs k d).expected
unfolding every
rows_hold [] t k d h = absurd (omega arith)
rows_hold (r ∷ rs) t zero d h = row_holds r (and_l (passes r) (every rs) t)
rows_hold (r ∷ rs) t (suc k) d h = rows_hold rs (and_r (passes r) (every rs) t) k d (omega arith)

computed : every table ≡ true
unfolding
    every table judged first_fault fault_of zero_sign L.every
    W.opened_after W.stepped_after W.taken W.rising W.rounds_from R.turned R.fresh R.scaled R.finished R.closed_by
    N.sound_sigma N.at_most N.sound_largest N.sound_numbers N.sound_pending N.bad_place N.sound N.gated remainders gathered last_sum largest largest_with
    power_of ceil
    S.nearest_after S.parts_after S.parts enter rounded number digits signed residue nearest_float value
    of_bits to_bits add sub mul le eq
computed = refl

computed_bounds : every bounds ≡ true
unfolding
    every bounds judged first_fault fault_of zero_sign L.every
    W.opened_after W.stepped_after W.taken W.rising W.rounds_from R.turned R.fresh R.scaled R.finished R.closed_by
    N.sound_sigma N.at_most N.sound_largest N.sound_numbers N.sound_pending N.bad_place N.sound N.gated remainders gathered last_sum largest largest_with
    power_of ceil
    S.nearest_after S.parts_after S.parts rounded merged number digits signed residue nearest_float value read_of eights written_of sheet_of joined rescued_of
    filter
    H.weight_good H.weight_of H.pattern_for H.total H.spread H.bad_weight H.weighed H.handed_after Q.other_side Q.grade_at Q.graded_after
    of_bits to_bits add sub mul le eq
computed_bounds = refl

computed_faults : every faults ≡ true
unfolding
    every faults judged first_fault fault_of W.opened_after W.stepped_after W.rounds_from W.rising
    N.sound_sigma N.at_most N.sound_largest N.sound_numbers N.sound_pending N.bad_place N.sound N.gated ceil
    S.nearest_after S.parts_after enter rounded merged number digits signed residue nearest_float value read_of eights written_of rescued_of filter
    H.weight_good H.weight_of H.pattern_for H.total H.spread H.bad_weight H.weighed H.handed_after Q.other_side Q.grade_at Q.graded_after
    of_bits to_bits le eq
computed_faults = refl

computed_pairs : every pairs ≡ true
unfolding
    every pairs zip zip_with first_bad X.pair_fault X.pairs_judged X.nearest_product X.products_of X.multiplied_after X.weighted_after value of_bits to_bits
computed_pairs = refl

computed_largests : every largests ≡ true
unfolding
    every largests W.stepped_after W.taken R.turned R.fresh R.scaled R.finished R.closed_by
    N.sound_sigma N.at_most N.sound_largest N.sound_numbers N.sound_pending N.bad_place N.sound N.gated remainders gathered last_sum largest largest_with
    power_of ceil
    nearest_float value of_bits to_bits add sub mul le eq
computed_largests = refl

pub table_holds : (k : ℕ) (d : Case) → k < length table → result_of (get_or table k d).call ≡ (get_or table k d).expected
table_holds k d h = rows_hold table (rw computed tt) k d h

pub bounds_hold : (k : ℕ) (d : Case) → k < length bounds → result_of (get_or bounds k d).call ≡ (get_or bounds k d).expected
bounds_hold k d h = rows_hold bounds (rw computed_bounds tt) k d h

pub faults_hold : (k : ℕ) (d : Case) → k < length faults → result_of (get_or faults k d).call ≡ (get_or faults k d).expected
faults_hold k d h = rows_hold faults (rw computed_faults tt) k d h

pub pairs_hold : (k : ℕ) (d : Case) → k < length pairs → result_of (get_or pairs k d).call ≡ (get_or pairs k d).expected
pairs_hold k d h = rows_hold pairs (rw computed_pairs tt) k d h

pub largests_hold : (k : ℕ) (d : Case) → k < length largests → result_of (get_or largests k d).call ≡ (get_or largests k d).expected
largests_hold k d h = rows_hold largests (rw computed_largests tt) k d h

-- rule DR6's witness in the walk as it was before: the same step restarts, with sigma from the 2^-60 of the block that wasn't pending
pub witness_before : walk_result (stepped_before doubles (given_state witness) 7 1 (map (of_bits doubles.format) outside))
    ≡ outcome (more 0x3CB0000000000000 0 0 129 7 1 7 0 0) outside
unfolding
    stepped_before_after taken_before R.turned R.fresh R.scaled R.finished R.closed_by
    N.sound_sigma N.at_most N.sound_largest N.sound_numbers N.sound_pending N.bad_place N.sound N.gated remainders gathered last_sum largest power_of ceil
    nearest_float value of_bits to_bits add sub mul le eq
witness_before = refl
