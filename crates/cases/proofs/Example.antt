-- Rule P5's sheet through the program's lines, computed: whatever its areas held, they are the rule's three lines. And rule T6's list, whose two sums
-- differ: each stands in its own line; rule T3's, whose sums are -0; and a refused list, with the place of its fault. Assumes nothing.
use Rattle.std.specs.Prelude.{◌≡◌, Bool, true, List, [], ◌∷◌, ◌++◌, ℕ, ◌≤◌, eqb, length, take, Float}
use Rattle.std.proofs.Math.Path.{refl, ap}
use Rattle.std.proofs.Common.{◌∙◌, arith, eq-eqb, length-take-le}
use Rattle.std.proofs.Math.ListN.{drop}
use Rattle.std.specs.Float.{binary64}
use Rattle.std.specs.Float.Ieee.{of_bits, to_bits, add, sub, mul, le, eq}
use Rattle.units.specs.Rounding.{ceil}
use Rattle.lists.specs.Digits.{number}
use Rattle.ieee.specs.Units.{value, magnitude, nearest_float}
use Rattle.kinds.specs.Limits.{doubles, blocks_of}
use Rattle.kinds.specs.Outcome.{outcome}
use Rattle.kinds.specs.Step.{Done}
use Rattle.kinds.specs.Step as steps
use Rattle.kinds.specs.Nearest.{Sum}
use Rattle.kinds.specs.Sheet.{Read}
use Rattle.kinds.specs.Verdict.{Verdict}
use Rattle.kinds.specs.Verdict.{Good, Refused}
use Rattle.lists.specs.Every.{every}
use Rattle.judge.specs.Judge.{fault_of, first_fault, judged, zero_sign}
use Rattle.extract.specs.Extract.{remainders, gathered, last_sum, largest, largest_with}
use Rattle.exponent.specs.Power.{power_of}
use Rattle.sound.specs.Sound as N
use Rattle.rounds.specs.Round as R
use Rattle.walk.specs.Walk as W
use Rattle.sums.specs.Sums as S
use Rattle.sums.proofs.AnswerLaws.{nearest_good}
use Rattle.octets.specs.Octets.{eights}
use Rattle.sheet.specs.Sheet.{Reading, read_of}
use Rattle.sheet.proofs.SheetLaws.{read_all}
use Rattle.sheet.specs.Instances.{three, example_sheet}
use Rattle.lines.specs.Lines.{count_line, faithful_line, nearest_line, list_lines, printed, lines_after, lines_of}
use Rattle.lines.proofs.SumLaws.{lines_refused, lines_three}
use Rattle.lines.specs.Instances.{example_lines, unequal_lines, minus_lines}
use Rattle.lines.proofs.Instances.{three_lines, unequal_lines_lem, minus_lines_lem, refused_3_at_1}
use Rattle.cases.specs.Example.{unequal, minus_zeros}

abbrev one : Float
one = of_bits binary64 0x3FF0000000000000

abbrev three_zeros : List Float
three_zeros = of_bits binary64 0 ∷ of_bits binary64 0 ∷ of_bits binary64 0 ∷ []

-- a list is judged alike with every work area of its length
judged_alike : (ps : List ℕ) (v : Verdict) → judged doubles true true ps ≡ v → (xs : List Float) → length xs ≡ length ps
    → judged doubles (eqb (length xs) (length ps)) true ps ≡ v
judged_alike ps v a xs h = ap (λ (b : Bool). judged doubles b true ps) (eq-eqb (length xs) (length ps) h) ∙ a

walked : (ps : List ℕ) (v : Verdict) → judged doubles true true ps ≡ v → (xs : List Float) → length xs ≡ length ps
    → W.faithful_of doubles ps xs ≡ W.rounds_from doubles (blocks_of doubles (length ps)) 51 (W.opened_after doubles 0 v ps xs)
walked ps v a xs h =
    ap (λ (u : Verdict). W.rounds_from doubles (blocks_of doubles (length ps)) 51 (W.opened_after doubles 0 u ps xs)) (judged_alike ps v a xs h)

-- ---- rule P5's list
allowed : judged doubles true true three ≡ Good
unfolding judged first_fault fault_of magnitude of_bits
allowed = refl

run : (xs : List Float) → W.rounds_from doubles 1 51 (W.opened_after doubles 0 Good three xs) ≡ outcome (Done one 2) three_zeros
unfolding
    W.opened_after W.stepped_after W.taken W.rising W.rounds_from R.turned R.fresh R.scaled R.finished R.closed_by
    N.sound_sigma N.at_most N.sound_largest N.sound_numbers N.sound_pending N.bad_place N.sound N.gated remainders gathered last_sum largest largest_with
    power_of ceil
    nearest_float value of_bits to_bits add sub mul le eq
run xs = refl

walked_three : (xs : List Float) → length xs ≡ 3 → W.faithful_of doubles three xs ≡ outcome (Done one 2) three_zeros
walked_three xs h = walked three Good allowed xs h ∙ run xs

nearest_three : S.nearest_of doubles three ≡ Sum one
unfolding S.nearest_after nearest_float value of_bits
nearest_three = nearest_good doubles three allowed

one_pattern : to_bits binary64 one ≡ 0x3FF0000000000000
unfolding of_bits to_bits
one_pattern = refl

three_printed : (xs : List Float) → length xs ≡ 3 → list_lines three xs ≡ example_lines
three_printed xs h =
    lines_three three xs one 2 (ap (λ (w : W.Walked). w.answer) (walked_three xs h)) one nearest_three
    ∙ (λ i. count_line 3 ++ faithful_line (one_pattern i) 2 ++ nearest_line (one_pattern i))
    ∙ three_lines

abbrev above : Float
above = of_bits binary64 0x3FF0000000000001

unequal_allowed : judged doubles true true unequal ≡ Good
unfolding judged first_fault fault_of magnitude of_bits
unequal_allowed = refl

unequal_run : (xs : List Float) → (W.rounds_from doubles 1 51 (W.opened_after doubles 0 Good unequal xs)).answer ≡ Done one 1
unfolding
    W.opened_after W.stepped_after W.taken W.rising W.rounds_from R.turned R.fresh R.scaled R.finished R.closed_by
    N.sound_sigma N.at_most N.sound_largest N.sound_numbers N.sound_pending N.bad_place N.sound N.gated remainders gathered last_sum largest largest_with
    power_of ceil
    nearest_float value of_bits to_bits add sub mul le eq
unequal_run xs = refl

nearest_unequal : S.nearest_of doubles unequal ≡ Sum above
unfolding S.nearest_after nearest_float value of_bits
nearest_unequal = nearest_good doubles unequal unequal_allowed

above_pattern : to_bits binary64 above ≡ 0x3FF0000000000001
unfolding of_bits to_bits
above_pattern = refl

pub unequal_printed : (xs : List Float) → length xs ≡ 3 → list_lines unequal xs ≡ unequal_lines
unequal_printed xs h =
    lines_three unequal xs one 1 (ap (λ (w : W.Walked). w.answer) (walked unequal Good unequal_allowed xs h) ∙ unequal_run xs) above nearest_unequal
    ∙ (λ i. count_line 3 ++ faithful_line (one_pattern i) 1 ++ nearest_line (above_pattern i))
    ∙ unequal_lines_lem

abbrev minus : Float
minus = of_bits binary64 0x8000000000000000

minus_allowed : judged doubles true true minus_zeros ≡ Good
unfolding judged first_fault fault_of magnitude of_bits
minus_allowed = refl

minus_run : (xs : List Float) → (W.rounds_from doubles 1 51 (W.opened_after doubles 0 Good minus_zeros xs)).answer ≡ Done minus 0
unfolding zero_sign every W.opened_after W.rounds_from W.rising R.fresh largest magnitude nearest_float of_bits
minus_run xs = refl

nearest_minus : S.nearest_of doubles minus_zeros ≡ Sum minus
unfolding zero_sign every S.nearest_after nearest_float value of_bits
nearest_minus = nearest_good doubles minus_zeros minus_allowed

minus_pattern_lem : to_bits binary64 minus ≡ 0x8000000000000000
unfolding of_bits to_bits
minus_pattern_lem = refl

pub minus_printed : (xs : List Float) → length xs ≡ 2 → list_lines minus_zeros xs ≡ minus_lines
minus_printed xs h =
    lines_three minus_zeros xs minus 0 (ap (λ (w : W.Walked). w.answer) (walked minus_zeros Good minus_allowed xs h) ∙ minus_run xs) minus nearest_minus
    ∙ (λ i. count_line 2 ++ faithful_line (minus_pattern_lem i) 0 ++ nearest_line (minus_pattern_lem i))
    ∙ minus_lines_lem

-- ---- a list that is refused: 1, and the first double above 2^1000
abbrev pub faulty : List ℕ
faulty = 0x3FF0000000000000 ∷ 0x7E70000000000001 ∷ []

faulty_refused : judged doubles true true faulty ≡ Refused 3 1
unfolding judged first_fault fault_of magnitude of_bits
faulty_refused = refl

faulty_run : (xs : List Float) → (W.rounds_from doubles 1 51 (W.opened_after doubles 0 (Refused 3 1) faulty xs)).answer ≡ steps.Refused 3 1
unfolding W.opened_after W.rounds_from W.rising
faulty_run xs = refl

-- `refused 3 at 1`
pub faulty_printed : (xs : List Float) → length xs ≡ 2 → list_lines faulty xs
    ≡ 114 ∷ 101 ∷ 102 ∷ 117 ∷ 115 ∷ 101 ∷ 100 ∷ 32 ∷ 51 ∷ 32 ∷ 97 ∷ 116 ∷ 32 ∷ 49 ∷ 10 ∷ []
faulty_printed xs h =
    lines_refused faulty xs 3 1 (ap (λ (w : W.Walked). w.answer) (walked faulty (Refused 3 1) faulty_refused xs h) ∙ faulty_run xs) ∙ refused_3_at_1

-- ---- rule P5's sheet
module _ (numbers : List ℕ) (work : List Float) (text : List ℕ) (h : 3 ≤ length numbers) (k : 3 ≤ length work) where
  read_three : read_of doubles example_sheet numbers ≡ outcome (Read 3) (three ++ drop 3 numbers)
  unfolding eights number
  read_three = read_all doubles example_sheet numbers (omega arith) refl (omega arith) refl h

  pub example_printed : lines_of example_sheet numbers work text
      ≡ printed 68 (three ++ drop 3 numbers) (three_zeros ++ drop 3 work) (example_lines ++ drop 68 text)
  unfolding lines_after
  example_printed =
      let l = three_printed (take 3 work) (length-take-le 3 work k) in
      let w = walked_three (take 3 work) (length-take-le 3 work k) in
      ap (λ (r : Reading). lines_after r.answer r.area work text) read_three
      ∙ (λ i. printed (length (l i)) (three ++ drop 3 numbers) ((w i).area ++ drop 3 work) (l i ++ drop (length (l i)) text))
