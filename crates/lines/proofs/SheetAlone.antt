-- What is printed is a function of the sheet alone: areas that are long enough may hold anything. Assumes nothing.
use Rattle.std.specs.Prelude.{◌≡◌, true, ℕ, suc, ◌≤◌, eqb, Float}
use Rattle.std.proofs.Math.Path.{refl, sym, ap}
use Rattle.std.proofs.Common.{◌∙◌, arith}
use mathlib.Core.List.{List, ◌++◌}
use Rattle.std.proofs.Math.ListN.{length, take, drop}
use Rattle.std.proofs.Math.Seq.{length-take-le}
use Rattle.kinds.specs.Limits.{doubles, blocks_of}
use Rattle.kinds.specs.Sheet.{Sheet}
use Rattle.kinds.specs.Sheet.{Read, Refused}
use Rattle.kinds.specs.Verdict.{Verdict}
use Rattle.kinds.specs.Verdict as verdicts
use Rattle.kinds.specs.Step.{Step}
use Rattle.kinds.specs.Step as steps
use Rattle.judge.specs.Judge.{judged}
use Rattle.sheet.specs.Sheet.{read_of}
use Rattle.sheet.specs.Table.{SheetWhen, no_header, other_version, too_many, too_short, too_long, no_room, all_read}
use Rattle.sheet.proofs.TableLaws.{sheet_when}
use Rattle.walk.specs.Walk.{Walked, opened_after, rounds_from, faithful_of}
use Rattle.walk.specs.OpeningLaws.{opened_refused}
use Rattle.walk.proofs.UndividedLaws.{faithful_refused}
use Rattle.rounds.specs.Instances.{doubles_fit}
use Rattle.sums.specs.Sums.{nearest_of}
use Rattle.lines.specs.Lines.{sum_lines, list_lines, Printed, lines_after, lines_of}
use Rattle.lines.proofs.LinesLaws.{read_few, read_list}

-- ---- the undivided call's answer is the same with every work area of the same length

-- what it answers once the list is judged
abbrev answer_after : List ℕ → List Float → Verdict → Step
answer_after ps zs v = (rounds_from doubles (blocks_of doubles (length ps)) (suc doubles.rounds) (opened_after doubles 0 v ps zs)).answer

faithful_same : (ps : List ℕ) (xs ys : List Float) → length xs ≡ length ys → (faithful_of doubles ps xs).answer ≡ (faithful_of doubles ps ys).answer
unfolding opened_after
faithful_same ps xs ys l = by (judged doubles (eqb (length xs) (length ps)) true ps) refl
  where
    other : judged doubles (eqb (length xs) (length ps)) true ps ≡ judged doubles (eqb (length ys) (length ps)) true ps
    other = ap (λ (n : ℕ). judged doubles (eqb n (length ps)) true ps) l

    refusal : (zs : List Float) (k p : ℕ) → judged doubles (eqb (length zs) (length ps)) true ps ≡ verdicts.Refused k p
        → (faithful_of doubles ps zs).answer ≡ steps.Refused k p
    refusal zs k p e =
        sym (ap (λ (w : Walked). w.answer) (faithful_refused doubles_fit 0 ps zs (steps.Refused k p) zs (opened_refused doubles 0 _ k p ps zs e) k p refl))

    by : (v : Verdict) → judged doubles (eqb (length xs) (length ps)) true ps ≡ v → (faithful_of doubles ps xs).answer ≡ (faithful_of doubles ps ys).answer
    by verdicts.Good e = ap (answer_after ps xs) e ∙ sym (ap (answer_after ps ys) (sym other ∙ e))
    by (verdicts.Refused k p) e = refusal xs k p e ∙ sym (refusal ys k p (sym other ∙ e))

list_same : (ps : List ℕ) (xs ys : List Float) → length xs ≡ length ys → list_lines ps xs ≡ list_lines ps ys
unfolding list_lines
list_same ps xs ys l = ap (λ (a : Step). sum_lines (length ps) a (nearest_of doubles ps)) (faithful_same ps xs ys l)

-- ---- the reader's answer, and what it reads, are the same with every area that has room
module _ (sheet numbers others : List ℕ) (h : doubles.length ≤ length numbers) (k : doubles.length ≤ length others) where
  row_same : {r : Sheet} → SheetWhen doubles sheet numbers r → SheetWhen doubles sheet others r
  row_same (no_header x) = no_header x
  row_same (other_version x v) = other_version x v
  row_same (too_many B m) = too_many B m
  row_same (too_short B f s) = too_short B f s
  row_same (too_long B f l) = too_long B f l
  row_same (no_room B f e s) = absurd (omega arith)
  row_same (all_read B f e s) = all_read B f e (omega arith)

  answer_same : (read_of doubles sheet numbers).answer ≡ (read_of doubles sheet others).answer
  answer_same =
      let a = (read_of doubles sheet numbers).answer in
      sym ((sheet_when doubles sheet others a).1 (row_same ((sheet_when doubles sheet numbers a).0 refl)))

  module _ (work works : List Float) (text : List ℕ) (l : doubles.length ≤ length work) (m : doubles.length ≤ length works) where
    text_same : (a : Sheet) → (read_of doubles sheet numbers).answer ≡ a
        → ((lines_of sheet numbers work text).count ≡ (lines_of sheet others works text).count)
        × ((lines_of sheet numbers work text).text ≡ (lines_of sheet others works text).text)
    unfolding lines_after
    text_same (Refused n p) e =
        let f = sym answer_same ∙ e in
        let one = ap (λ (a : Sheet). lines_after a (read_of doubles sheet numbers).area work text) e in
        let two = ap (λ (a : Sheet). lines_after a (read_of doubles sheet others).area works text) f in (
          ap (λ (q : Printed). q.count) one ∙ sym (ap (λ (q : Printed). q.count) two),
          ap (λ (q : Printed). q.text) one ∙ sym (ap (λ (q : Printed). q.text) two),
        )
    text_same (Read n) e =
        let f = sym answer_same ∙ e in
        let one = ap (λ (a : Sheet). lines_after a (read_of doubles sheet numbers).area work text) e in
        let two = ap (λ (a : Sheet). lines_after a (read_of doubles sheet others).area works text) f in
        let few = read_few sheet numbers work text refl n e in
        let p : take n (read_of doubles sheet numbers).area ≡ take n (read_of doubles sheet others).area =
        read_list sheet numbers work text refl n e ∙ sym (read_list sheet others works text refl n f) in
        let w : length (take n work) ≡ length (take n works) = length-take-le n work (omega arith) ∙ sym (length-take-le n works (omega arith)) in
        let s : list_lines (take n (read_of doubles sheet numbers).area) (take n work)
        ≡ list_lines (take n (read_of doubles sheet others).area) (take n works) =
        ap (λ (ps : List ℕ). list_lines ps (take n work)) p ∙ list_same (take n (read_of doubles sheet others).area) (take n work) (take n works) w in (
          ap (λ (q : Printed). q.count) one ∙ ap length s ∙ sym (ap (λ (q : Printed). q.count) two),
          ap (λ (q : Printed). q.text) one ∙ ap (λ (bytes : List ℕ). bytes ++ drop (length bytes) text) s ∙ sym (ap (λ (q : Printed). q.text) two),
        )

    pub sheet_alone : ((lines_of sheet numbers work text).count ≡ (lines_of sheet others works text).count)
        × ((lines_of sheet numbers work text).text ≡ (lines_of sheet others works text).text)
    sheet_alone = text_same (read_of doubles sheet numbers).answer refl
