-- What is printed, case by case as the sheet is read, and how many numbers of an accepted sheet there are at most. Assumes nothing.
use Rattle.std.specs.Prelude.{◌≡◌, List, ◌++◌, ℕ, ◌≤◌, length, take, Float}
use Rattle.std.proofs.Common.{sym, subst, ◌∙◌, arith, length-append, take_at}
use Rattle.std.proofs.Math.Path.{ap}
use Rattle.std.proofs.Math.ListN.{drop}
use Rattle.kinds.specs.Limits.{doubles}
use Rattle.kinds.specs.Outcome.{outcome}
use Rattle.kinds.specs.Heard.{Refusal, place_of}
use Rattle.kinds.specs.Sheet.{Sheet}
use Rattle.kinds.specs.Sheet.{Read, Refused}
use Rattle.octets.specs.Octets.{big}
use Rattle.octets.proofs.EightsLaws.{eights_length}
use Rattle.sheet.specs.Sheet.{Reading, count_of, patterns_of, read_of}
use Rattle.sheet.specs.SheetLaws.{Readable}
use Rattle.sheet.proofs.SheetLaws.{readable, readable_read}
use Rattle.sheet.proofs.TableLaws.{sheet_when, sheet_refusal}
use Rattle.walk.specs.Walk.{faithful_of}
use Rattle.numerals.specs.Text.{Placed}
use Rattle.numerals.proofs.TextLaws.{first_end, first_text}
use Rattle.lines.specs.Lines.{refused_line, list_lines, Printed, printed, lines_after, lines_of}

module _ (sheet numbers : List ℕ) (work : List Float) (text : List ℕ) {answer : Sheet} {area : List ℕ}
    (e : outcome answer area ≡ read_of doubles sheet numbers) where
  lines_read : lines_after answer area work text ≡ lines_of sheet numbers work text
  lines_read = ap (λ (r : Reading). lines_after r.answer r.area work text) e

  -- a refused sheet
  pub sheet_refused : (k p : ℕ) {r : ℕ} {after : List ℕ} → answer ≡ Refused k p → Placed (refused_line k (place_of k p)) 0 text r after
      → printed r area work after ≡ lines_of sheet numbers work text
  unfolding lines_after
  sheet_refused k p s P =
      (λ i. printed (first_end P i) area work (first_text P i)) ∙ ap (λ (a : Sheet). lines_after a area work text) (sym s) ∙ lines_read

  pub read_refusal : (k p : ℕ) → answer ≡ Refused k p → Refusal doubles.length k p
  read_refusal k p s = sheet_refusal doubles sheet numbers ((sheet_when doubles sheet numbers (Refused k p)).0 (ap (λ (r : Reading). r.answer) (sym e) ∙ s))

  module _ (n : ℕ) (s : answer ≡ Read n) where
    -- a list that was read, with what its walk leaves
    pub sheet_accepted : {r : ℕ} {after : List ℕ} {left : List Float} → left ≡ (faithful_of doubles (take n area) (take n work)).area
        → Placed (list_lines (take n area) (take n work)) 0 text r after
        → printed r area (left ++ drop n work) after ≡ lines_of sheet numbers work text
    unfolding lines_after
    sheet_accepted l P =
        (λ i. printed (first_end P i) area (l i ++ drop n work) (first_text P i)) ∙ ap (λ (a : Sheet). lines_after a area work text) (sym s) ∙ lines_read

    count : count_of sheet ≡ n
    count =
        let r : read_of doubles sheet numbers ≡ outcome (Read n) area = sym e ∙ ap (λ (a : Sheet). outcome a area) s in
        let c : Read (count_of sheet) ≡ Read n =
        ap (λ (x : Reading). x.answer) (sym (readable_read doubles sheet numbers (readable doubles sheet numbers r)) ∙ r) in
        cc

    allowed : Readable doubles sheet numbers
    allowed = readable doubles sheet numbers (sym e ∙ ap (λ (a : Sheet). outcome a area) s)

    -- what was read
    pub read_list : take n area ≡ patterns_of n (drop 5 sheet)
    read_list =
        let l : area ≡ patterns_of (count_of sheet) (drop 5 sheet) ++ drop (count_of sheet) numbers =
        ap (λ (x : Reading). x.area) (e ∙ readable_read doubles sheet numbers allowed) in
        rw (l, count) (take_at (patterns_of n (drop 5 sheet)) (drop n numbers) n (eights_length big n (drop 5 sheet)))

    pub read_few : n ≤ doubles.length
    read_few = omega (arith, allowed.few, count)

    pub read_room : n ≤ length numbers
    read_room = omega (arith, allowed.room, count)

-- ---- what is printed lies in the text
inside : (answer : Sheet) (numbers : List ℕ) (work : List Float) (text : List ℕ) → (lines_after answer numbers work text).count
    ≤ length (lines_after answer numbers work text).text
unfolding lines_after
inside (Refused k p) numbers work text = rw length-append (omega arith)
inside (Read n) numbers work text = rw length-append (omega arith)

pub lines_inside : (sheet numbers : List ℕ) (work : List Float) (text : List ℕ) {r : ℕ} {ns : List ℕ} {xs : List Float} {after : List ℕ}
    → printed r ns xs after ≡ lines_of sheet numbers work text → r ≤ length after
lines_inside sheet numbers work text e =
    let r = read_of doubles sheet numbers in
    let f = inside r.answer r.area work text in
    subst (λ (p : Printed). p.count ≤ length p.text) (sym e) f
