-- A rescue that saved something: its report, and that the entries, the count and the bytes add up (rule H10); the sheet and the marks that were written, and
-- that what stood behind them stays (rule H11); and what each mark says. Assumes nothing.
use Rattle.std.specs.Prelude.{◌≡◌, ◌↔◌, not, List, map, ℕ, ◌+◌, ◌*◌, ◌≤◌, ◌<◌, T, length, take, drop, get_or}
use Rattle.std.proofs.Common.{sym, ap, ◌∙◌, arith, take_at, drop_at, get_or-take}
use Rattle.std.specs.Float.Ieee.Scale.{finite}
use Rattle.std.proofs.lemmas.List.{length-map}
use Rattle.lists.proofs.Front.{length_front, map_at}
use Rattle.lists.proofs.Filter.{filter_others}
use Rattle.kinds.specs.Limits.{Width}
use Rattle.judge.specs.Table.{float_of, size_of, most}
use Rattle.judge.specs.Judge.{fault_free}
use Rattle.octets.specs.Octets.{big}
use Rattle.octets.proofs.EightsLaws.{eights_length}
use Rattle.sheet.specs.Sheet.{sheet_of, count_of}
use Rattle.sheet.proofs.SheetLaws.{sheet_length}
use Rattle.rescue.specs.Rescue.{taken_of, entries_of, kept_of, dropped_of, mark_of, marked_kept, report_of, Rescuing, rescuing, rescued_of}
use Rattle.rescue.specs.RescueLaws.{answer_of}
use Rattle.rescue.proofs.Marks.{mark_0, mark_1, mark_2, kept_marked}
use Rattle.rescue.specs.declared.Report.{Report}
use Rattle.rescue.specs.Rescued.{Saved}
use Rattle.rescue.proofs.SavedWhole.{was_given, full}

module _ (W : Width) (bytes sheet marks : List ℕ) {r : Report} {out ms : List ℕ} (e : rescued_of W bytes sheet marks ≡ rescuing (Saved r) out ms) where
  abbrev entries : List ℕ
  entries = entries_of bytes

  abbrev kept : List ℕ
  kept = kept_of W entries

  -- ---- rule H10
  pub report_is : r ≡ report_of W bytes
  report_is = let s : Saved r ≡ Saved (report_of W bytes) = ap answer_of (full W bytes sheet marks e) in cc

  pub written_kept : r.written ≡ 5 + 8 * length (kept_of W (entries_of bytes))
  written_kept = ap (λ (x : Report). x.written) report_is

  taken_is : r.taken ≡ taken_of bytes
  taken_is = ap (λ (x : Report). x.taken) report_is

  pub kept_or_dropped : length (kept_of W (entries_of bytes)) + length (dropped_of W (entries_of bytes)) ≡ r.taken
  kept_or_dropped = filter_others (fault_free W) entries ∙ eights_length big (taken_of bytes) (drop 5 bytes) ∙ sym taken_is

  pub taken_or_missing : r.taken + r.missing ≡ count_of bytes
  taken_or_missing = omega (arith, taken_is, ap (λ (x : Report). x.missing) report_is)

  pub every_byte : 5 + 8 * r.taken + r.over ≡ length bytes
  every_byte = omega (arith, taken_is, ap (λ (x : Report). x.over) report_is, (was_given W bytes sheet marks e).0.header)

  -- rule H7: where entries are missing, no whole one is left behind
  pub none_left : 0 < r.missing → r.over < 8
  none_left m =
      omega (arith, taken_is, ap (λ (x : Report). x.missing) report_is, ap (λ (x : Report). x.over) report_is, (was_given W bytes sheet marks e).0.header)

  -- ---- rule H8, and rule H11 for the sheet
  size : length (sheet_of kept) ≡ r.written
  size = sheet_length kept ∙ sym written_kept

  pub saved_sheet : take r.written out ≡ sheet_of (kept_of W (entries_of bytes))
  saved_sheet = ap (λ (x : Rescuing). take r.written x.sheet) (full W bytes sheet marks e) ∙ take_at (sheet_of kept) _ r.written size

  pub sheet_behind : drop r.written out ≡ drop r.written sheet
  sheet_behind =
      ap (λ (x : Rescuing). drop r.written x.sheet) (full W bytes sheet marks e) ∙ drop_at (sheet_of kept) _ r.written size
      ∙ ap (λ (n : ℕ). drop n sheet) (sym written_kept)

  pub sheet_stays : length out ≡ length sheet
  sheet_stays =
      ap (λ (x : Rescuing). length x.sheet) (full W bytes sheet marks e)
      ∙ length_front (sheet_of kept) sheet (5 + 8 * length kept) (sheet_length kept) (was_given W bytes sheet marks e).2

  -- ---- rule H9, and rule H11 for the marks
  many : length (map (mark_of W) entries) ≡ r.taken
  many = length-map entries (mark_of W) ∙ eights_length big (taken_of bytes) (drop 5 bytes) ∙ sym taken_is

  pub saved_marks : take r.taken ms ≡ map (mark_of W) (entries_of bytes)
  saved_marks = ap (λ (x : Rescuing). take r.taken x.marks) (full W bytes sheet marks e) ∙ take_at (map (mark_of W) entries) _ r.taken many

  pub marks_behind : drop r.taken ms ≡ drop r.taken marks
  marks_behind =
      ap (λ (x : Rescuing). drop r.taken x.marks) (full W bytes sheet marks e) ∙ drop_at (map (mark_of W) entries) _ r.taken many
      ∙ ap (λ (n : ℕ). drop n marks) (sym taken_is)

  pub marks_stay : length ms ≡ length marks
  marks_stay =
      ap (λ (x : Rescuing). length x.marks) (full W bytes sheet marks e)
      ∙ length_front (map (mark_of W) entries) marks (taken_of bytes) (many ∙ taken_is) (was_given W bytes sheet marks e).3

  -- the kept entries are those that are marked 0, in their order
  pub kept_by_marks : kept_of W (entries_of bytes) ≡ marked_kept (take r.taken ms) (entries_of bytes)
  kept_by_marks = kept_marked W entries ∙ ap (λ (l : List ℕ). marked_kept l entries) (sym saved_marks)

  -- what the mark of the entry at a place says of its number
  module _ (j : ℕ) (h : j < r.taken) where
    abbrev p : ℕ
    p = get_or entries j 0

    mark_at : get_or ms j 0 ≡ mark_of W p
    mark_at =
        let l : j < length entries = omega (arith, eights_length big (taken_of bytes) (drop 5 bytes), taken_is) in
        sym (get_or-take r.taken ms j 0 h) ∙ ap (λ (l : List ℕ). get_or l j 0) saved_marks ∙ map_at (mark_of W) entries j 0 0 l

    pub marked_0 : (get_or ms j 0 ≡ 0) ↔ (T (finite (float_of W (get_or (entries_of bytes) j 0))) × (size_of W (get_or (entries_of bytes) j 0) ≤ most W))
    marked_0 = rw mark_at (mark_0 W p)

    pub marked_1 : (get_or ms j 0 ≡ 1) ↔ T (not (finite (float_of W (get_or (entries_of bytes) j 0))))
    marked_1 = rw mark_at (mark_1 W p)

    pub marked_2 : (get_or ms j 0 ≡ 2) ↔ (T (finite (float_of W (get_or (entries_of bytes) j 0))) × (most W < size_of W (get_or (entries_of bytes) j 0)))
    marked_2 = rw mark_at (mark_2 W p)
