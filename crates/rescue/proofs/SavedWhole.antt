-- The whole answer of a rescue that saved something. Assumes nothing.
use Rattle.std.specs.Prelude.{◌≡◌, List, ◌++◌, map, ℕ, ◌+◌, ◌*◌, ◌≤◌, length, drop}
use Rattle.std.proofs.Common.{sym, ap, ◌∙◌}
use Rattle.kinds.specs.Limits.{Width}
use Rattle.sheet.specs.Sheet.{sheet_of, count_of}
use Rattle.sheet.specs.Table.{Begun}
use Rattle.rescue.specs.Rescue.{taken_of, entries_of, kept_of, mark_of, report_of, rescuing, rescued_of}
use Rattle.rescue.specs.RescueLaws.{answer_of}
use Rattle.rescue.proofs.RescueLaws.{rescue_when, given}
use Rattle.rescue.proofs.RescueCases.{rescue_saved}
use Rattle.rescue.specs.declared.Report.{Report}
use Rattle.rescue.specs.Rescued.{Saved}

module _ (W : Width) (bytes sheet marks : List ℕ) {r : Report} {out ms : List ℕ} (e : rescued_of W bytes sheet marks ≡ rescuing (Saved r) out ms) where
  abbrev entries : List ℕ
  entries = entries_of bytes

  abbrev kept : List ℕ
  kept = kept_of W entries

  pub was_given : Begun bytes × (count_of bytes ≤ W.length) × (5 + 8 * length (kept_of W (entries_of bytes)) ≤ length sheet) × (taken_of bytes ≤ length marks)
  was_given = given W bytes sheet marks ((rescue_when W bytes sheet marks (Saved r)).0 (ap answer_of e))

  pub full : rescuing (Saved r) out ms
      ≡ rescuing (Saved (report_of W bytes)) (sheet_of kept ++ drop (5 + 8 * length kept) sheet) (map (mark_of W) entries ++ drop (taken_of bytes) marks)
  full = let G = was_given in sym e ∙ rescue_saved W bytes sheet marks G.0 G.1 G.2 G.3
