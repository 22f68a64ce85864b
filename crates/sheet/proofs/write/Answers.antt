-- `sheet::write` meets its contract: each return is a case of the definition, and a length above the limit is never multiplied. Assumes nothing.
use mathlib.Core.Path.{sym, ap, ◌∙◌}
use Prim.Native.Nat.{◌+◌, ◌*◌}
use native.Mathlib.Omega.{arith}
use lib.ListN.{length}
use Rattle.kinds.specs.Limits.{doubles}
use Rattle.kinds.specs.Outcome.{outcome}
use Rattle.sheet.specs.Written.{Wrote}
use Rattle.sheet.proofs.WriteCases.{write_many, write_no_room, write_all}
use Rattle.sheet.proofs.LayoutLaws.{sheet_laid}
use Rattle.sheet.proofs.write.Goals as goal

pub returns-then-list-gt-LENGTH : goal.returns-then-list-gt-LENGTH
returns-then-list-gt-LENGTH c =
    let a = c.args in
    sym (write_many doubles a.list.now a.sheet.now (omega arith))

pub returns-then-sheet-bytes : goal.returns-then-sheet-bytes
returns-then-sheet-bytes c =
    let a = c.args in
    sym (write_no_room doubles a.list.now a.sheet.now (omega arith) (omega arith))

pub returns : goal.returns
returns c =
    let a = c.args in
    ap (outcome (Wrote (5 + 8 * length a.list.now)))
    (c.patterns.ensures ∙ rw c.header.ensures (sheet_laid a.list.now a.sheet.now))
    ∙ sym (write_all doubles a.list.now a.sheet.now (omega arith) (omega arith))
