-- `sheet::read` meets its contract: each return is a case of the definition, and a count above the limit is never multiplied. Assumes nothing.
use mathlib.Core.Path.{◌≡◌, sym, ap, ◌∙◌}
use mathlib.Core.List.{◌++◌}
use native.Mathlib.Omega.{arith}
use lib.ListN.{drop}
use Rattle.kinds.specs.Limits.{doubles}
use Rattle.kinds.specs.Outcome.{outcome}
use Rattle.kinds.specs.Sheet.{Read}
use Rattle.sheet.specs.Sheet.{version_of, count_of, patterns_of}
use Rattle.sheet.proofs.SheetLaws.{read_no_header, read_version, read_many, read_short, read_long, read_no_room, read_all}
use Rattle.sheet.proofs.read.Goals as goal

pub returns-then-sheet-lt-HEADER : goal.returns-then-sheet-lt-HEADER
returns-then-sheet-lt-HEADER c =
    let a = c.args in
    sym (read_no_header doubles a.sheet.now a.area.now (omega arith))

pub returns-then-h-ne-VERSION : goal.returns-then-h-ne-VERSION
returns-then-h-ne-VERSION c =
    let a = c.args in
    sym (read_version doubles a.sheet.now a.area.now (omega arith) (λ e. c.if-h-ne-VERSION.true (c.read_header-h.ensures.0 ∙ e)))

pub returns-then-n-gt-LENGTH : goal.returns-then-n-gt-LENGTH
returns-then-n-gt-LENGTH c =
    let a = c.args in
    let n : c.read_header-h.result.count ≡ count_of a.sheet.now = c.read_header-h.ensures.1 in
    let v : version_of a.sheet.now ≡ 1 = sym c.read_header-h.ensures.0 ∙ c.if-h-ne-VERSION.false in
    sym (read_many doubles a.sheet.now a.area.now (omega arith) v (omega arith))

pub returns-then-sheet-size : goal.returns-then-sheet-size
returns-then-sheet-size c =
    let a = c.args in
    let n : c.read_header-h.result.count ≡ count_of a.sheet.now = c.read_header-h.ensures.1 in
    let v : version_of a.sheet.now ≡ 1 = sym c.read_header-h.ensures.0 ∙ c.if-h-ne-VERSION.false in
    sym (read_short doubles a.sheet.now a.area.now (omega arith) v (omega arith) (omega arith))

pub returns-then-size-sheet : goal.returns-then-size-sheet
returns-then-size-sheet c =
    let a = c.args in
    let n : c.read_header-h.result.count ≡ count_of a.sheet.now = c.read_header-h.ensures.1 in
    let v : version_of a.sheet.now ≡ 1 = sym c.read_header-h.ensures.0 ∙ c.if-h-ne-VERSION.false in
    sym (read_long doubles a.sheet.now a.area.now (omega arith) v (omega arith) (omega arith))

pub returns-then-area-n : goal.returns-then-area-n
returns-then-area-n c =
    let a = c.args in
    let n : c.read_header-h.result.count ≡ count_of a.sheet.now = c.read_header-h.ensures.1 in
    let v : version_of a.sheet.now ≡ 1 = sym c.read_header-h.ensures.0 ∙ c.if-h-ne-VERSION.false in
    sym (read_no_room doubles a.sheet.now a.area.now (omega arith) v (omega arith) (omega arith) (omega arith))

pub returns : goal.returns
returns c =
    let a = c.args in
    let n : c.read_header-h.result.count ≡ count_of a.sheet.now = c.read_header-h.ensures.1 in
    let v : version_of a.sheet.now ≡ 1 = sym c.read_header-h.ensures.0 ∙ c.if-h-ne-VERSION.false in
    ap (outcome (Read c.read_header-h.result.count)) c.copy.ensures
    ∙ (λ i. outcome (Read (n i)) (patterns_of (n i) (drop 5 a.sheet.now) ++ drop (n i) a.area.now))
    ∙ sym (read_all doubles a.sheet.now a.area.now (omega arith) v (omega arith) (omega arith) (omega arith))
