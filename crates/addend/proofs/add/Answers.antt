-- `addend::add` meets its contract: a positive number is added at its place, and a negative one's magnitude taken there. Assumes nothing.
use Rattle.std.specs.Prelude.{◌≤◌, ◌<◌}
use Rattle.std.proofs.Common.{◌∙◌, arith}
use Rattle.std.specs.Float.Ieee.{top}
use Rattle.kinds.proofs.KnownLaws.{figures}
use Rattle.addend.proofs.RegisterWords.{held, rises, falls, units_plus, units_minus}
use Rattle.addend.proofs.add.Goals as goal

pub returns-then-word-SIGN : goal.returns-then-word-SIGN
returns-then-word-SIGN g c =
    let h : g.F.Floating.pattern c.args.p < top g.F.Floating.width.format =
    omega (arith, (figures g.met.F.Floating.known).sign, c.SIGN.ensures, c.word.ensures.word, c.if-word-SIGN.true) in
    rw (units_plus g.F.Floating.width c.requires.1 (rw c.word.ensures.word at c.place-at.ensures) h)
    (rises (held c.requires.0 c.slice_known-1.given) (held (c.add_at.auto.words ∙ c.requires.0) c.type_inv.words) c.add_at.ensures)

pub returns-else-word-SIGN : goal.returns-else-word-SIGN
returns-else-word-SIGN g c =
    let h : top g.F.Floating.width.format ≤ g.F.Floating.pattern c.args.p =
    omega (arith, (figures g.met.F.Floating.known).sign, c.SIGN.ensures, c.word.ensures.word, c.if-word-SIGN.false) in
    rw (units_minus g.F.Floating.width c.requires.1 (rw c.word.ensures.word at c.place-at.ensures) h)
    (falls (held c.requires.0 c.slice_known-1.given) (held (c.sub_at.auto.words ∙ c.requires.0) c.type_inv.words) c.sub_at.ensures)
