-- `judge::fault` meets its contract: patterns without their sign are in the order of their magnitudes. Assumes nothing.
use Rattle.std.specs.Prelude.{◌≡◌, ◌%◌}
use Rattle.std.specs.Float.Ieee.{top}
use Rattle.std.proofs.Common.{sym, ◌∙◌, arith}
use Rattle.kinds.proofs.KnownLaws.{figures}
use Rattle.judge.specs.FaultLaws.{pattern_0, pattern_2, pattern_3}
use Rattle.judge.proofs.fault.Goals as goal

pub returns-then-INFINITY-magnitude : goal.returns-then-INFINITY-magnitude
returns-then-INFINITY-magnitude g c =
    let K = figures g.met.F.Floating.known in
    let e : c.word-magnitude.result ≡ g.F.Floating.pattern c.args.p % top g.F.Floating.width.format = c.word-magnitude.ensures.word ∙ c.unsigned.ensures in
    sym (pattern_2 _ K.proper _ (rw (← e, ← K.infinity, ← c.INFINITY.ensures) c.if-INFINITY-magnitude.true))

pub returns-then-MAGNITUDE-magnitude : goal.returns-then-MAGNITUDE-magnitude
returns-then-MAGNITUDE-magnitude g c =
    let K = figures g.met.F.Floating.known in
    let e : c.word-magnitude.result ≡ g.F.Floating.pattern c.args.p % top g.F.Floating.width.format = c.word-magnitude.ensures.word ∙ c.unsigned.ensures in
    sym
    (pattern_3 _ K.proper _
    (rw (← e, ← K.infinity, ← c.INFINITY.ensures) (omega (arith, c.if-INFINITY-magnitude.false)))
    (rw (← e, ← K.magnitude, ← c.MAGNITUDE.ensures) c.if-MAGNITUDE-magnitude.true))

pub returns : goal.returns
returns g c =
    let K = figures g.met.F.Floating.known in
    let e : c.word-magnitude.result ≡ g.F.Floating.pattern c.args.p % top g.F.Floating.width.format = c.word-magnitude.ensures.word ∙ c.unsigned.ensures in
    sym (pattern_0 _ K.proper _ (rw (← e, ← K.magnitude, ← c.MAGNITUDE.ensures) (omega (arith, c.if-MAGNITUDE-magnitude.false))))
