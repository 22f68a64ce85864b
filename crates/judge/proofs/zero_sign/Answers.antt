-- `judge::zero_sign` meets its contract: the patterns passed are all that of -0, so the first other one decides, and where there is none the length. Assumes
-- nothing.
use Rattle.std.specs.Prelude.{◌≡◌, ℕ, ltb, ◌==◌, Bool, not, true, length, get_or}
use Rattle.std.proofs.Common.{sym, ap, ◌∙◌, arith, eq-eqb}
use Rattle.std.proofs.lemmas.Bool.Decides.{nat_tests}
use Rattle.lists.specs.Every.{looked_none, looked_next}
use Rattle.kinds.proofs.Areas.{read_length, read_place}
use Rattle.kinds.proofs.KnownLaws.{figures}
use Rattle.judge.specs.Judge.{minus_pattern}
use Rattle.judge.proofs.ZeroLaws.{sign_stops, sign_ends}
use Rattle.judge.proofs.zero_sign.Goals as goal

some : {b : Bool} (n : ℕ) → b ≡ (n == 0) → not b ≡ ltb 0 n
some n e = rw e (grind (arith, nat_tests))

pub loop-p-init : goal.loop-p-init
loop-p-init g c = looked_none

pub returns-then-word-SIGN : goal.returns-then-word-SIGN
returns-then-word-SIGN g c =
    let i = c.loop-p.p-index in
    let p = g.F.Floating.pattern in
    let read = g.F.Floating.patterns in
    let each = g.met.F.Floating.each_pattern in
    let K = figures g.met.F.Floating.known in
    let x = read_place p read each c.args.list.now i c.p-item.result 0 c.p-item.is c.loop-p-test.true in
    let e : c.word.result ≡ get_or (read c.args.list.now) i 0 = c.word.ensures.word ∙ x in
    sign_stops g.F.Floating.width _ _ c.loop-p.invariant (rw (read_length p read each c.args.list.now) c.loop-p-test.true)
    (rw (← e, ← K.sign, ← c.SIGN.ensures) c.if-word-SIGN.true)

pub loop-p-preserved : goal.loop-p-preserved
loop-p-preserved g c =
    let i = c.loop-p.p-index in
    let p = g.F.Floating.pattern in
    let read = g.F.Floating.patterns in
    let each = g.met.F.Floating.each_pattern in
    let W = g.F.Floating.width in
    let x = read_place p read each c.args.list.now i c.p-item.result 0 c.p-item.is c.loop-p-test.true in
    let e : c.word.result ≡ get_or (read c.args.list.now) i 0 = c.word.ensures.word ∙ x in
    let m : minus_pattern W ≡ get_or (read c.args.list.now) i 0 =
    sym (figures g.met.F.Floating.known).sign ∙ sym c.SIGN.ensures ∙ sym c.if-word-SIGN.false ∙ e in
    looked_next c.loop-p.invariant 0 (rw (read_length p read each c.args.list.now) c.loop-p-test.true) true (sym (eq-eqb (minus_pattern W) _ m))

pub returns : goal.returns
returns g c =
    let n = read_length g.F.Floating.pattern g.F.Floating.patterns g.met.F.Floating.each_pattern c.args.list.now in
    some (length c.args.list.now) c.is_empty.ensures ∙ ap (ltb 0) (sym n) ∙ sign_ends g.F.Floating.width _ _ c.loop-p.invariant (rw n c.loop-p-test.false)
