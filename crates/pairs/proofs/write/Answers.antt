-- `pairs::write` meets its contract: after i pairs the first 2 i places hold their products and errors. Assumes nothing.
use mathlib.Core.Path.{◌≡◌, sym, ap, ◌∙◌}
use mathlib.Core.List.{zip}
use Prim.Native.Nat.{◌+◌, ◌*◌}
use native.Mathlib.Omega.{arith}
use lib.ListN.{get_or, set}
use lib.Ieee.{to_bits}
use Rattle.kinds.specs.Limits.{doubles}
use Rattle.pairs.specs.Pairs.{Pair, product_of, error_of}
use Rattle.pairs.proofs.ZipLaws.{zip_length, zip_at}
use Rattle.pairs.proofs.WriteLaws.{written_none, written_next, written_all}
use Rattle.pairs.proofs.write.Goals as goal

pub loop-i-init : goal.loop-i-init
loop-i-init c = written_none doubles.format (zip c.args.a.now c.args.b.now) c.args.out.now

pub loop-i-preserved : goal.loop-i-preserved
loop-i-preserved c =
    let a = c.args.a.now in
    let b = c.args.b.now in
    let i = c.loop-i.i in
    let h = c.loop-i-test.true in
    let at : get_or (zip a b) i (0, 0) ≡ (get_or a i 0, get_or b i 0) = zip_at a b c.requires.0.alike 0 0 i h in
    let x = c.multiply-two.ensures.0 ∙ sym (ap (λ (p : Pair). to_bits doubles.format (product_of doubles.format p)) at) in
    let y = c.multiply-two.ensures.1 ∙ sym (ap (λ (p : Pair). to_bits doubles.format (error_of doubles.format p)) at) in
    (λ j. set (set (c.loop-i.invariant j) (2 * i) (x j)) (2 * i + 1) (y j))
    ∙ written_next doubles.format (zip a b) c.args.out.now (0, 0) i (rw (zip_length a b c.requires.0.alike) h) (omega (arith, h, c.requires.2))

pub returns : goal.returns
returns c =
    let a = c.args.a.now in
    let b = c.args.b.now in
    let h = c.loop-i-test.false in
    c.loop-i.invariant
    ∙ written_all doubles.format (zip a b) c.args.out.now (0, 0) c.loop-i.i (rw (zip_length a b c.requires.0.alike) h) (omega (arith, h, c.requires.2))
