-- `pairs::weighted::total` meets its contract: after i pairs the words are those of the start and the sum of the numbers of the first i. Assumes nothing.
use borrow.Author.Rules.{rules}
use mathlib.Core.Path.{sym, ap, ◌∙◌}
use mathlib.Core.List.{zip}
use Prim.Native.Nat.{ℕ}
use native.Mathlib.Omega.{arith}
use lib.Dec.{T}
use lib.IntN.{◌+ℤ◌}
use lib.ListN.{length, length-append}
use lib.Ieee.{of_bits, to_bits}
use lib.Ieee.Scale.{finite}
use Rattle.std.proofs.lemmas.Slice.Zip.{zip_end}
use Rattle.kinds.specs.Limits.{doubles}
use Rattle.words.specs.Words.{whole_of, words_of}
use Rattle.addend.specs.Addend.{units_of}
use Rattle.addend.proofs.RegisterWords.{held}
use Rattle.pairs.specs.Pairs.{Pair, product_of, error_of}
use Rattle.pairs.proofs.ZipLaws.{zip_length, zip_at, zip_takes}
use Rattle.pairs.proofs.TotalLaws.{total_begins, total_goes_on, total_ends}
use Rattle.pairs.proofs.Instances.{pair_64}
use Rattle.pairs.proofs.weighted.total.Goals as goal

pub loop-p-init : goal.loop-p-init
loop-p-init c = (c.requires.2, total_begins (zip c.args.a.now c.args.b.now) (held c.requires.2 c.type_inv.words))

pub multiply-two-requires : goal.multiply-two-requires
multiply-two-requires c =
    let t = zip_takes c.args.a.now c.args.b.now c.requires.0.alike c.loop-p.yielded c.into_iter-p-iterator.result c.loop-p.p-iterator c.next.new.self
    c.next.result (search rules) (search rules) c.loop-p.yielded_by (c.in-Some.field-0-0, c.in-Some.field-0-1) c.in-Some.is c.next.ensures.steps in
    rw t.1 at (c.requires.1.none (length c.loop-p.yielded) t.0)

pub add-requires : goal.add-requires
add-requires c =
    let p : Pair = (c.in-Some.field-0-0.now, c.in-Some.field-0-1.now) in
    let t = zip_takes c.args.a.now c.args.b.now c.requires.0.alike c.loop-p.yielded c.into_iter-p-iterator.result c.loop-p.p-iterator c.next.new.self
    c.next.result (search rules) (search rules) c.loop-p.yielded_by (c.in-Some.field-0-0, c.in-Some.field-0-1) c.in-Some.is c.next.ensures.steps in
    let n = pair_64 p (rw t.1 at (c.requires.1.none (length c.loop-p.yielded) t.0)) in
    (c.loop-p.invariant.0, rw c.multiply-two.ensures.0 n.product.fini)

pub add-requires-in-loop-p : goal.add-requires-in-loop-p
add-requires-in-loop-p c =
    let p : Pair = (c.in-Some.field-0-0.now, c.in-Some.field-0-1.now) in
    let t = zip_takes c.args.a.now c.args.b.now c.requires.0.alike c.loop-p.yielded c.into_iter-p-iterator.result c.loop-p.p-iterator c.next.new.self
    c.next.result (search rules) (search rules) c.loop-p.yielded_by (c.in-Some.field-0-0, c.in-Some.field-0-1) c.in-Some.is c.next.ensures.steps in
    let n = pair_64 p (rw t.1 at (c.requires.1.none (length c.loop-p.yielded) t.0)) in
    let x : T (finite (of_bits doubles.format c.multiply-two.result.product)) = rw c.multiply-two.ensures.0 n.product.fini in
    let y : T (finite (of_bits doubles.format c.multiply-two.result.error)) = rw c.multiply-two.ensures.1 n.error.fini in
    (c.add.auto.words ∙ c.loop-p.invariant.0, search rules)

pub loop-p-preserved : goal.loop-p-preserved
loop-p-preserved c =
    let a = c.args.a.now in
    let b = c.args.b.now in
    let n = length c.loop-p.yielded in
    let t = zip_takes c.args.a.now c.args.b.now c.requires.0.alike c.loop-p.yielded c.into_iter-p-iterator.result c.loop-p.p-iterator c.next.new.self
    c.next.result (search rules) (search rules) c.loop-p.yielded_by (c.in-Some.field-0-0, c.in-Some.field-0-1) c.in-Some.is c.next.ensures.steps in
    let at = sym (zip_at a b c.requires.0.alike 0 0 n t.0 ∙ t.1) in
    let x = c.multiply-two.ensures.0 ∙ ap (λ (p : Pair). to_bits doubles.format (product_of doubles.format p)) at in
    let y = c.multiply-two.ensures.1 ∙ ap (λ (p : Pair). to_bits doubles.format (error_of doubles.format p)) at in (
      c.add-in-loop-p.auto.words ∙ c.add.auto.words ∙ c.loop-p.invariant.0,
      rw (length-append c.loop-p.yielded _)
          (total_goes_on (whole_of c.args.words.now) (zip a b) (0, 0) n (rw (zip_length a b c.requires.0.alike) t.0) c.loop-p.invariant.1
          (c.add.ensures ∙ ap (λ (p : ℕ). words_of (whole_of c.loop-p.words +ℤ units_of doubles p)) x)
          (c.add-in-loop-p.ensures ∙ ap (λ (p : ℕ). words_of (whole_of c.add.new.words +ℤ units_of doubles p)) y)),
    )

pub returns : goal.returns
returns c =
    let a = c.args.a.now in
    let b = c.args.b.now in
    let e = zip_end a b c.loop-p.yielded c.into_iter-p-iterator.result c.loop-p.p-iterator c.next.new.self
    c.next.result (search rules) (search rules) c.loop-p.yielded_by c.in-None.is c.next.ensures.steps in
    total_ends (whole_of c.args.words.now) (zip a b) (length c.loop-p.yielded) (omega (arith, e, zip_length a b c.requires.0.alike, c.requires.0.alike))
    c.loop-p.invariant.1
