-- `pairs::two::multiply` meets its contract: a zero makes +0 twice, and for other pairs Algorithm 1.1 finds the product and its error. Assumes nothing.
use mathlib.Core.Path.{◌≡◌, sym, ap, ◌∙◌}
use mathlib.Core.Bool.{false, not, ◌||◌}
use Prim.Native.Nat.{ℕ, ◌%◌}
use lib.Dec.{T, eqb}
use lib.Ieee.{Float, top, mul, add, of_bits, to_bits, is_nan, nan_bits}
use lib.Ieee.Bits.{nan_bits_is}
use Rattle.kinds.specs.Limits.{doubles}
use Rattle.ieee.specs.ErrorFree.{product_error}
use Rattle.ieee.proofs.Finite.{finite_no_nan}
use Rattle.pairs.specs.Limits.{double_pairs}
use Rattle.pairs.specs.Pairs.{Pair, product_of, error_of, pair_fault}
use Rattle.pairs.specs.Table.{Finite}
use Rattle.pairs.proofs.FaultLaws.{pair_0}
use Rattle.pairs.proofs.PairLaws.{product_mul, error_add, product_number, error_number, tested_zero, tested_first, tested_second}
use Rattle.pairs.proofs.Instances.{roomy_doubles}
use Rattle.pairs.proofs.two.multiply.Goals as goal

pub returns-then-p-q : goal.returns-then-p-q
returns-then-p-q c =
    let a = c.args in
    let z = tested_zero double_pairs roomy_doubles (a.p, a.q) c.requires c.if-p-q.true in
    (sym z.0, sym z.1)

no_nan : (p : ℕ) → Finite double_pairs p → T (not (nan_bits doubles.format p))
no_nan p t = rw (nan_bits_is doubles.format p) (finite_no_nan (of_bits doubles.format p) t)

pub float_from_bits-p : goal.float_from_bits-p
float_from_bits-p c =
    let a = c.args in
    no_nan a.p ((pair_0 double_pairs (a.p, a.q)).0 c.requires).0.0

pub float_from_bits-q : goal.float_from_bits-q
float_from_bits-q c =
    let a = c.args in
    no_nan a.q ((pair_0 double_pairs (a.p, a.q)).0 c.requires).1.0

-- past the test Algorithm 1.1's two numbers are the pair's
module _ (d : Pair) (ok : pair_fault double_pairs d ≡ 0) (t : (eqb (d.0 % top doubles.format) 0 || eqb (d.1 % top doubles.format) 0) ≡ false) where
  product_is : {x : Float} → x ≡ mul doubles.format (of_bits doubles.format d.0) (of_bits doubles.format d.1)
      → (x ≡ product_of doubles.format d) × T (not (is_nan x))
  product_is e =
      let A = tested_first double_pairs roomy_doubles d ok t in
      let B = tested_second double_pairs roomy_doubles d ok t in
      let s = e ∙ sym (product_mul double_pairs roomy_doubles d A B) in
      (s, rw s (finite_no_nan _ (product_number double_pairs roomy_doubles d A B).fini))

  error_is : {y : Float} → y ≡ product_error doubles.format (of_bits doubles.format d.0) (of_bits doubles.format d.1)
      → let z = add doubles.format y (of_bits doubles.format 0) in
      (z ≡ error_of doubles.format d) × T (not (is_nan z))
  error_is e =
      let A = tested_first double_pairs roomy_doubles d ok t in
      let B = tested_second double_pairs roomy_doubles d ok t in
      let s = ap (λ (y : Float). add doubles.format y (of_bits doubles.format 0)) e ∙ sym (error_add double_pairs roomy_doubles d A B) in
      (s, rw s (finite_no_nan _ (error_number double_pairs roomy_doubles d A B).fini))

pub float_to_bits-result : goal.float_to_bits-result
float_to_bits-result c = (product_is (c.args.p, c.args.q) c.requires c.if-p-q.false c.two_product-two.ensures.0).1

pub float_to_bits-result-2 : goal.float_to_bits-result-2
float_to_bits-result-2 c = (error_is (c.args.p, c.args.q) c.requires c.if-p-q.false c.two_product-two.ensures.1).1

pub returns : goal.returns
returns c =
    let d : Pair = (c.args.p, c.args.q) in
    let x = product_is d c.requires c.if-p-q.false c.two_product-two.ensures.0 in
    let y = error_is d c.requires c.if-p-q.false c.two_product-two.ensures.1 in
    (ap (to_bits doubles.format) x.0, ap (to_bits doubles.format) y.0)
