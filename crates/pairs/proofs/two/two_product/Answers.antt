-- `pairs::two::two_product` meets its contract: it is Algorithm 1.1, operation by operation. Assumes nothing.
use mathlib.Core.Path.{refl}
use Rattle.kinds.specs.Limits.{doubles}
use lib.Ieee.{mul, sub}
use Rattle.ieee.specs.ErrorFree.{product_error}
use Rattle.pairs.proofs.two.two_product.Goals as goal

pub returns : goal.returns
unfolding product_error
returns c =
    let a = c.split-f.ensures in
    let b = c.split-g.ensures in
    let k = doubles.format in
    let x = mul k c.args.a c.args.b in
    (refl, λ i. sub k (mul k (a.1 i) (b.1 i)) (sub k (sub k (sub k x (mul k (a.0 i) (b.0 i))) (mul k (a.1 i) (b.0 i))) (mul k (a.0 i) (b.1 i))))
