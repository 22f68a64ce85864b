-- `sum_calls::inner::nearest` meets its contract: what is refused is one of the table's. Assumes nothing.
use Rattle.std.proofs.Common.{sym, subst}
use Rattle.kinds.proofs.KnownLaws.{figures}
use Rattle.arrays.specs.Inner.{NearestRefusal}
use Rattle.sum_calls.proofs.SumArraysLaws.{nearest_refusal}
use Rattle.sum_calls.proofs.inner.nearest.Goals as goal

pub nearest-requires-2 : goal.nearest-requires-2
nearest-requires-2 g c =
    let few = (figures g.met.F.Floating.known).few in
    let ps = g.F.Floating.patterns c.args.list.now in
    (c.if-out-ne1.false, subst NearestRefusal (sym c.nearest.ensures) (nearest_refusal g.F.Floating.width few ps))
