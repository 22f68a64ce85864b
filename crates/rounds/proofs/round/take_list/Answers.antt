-- `rounds::round::take_list` meets its contract: the extraction is that of the whole list. Assumes nothing.
use Rattle.std.specs.Prelude.{not, T}
use Rattle.std.specs.Float.Ieee.{nan_bits}
use Rattle.lists.specs.Each.{each_from}
use Rattle.judge.specs.FaultLaws.{allowed_no_nan}
use Rattle.judge.proofs.FirstFaultLaws.{first_good}
use Rattle.rounds.proofs.round.take_list.Goals as goal

pub from_list-taken-requires : goal.from_list-taken-requires
from_list-taken-requires g c =
    let W = g.F.Floating.width in
    let p = c.requires.2 in
    let ps = g.F.Floating.patterns c.args.list.now in
    let A = (first_good W ps).0 c.requires.1 in
    (c.requires.0, p.fini, p.positive, each_from (λ q. T (not (nan_bits W.format q))) ps 0 (λ i h. allowed_no_nan W _ (A.none i h)), p.remainders)
