-- `walk::opening::first` meets its contract: the greatest pattern is that of mu, and the walk starts afresh from it. Assumes nothing.
use Rattle.std.specs.Prelude.{Bool, pos}
use Rattle.std.proofs.Common.{ap, sym, ◌∙◌, arith, ne_eqb}
use Rattle.std.proofs.lemmas.List.{length-map}
use Rattle.std.specs.Float.Ieee.{of_bits}
use Rattle.ieee.specs.Units.{nearest_float}
use Rattle.ieee.proofs.Pattern.{pattern_no_nan}
use Rattle.kinds.proofs.Areas.{read_length}
use Rattle.judge.specs.Judge.{floats}
use Rattle.judge.proofs.FirstFaultLaws.{first_good}
use Rattle.extract.specs.Extract.{largest}
use Rattle.extract.specs.LargestLaws.{Positive, Stands}
use Rattle.extract.proofs.LargestWithLaws.{stands_positive}
use Rattle.rounds.specs.Round.{fresh}
use Rattle.rounds.proofs.FreshRound.{some_left}
use Rattle.rounds.proofs.SigmaLaws.{mu_small}
use Rattle.walk.proofs.OpeningLaws.{greatest_stands, allowed_small}
use Rattle.walk.proofs.opening.first.Goals as goal

pub from_bits-mu-requires : goal.from_bits-mu-requires
from_bits-mu-requires g c =
    let W = g.F.Floating.width in
    let ps = g.F.Floating.patterns c.args.list.now in
    let stands : Stands W.format (g.F.Floating.pattern c.args.pattern) (largest W.format (floats W ps)) =
    rw c.requires.2 (greatest_stands W ps ((first_good W ps).0 c.requires.1)) in
    pattern_no_nan W.format stands.below

pub from_mu-requires : goal.from_mu-requires
from_mu-requires g c =
    let W = g.F.Floating.width in
    let f = W.format in
    let list = c.args.list.now in
    let ps = g.F.Floating.patterns list in
    let xs = floats W ps in
    let n = read_length g.F.Floating.pattern g.F.Floating.patterns g.met.F.Floating.each_pattern list in
    let allowed = (first_good W ps).0 c.requires.1 in
    let stands : Stands f (g.F.Floating.pattern c.args.pattern) (largest f xs) = rw c.requires.2 (greatest_stands W ps allowed) in
    let P : Positive f (g.F.Floating.value c.from_bits-mu.result) (largest f xs) = rw c.from_bits-mu.ensures (stands_positive f stands) in (
      c.requires.0,
      mu_small f xs P (allowed_small allowed),
      P.sign,
      λ l. omega (arith, some_left f xs (ne_eqb (largest f xs) 0 (omega (arith, P.units))), length-map ps (of_bits f), n),
    )

pub returns : goal.returns
returns g c =
    let W = g.F.Floating.width in
    let f = W.format in
    let list = c.args.list.now in
    let ps = g.F.Floating.patterns list in
    let n = read_length g.F.Floating.pattern g.F.Floating.patterns g.met.F.Floating.each_pattern list in
    let stands : Stands f (g.F.Floating.pattern c.args.pattern) (largest f (floats W ps)) =
    rw c.requires.2 (greatest_stands W ps ((first_good W ps).0 c.requires.1)) in
    let P : Positive f (g.F.Floating.value c.from_bits-mu.result) (largest f (floats W ps)) = rw c.from_bits-mu.ensures (stands_positive f stands) in
    let e = c.zero-zero.ensures ∙ ap (λ (s : Bool). nearest_float f s (pos 0)) c.zero_sign.ensures in
    c.from_mu.ensures ∙ (λ i. fresh W (e i) (sym n i) (P.units i) 0 c.args.ensemble (c.zero-told.ensures i))
