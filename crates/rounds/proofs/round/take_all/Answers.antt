-- `rounds::round::take_all` meets its contract: the extraction is that of the whole area, and tau in eight sums is tau in one. Assumes nothing.
use Rattle.std.specs.Prelude.{◌+◌, ◌^◌, ◌≤◌, length, Float}
use Rattle.std.proofs.Common.{arith, sym, ap, ◌∙◌}
use Rattle.units.proofs.Ceiling.{ceil_ge}
use Rattle.kinds.specs.Answers.{as_state}
use Rattle.kinds.specs.Limits.{exponent_of}
use Rattle.extract.specs.Extract.{gathered}
use Rattle.rounds.specs.Round.{in_round}
use Rattle.rounds.specs.Begun.{begun_takable}
use Rattle.rounds.proofs.GroupedSums.{grouped_same}
use Rattle.rounds.proofs.round.take_all.Goals as goal

pub extract_grouped-taken-requires : goal.extract_grouped-taken-requires
extract_grouped-taken-requires g c = let p = begun_takable c.requires.2 in (p.fini, p.positive, p.remainders)

pub returns : goal.returns
returns g c =
    let f = g.F.Floating.width.format in
    let s = as_state g.F.Floating.value c.args.s in
    let xs = g.F.Floating.values c.args.work.now in
    let B = c.requires.2 in
    let e = c.extract_grouped-taken.ensures in
    let l : length xs ≤ 2 ^ exponent_of s.n = omega (arith, B.count, ceil_ge (s.n + 2)) in
    let t = e.0 ∙ grouped_same B.scale xs B.work l ∙ ap (λ (t : Float). gathered f s.sigma t xs) (sym B.tau) in
    (c.in_round.ensures ∙ (λ i. in_round s (t i) (e.1 i) 0), e.2)
