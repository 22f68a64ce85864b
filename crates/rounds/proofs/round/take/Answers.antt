-- `rounds::round::take` meets its contract: the part that is extracted is the block, cut at n. Assumes nothing.
use Rattle.std.specs.Prelude.{◌≡◌, List, ◌++◌, ◌+◌, ◌-◌, ◌*◌, ◌/◌, ◌<◌, min, length, take, drop, T, Float}
use Rattle.std.proofs.Common.{arith, sym, ap, ◌∙◌}
use Rattle.std.proofs.Math.Seq.{drop-drop}
use Rattle.std.specs.Float.Ieee.Scale.{finite}
use Rattle.extract.specs.Extract.{remainder_of, remainders, gathered, largest_with}
use Rattle.extract.proofs.AreaLaws.{read_join, read_take, read_drop}
use Rattle.kinds.specs.Answers.{as_state}
use Rattle.kinds.proofs.Areas.{read_length}
use Rattle.kinds.proofs.KnownLaws.{figures}
use Rattle.rounds.specs.Round.{block_of, turned, in_round}
use Rattle.rounds.proofs.CutLaws.{take_cut, drop_cut, each_part}
use Rattle.rounds.proofs.round.take.Goals as goal

pub extract-taken-requires : goal.extract-taken-requires
extract-taken-requires g c =
    let v = g.F.Floating.value in
    let P : Float → Type 0 = λ x. T (finite (remainder_of g.F.Floating.width.format (v c.args.s.sigma) x)) in
    let part = each_part v g.F.Floating.values g.met.F.Floating.each_value P in
    (c.requires.3.fini, c.requires.3.positive, part _ _ _ c.requires.3.remainders)

pub without-pending-requires : goal.without-pending-requires
without-pending-requires g c =
    let K = figures g.met.F.Floating.known in
    let inside : c.args.block < (c.args.s.n + 63) / 64 = rw K.block at c.requires.2 in
    omega (arith, inside, c.requires.0, K.few)

pub returns : goal.returns
unfolding turned
returns g c =
    let W = g.F.Floating.width in
    let f = W.format in
    let v = g.F.Floating.value in
    let read = g.F.Floating.values in
    let each = g.met.F.Floating.each_value in
    let a = c.args in
    let s = as_state v a.s in
    let xs = a.work.now in
    let ys = c.extract-taken.new.block in
    let from = 64 * a.block in
    let k = c.min-to.result - from in
    let b = (figures g.met.F.Floating.known).block in
    let e : c.min-to.result ≡ min (from + 64) (length (read xs)) =
    c.min-to.ensures ∙ ap (min (from + 64)) (sym (read_length v read each xs ∙ c.requires.1)) in
    let inside : a.block < (a.s.n + 63) / 64 = rw b at c.requires.2 in
    let d : from + k ≡ c.min-to.result = omega (arith, inside, c.min-to.ensures) in
    let p : read (take k (drop from xs)) ≡ block_of W a.block (read xs) =
    rw (b, read_take v read each k (drop from xs), read_drop v read each from xs, e) (take_cut (read xs) from 64) in
    let q = c.extract-taken.ensures.0 ∙ ap (gathered f s.sigma s.tau) p in
    let m = c.extract-taken.ensures.1 ∙ ap (λ (l : List Float). largest_with f s.largest (remainders f s.sigma l)) p in (
      c.in_round.ensures ∙ (λ i. in_round s (q i) (m i) (c.without-pending.ensures i)),
      read_join v read each (take from xs) (ys ++ drop k (drop from xs))
          ∙ rw (
            read_join v read each ys (drop k (drop from xs)),
            c.extract-taken.ensures.2,
            p,
            read_take v read each from xs,
            read_drop v read each k (drop from xs),
            read_drop v read each from xs,
            drop-drop,
            d,
            e,
            drop_cut (read xs) from 64,
            b,
          ),
    )
