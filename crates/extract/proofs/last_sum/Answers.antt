-- `extract::last_sum` meets its contract: after each call of the closure the sum is that of the numbers passed. Assumes nothing.
use Rattle.std.specs.Prelude.{◌≡◌, ◌∷◌, []}
use Rattle.std.proofs.Common.{sym, ◌∙◌, rules}
use Rattle.std.specs.Float.Ieee.{add}
use Rattle.std.proofs.lemmas.Fn.{fold_over, fronts, slice_gives}
use Rattle.extract.specs.Extract.{last_sum}
use Rattle.extract.specs.ExtractLaws.{sum_next}
use Rattle.extract.proofs.AreaLaws.{read_join}
use Rattle.extract.proofs.last_sum.Goals as goal

pub returns : goal.returns
unfolding last_sum
returns g c =
    let f = g.F.Floating.width.format in
    let v = g.F.Floating.value in
    let read = g.F.Floating.values in
    let each = g.met.F.Floating.each_value in
    let all : c.iter.result.rest.now ≡ c.args.work.now = c.iter.ensures.rest in
    fold_over fronts (λ x. x.now) _ (λ ys t. v t ≡ last_sum f (read ys)) _
    (λ ys a x b f' j k.
    let s : v b ≡ add f (v a) (v x.now) = search rules in
    (s ∙ rw (j, read_join v read each ys (x.now ∷ []), each (x.now ∷ []), sum_next), search rules))
    c.iter.result c.args.work.now _ c.fold.result (rw (sym all) (slice_gives c.iter.result)) (rw (each []) (search rules)) c.fold.ensures.ran
