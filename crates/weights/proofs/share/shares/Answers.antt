-- `weights::share::shares` meets its contract: the shares of the places passed and of those to come add up to no more than the leaver had. Assumes nothing.
use mathlib.Core.Path.{◌≡◌, ap, ◌∙◌}
use mathlib.Core.List.{List}
use Prim.Native.Nat.{ℕ}
use native.Mathlib.Omega.{arith}
use lib.ListN.{length, get_or, length-map}
use Rattle.lists.proofs.Front.{map_at}
use Rattle.kinds.specs.Limits.{doubles}
use Rattle.weights.specs.Weights.{share}
use Rattle.weights.proofs.LoopLaws.{staying_length, total_next, total_end}
use Rattle.weights.proofs.share.shares.Goals as goal
use Rattle.weights.proofs.share.shares.Invariants.{all, stay}

all_length : (ps : List ℕ) (at w : ℕ) → length (all ps at w) ≡ length ps
all_length ps at w = length-map (stay ps at) (share w) ∙ staying_length doubles ps at

pub loop-i-preserved : goal.loop-i-preserved
loop-i-preserved c =
    let a = c.args in
    let stayers = stay a.list.now a.leaver in
    let h = c.loop-i-test.true in
    let e : c.share-sum.result ≡ share a.w (get_or stayers c.loop-i.i 0) = c.share-sum.ensures ∙ ap (share a.w) c.weight_at.ensures.0 in
    let n = total_next (all a.list.now a.leaver a.w) c.loop-i.i (rw (all_length a.list.now a.leaver a.w) h) in
    let m = map_at (share a.w) stayers c.loop-i.i 0 0 (rw (staying_length doubles a.list.now a.leaver) h) in
    omega (arith, c.loop-i.invariant, n, m, e)

pub returns : goal.returns
returns c =
    let a = c.args in
    omega (arith, c.loop-i.invariant, total_end (all a.list.now a.leaver a.w) c.loop-i.i (rw (all_length a.list.now a.leaver a.w) c.loop-i-test.false))
