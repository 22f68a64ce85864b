-- `weights::share::write` meets its contract: the places passed hold the new weights, and what is left goes to those to come. Assumes nothing.
use Prim.Native.Nat.{◌<◌}
use native.Mathlib.Omega.{arith}
use lib.ListN.{length}
use Rattle.kinds.specs.Limits.{doubles}
use Rattle.weights.proofs.LoopLaws.{staying_length, written_small, written_next, written_end}
use Rattle.weights.proofs.share.write.Goals as goal
use Rattle.weights.proofs.share.write.Invariants.{stay}

pub pattern-requires : goal.pattern-requires
pattern-requires c =
    let a = c.args in
    let inside : c.loop-i.i < length (stay a.list.now a.leaver) = rw (staying_length doubles a.list.now a.leaver) c.loop-i-test.true in
    let room : c.loop-i.i < length c.loop-i.out = omega arith in
    rw (c.share.ensures, c.gets-g.ensures, c.weight_at-k.ensures.0) (written_small c.loop-i.invariant inside room)

pub loop-i-preserved : goal.loop-i-preserved
loop-i-preserved c =
    let a = c.args in
    let inside : c.loop-i.i < length (stay a.list.now a.leaver) = rw (staying_length doubles a.list.now a.leaver) c.loop-i-test.true in
    let room : c.loop-i.i < length c.loop-i.out = omega arith in
    rw (c.pattern.ensures, c.share.ensures, c.gets-g.ensures, c.weight_at-k.ensures.0) (written_next c.loop-i.invariant inside room)

pub returns : goal.returns
returns c =
    let a = c.args in
    written_end c.loop-i.invariant (rw (staying_length doubles a.list.now a.leaver) c.loop-i-test.false) (omega arith)
