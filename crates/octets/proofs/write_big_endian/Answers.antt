-- `octets::write_big_endian` meets its contract: the bytes from i on stand in front of what was behind all of them, and the rest is the number without them.
-- Assumes nothing.
use Rattle.std.proofs.Common.{◌≡◌, ◌+◌, ◌-◌, arith, div-one}
use Rattle.octets.proofs.OctetsLaws.{rest_next, big_written_none, big_written_next}
use Rattle.octets.proofs.write_big_endian.Goals as goal

pub loop-i-init : goal.loop-i-init
loop-i-init c =
    let a = c.args in
    let e : a.at + a.count - (a.at + a.count) ≡ 0 = omega arith in
    let z : a.count - 0 ≡ a.count = omega arith in
    (omega arith, rw (e, div-one), rw e (rw z at (big_written_none a.bytes.now a.at a.count a.v)))

pub loop-i-preserved : goal.loop-i-preserved
loop-i-preserved c =
    let a = c.args in
    let i = c.loop-i.i in
    let done = a.at + a.count - i in
    let more : a.at + a.count - (i - 1) ≡ done + 1 = omega arith in
    let here : a.at + (a.count - done) ≡ i = omega arith in
    let there : a.at + (a.count - 1 - done) ≡ i - 1 = omega arith in
    let left : a.at + (a.count - (done + 1)) ≡ i - 1 = omega arith in (
      omega arith,
      rw (c.loop-i.invariant.1, more) (rest_next done a.v),
      rw (c.loop-i.invariant.2, c.loop-i.invariant.1, more)
          (rw (here, there, left) at (big_written_next a.bytes.now a.at a.count a.v done (omega arith) (omega arith))),
    )

pub returns : goal.returns
returns c =
    let a = c.args in
    let e : c.loop-i.i ≡ a.at = omega arith in
    let n : a.at + a.count - a.at ≡ a.count = omega arith in
    rw (c.loop-i.invariant.2, e, n)
