-- `octets::big_endian` meets its contract: after i bytes the number is theirs and below 2^(8 i), so that eight of them fit. Assumes nothing.
use Rattle.std.proofs.Common.{◌≡◌, ◌+◌, ◌-◌, ◌∙◌, sym, arith, drop, get_or, get_or-drop}
use Rattle.std.proofs.lemmas.List.{get_or-take}
use Rattle.octets.proofs.OctetsLaws.{big_none, big_next, room, bound_next}
use Rattle.octets.proofs.big_endian.Goals as goal

pub loop-b-init : goal.loop-b-init
loop-b-init c = (sym (big_none c.args.bytes.now c.args.at), omega arith)

pub overflow_mul-v : goal.overflow_mul-v
overflow_mul-v c = omega (arith, room {b = 0} c.loop-b.invariant.1 (omega arith) (omega arith))

pub loop-b-preserved : goal.loop-b-preserved
loop-b-preserved c =
    let a = c.args in
    let i = c.loop-b.b-index in
    let next : c.wide.result ≡ get_or a.bytes.now (a.at + i) 0 =
    c.wide.ensures.0 ∙ get_or-take (a.at + a.count - a.at) (drop a.at a.bytes.now) i 0 (omega arith) ∙ get_or-drop a.at a.bytes.now i 0 in (
      rw (c.loop-b.invariant.0, next) (sym (big_next a.bytes.now a.at i (omega arith))),
      bound_next i c.loop-b.invariant.1 c.wide.ensures.1,
    )
