-- `rescue::entries::write_kept` meets its contract: behind the five bytes of a header stand the first of the patterns that are kept, as many as the entries
-- passed have. Assumes nothing.
use Rattle.std.proofs.Common.{◌≡◌, ◌<◌, sym, ◌∙◌, arith, length, get_or, take, drop, take-append-drop, take_all, length-take-le}
use Rattle.lists.proofs.Filter.{sifted_none, sifted_inside, sifted_at, sifted_pass, sifted_fail, sifted_all}
use Rattle.kinds.specs.Limits.{doubles}
use Rattle.octets.specs.Octets.{big_endian, big}
use Rattle.octets.proofs.OctetsLaws.{big_length}
use Rattle.octets.proofs.EightsLaws.{eights_length, joined_none, joined_behind}
use Rattle.sheet.specs.Sheet.{patterns_of}
use Rattle.rescue.specs.Rescue.{kept_of}
use Rattle.rescue.proofs.EntryLaws.{entry_inside, entry_at, entry_kept, entry_dropped}
use Rattle.rescue.proofs.entries.write_kept.Goals as goal

pub loop-i-init : goal.loop-i-init
loop-i-init c =
    let a = c.args in
    (omega arith, sifted_none, rw (joined_none (big_endian 8)) (sym (take-append-drop 5 a.sheet.now)))

pub write_big_endian-requires : goal.write_big_endian-requires
write_big_endian-requires c =
    let a = c.args in
    let i = c.loop-i.i in
    let h : i < a.n = omega arith in
    let j : i < length (patterns_of a.n (drop 5 a.damaged.now)) = entry_inside a.damaged.now a.n i h in
    let t = entry_kept a.damaged.now a.n i h c.big_endian-p.ensures c.fault.result c.fault.ensures c.is_none.ensures c.if-is_none.true in
    let k : c.loop-i.kept < length (kept_of doubles (patterns_of a.n (drop 5 a.damaged.now))) = sifted_inside c.loop-i.invariant.1 0 j t in
    omega arith

pub loop-i-preserved : goal.loop-i-preserved
loop-i-preserved c =
    let a = c.args in
    let i = c.loop-i.i in
    let k = c.loop-i.kept in
    let s = a.sheet.now in
    let ps = patterns_of a.n (drop 5 a.damaged.now) in
    let h : i < a.n = omega arith in
    let j : i < length ps = entry_inside a.damaged.now a.n i h in
    let r = c.big_endian-p.ensures in
    let f = c.fault.ensures in
    elim c.if-is_none.branch [
      | goal.then-is_none g ↦
          let K = kept_of doubles ps in
          let t = entry_kept a.damaged.now a.n i h r c.fault.result f c.is_none.ensures g.if-is_none.true in
          let v : get_or K k 0 ≡ c.big_endian-p.result = sifted_at c.loop-i.invariant.1 0 j t ∙ entry_at a.damaged.now a.n i h r in
          let b =
          joined_behind (big_endian 8) (big_length 8) (take 5 s) 5 (length-take-le 5 s (omega arith)) K s k (sifted_inside c.loop-i.invariant.1 0 j t) in
          rw (g.sheet-is, g.kept-is)
          (omega arith, sifted_pass c.loop-i.invariant.1 0 j t, g.write_big_endian.ensures ∙ rw (c.loop-i.invariant.2, ← v) b)
      | goal.else-is_none g ↦
          let t = entry_dropped a.damaged.now a.n i h r c.fault.result f c.is_none.ensures g.if-is_none.false in
          rw (g.sheet-is, g.kept-is) (omega arith, sifted_fail c.loop-i.invariant.1 0 j t, c.loop-i.invariant.2)
    ]

pub returns : goal.returns
returns c =
    let a = c.args in
    let ps = patterns_of a.n (drop 5 a.damaged.now) in
    let n : length ps ≡ a.n = eights_length big a.n (drop 5 a.damaged.now) in
    let e : c.loop-i.kept ≡ length (kept_of doubles ps) = sifted_all c.loop-i.invariant.1 (omega arith) in
    c.loop-i.invariant.2 ∙ rw (e, take_all (length (kept_of doubles ps)) (kept_of doubles ps) (omega arith))
