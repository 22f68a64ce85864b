-- `rescue::entries::write_marks` meets its contract: the places passed hold the marks of their entries, and the others what they held. Assumes nothing.
use Rattle.std.proofs.Common.{◌≡◌, ◌<◌, refl, sym, ap, ◌∙◌, arith, length, get_or, drop, take_all}
use Rattle.lists.proofs.Front.{store_map}
use Rattle.kinds.specs.Limits.{doubles}
use Rattle.octets.specs.Octets.{big}
use Rattle.octets.proofs.EightsLaws.{eights_length}
use Rattle.sheet.specs.Sheet.{patterns_of}
use Rattle.rescue.specs.Rescue.{mark_of}
use Rattle.rescue.proofs.EntryLaws.{entry_inside, entry_at}
use Rattle.rescue.proofs.entries.write_marks.Goals as goal

pub loop-i-init : goal.loop-i-init
loop-i-init c = refl

pub loop-i-preserved : goal.loop-i-preserved
loop-i-preserved c =
    let a = c.args in
    let i = c.loop-i.i in
    let h : i < a.n = omega arith in
    let ps = patterns_of a.n (drop 5 a.damaged.now) in
    let j : i < length ps = entry_inside a.damaged.now a.n i h in
    let m : i < length a.marks.now = omega arith in
    let e : c.mark.result ≡ mark_of doubles (get_or ps i 0) =
    c.mark.ensures ∙ ap (mark_of doubles) (sym (entry_at a.damaged.now a.n i h c.big_endian.ensures)) in
    rw (e, c.loop-i.invariant) (store_map (mark_of doubles) ps a.marks.now i 0 0 j m)

pub returns : goal.returns
returns c =
    let a = c.args in
    let ps = patterns_of a.n (drop 5 a.damaged.now) in
    let n : length ps ≡ a.n = eights_length big a.n (drop 5 a.damaged.now) in
    let e : c.loop-i.i ≡ a.n = omega arith in
    c.loop-i.invariant ∙ rw (e, take_all a.n ps (omega arith))
