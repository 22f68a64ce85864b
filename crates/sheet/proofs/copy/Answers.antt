-- `sheet::copy` meets its contract: the places passed hold the sheet's patterns, and the others what they held. Assumes nothing.
use Rattle.std.proofs.Common.{List, ℕ, ◌++◌, arith, ap, sym, drop}
use Rattle.lists.proofs.Front.{store_front}
use Rattle.sheet.specs.Sheet.{patterns_of}
use Rattle.octets.specs.Octets.{big}
use Rattle.octets.proofs.EightsLaws.{eights_none, eights_length, eights_next}
use Rattle.sheet.proofs.copy.Goals as goal

pub loop-i-init : goal.loop-i-init
loop-i-init c = ap (λ (l : List ℕ). l ++ c.args.area.now) (sym (eights_none big (drop 5 c.args.sheet.now)))

pub loop-i-preserved : goal.loop-i-preserved
loop-i-preserved c =
    let a = c.args in
    let i = c.loop-i.i in
    rw (c.big_endian.ensures, c.loop-i.invariant, eights_next big i 5 a.sheet.now)
    (store_front 0 (patterns_of i (drop 5 a.sheet.now)) a.area.now i (eights_length big _ _) (omega arith) _)
