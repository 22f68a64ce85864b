-- `lanes::inner::settle` meets its contract: the digits that carrying leaves are those of the whole number, and two by two its words. Assumes nothing.
use mathlib.Core.Path.{◌≡◌, sym, ap, ◌∙◌}
use mathlib.Core.List.{List, map}
use lib.IntN.{ℤ}
use Rattle.lists.specs.Digits.{residue}
use Rattle.lanes.specs.Lanes.{lane_bits, lane_sum, settled_lanes}
use Rattle.lanes.specs.Settle.{pairs}
use Rattle.lanes.proofs.TopLaws.{lanes_settled_lem}
use Rattle.lanes.proofs.SettledLaws.{settled_words}
use Rattle.lanes.proofs.inner.settle.Goals as goal

pub returns : goal.returns
returns c =
    let carried : c.carry.new.lanes ≡ settled_lanes (lane_sum c.args.lanes.now) =
    c.carry.ensures ∙ sym (lanes_settled_lem c.args.lanes.now c.requires.0.first c.requires.2) in
    let zs = c.args.lanes.now in
    (carried, c.write.ensures ∙ ap (λ (ys : List ℤ). pairs (map (residue lane_bits) ys)) carried ∙ sym (settled_words (lane_sum zs)))
