-- `sums::split::split` meets its contract: i parts stand in the area, and the words hold what they leave. Assumes nothing.
use mathlib.Core.Path.{◌∙◌}
use Rattle.words.specs.Words.{whole_of}
use Rattle.sums.proofs.SplitLaws.{splitting_goes_on, splitting_ends, part_no_nan, part_finite}
use Rattle.sums.proofs.split.split.Goals as goal

pub float_to_bits-part : goal.float_to_bits-part
float_to_bits-part c = part_no_nan c.loop-place.sign (whole_of c.loop-place.words) c.loop-place.invariant.below c.nearest_float-part.ensures

pub withdraw-requires : goal.withdraw-requires
withdraw-requires c =
    let v = c.loop-place.invariant in (v.long, part_finite c.loop-place.sign (whole_of c.loop-place.words) v.below c.nearest_float-part.ensures)

pub loop-place-preserved : goal.loop-place-preserved
loop-place-preserved c =
    let v = c.loop-place.invariant in
    splitting_goes_on v c.withdraw.new.words c.loop-place-test.true c.nearest_float-part.ensures
    (c.withdraw.auto.words ∙ v.long) c.withdraw.ensures

pub returns : goal.returns
returns c =
    let v = c.loop-place.invariant in
    let e = splitting_ends v c.loop-place-test.false in
    record { filled = e.0; left = e.1 }
