-- `addend::withdraw` meets its contract: the opposite number has the opposite units. Assumes nothing.
use mathlib.Core.Path.{◌≡◌, ap, ◌∙◌}
use lib.Dec.{T}
use lib.Ieee.{of_bits}
use lib.Ieee.Scale.{finite}
use lib.IntN.{ℤ, neg_ℤ, ◌+ℤ◌}
use Rattle.addend.specs.OppositePattern.{opposite_finite}
use Rattle.kinds.specs.Limits.{doubles}
use Rattle.words.specs.Words.{whole_of, words_of}
use Rattle.addend.specs.Addend.{units_of}
use Rattle.addend.proofs.RegisterWords.{opposite_units}
use Rattle.addend.proofs.withdraw.Goals as goal

pub returns : goal.returns
returns c =
    let u : units_of doubles c.opposite.result ≡ neg_ℤ (units_of doubles c.args.p) =
    ap (units_of doubles) c.opposite.ensures ∙ opposite_units doubles c.args.p c.ranges.p.fits c.requires.1 in
    c.add.ensures ∙ ap (λ (y : ℤ). words_of (whole_of c.args.words.now +ℤ y)) u

pub add-requires : goal.add-requires
add-requires c =
    let f : T (finite (of_bits doubles.format c.opposite.result)) =
    rw (c.opposite.ensures, opposite_finite doubles.format c.args.p c.ranges.p.fits) c.requires.1 in
    (c.requires.0, f)
