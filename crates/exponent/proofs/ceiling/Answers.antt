-- `exponent::ceiling` meets its contract: a positive number's units are its pattern's. Assumes nothing.
use mathlib.Core.Path.{sym, ap, ◌∙◌}
use Rattle.units.specs.Rounding.{ceil}
use Rattle.ieee.specs.Units.{Number}
use Rattle.ieee.proofs.Finite.{finite_no_nan}
use Rattle.exponent.proofs.CeilingLaws.{positive_bits, positive_units}
use Rattle.exponent.proofs.ceiling.Goals as goal

pub bits-requires : goal.bits-requires
bits-requires g c = finite_no_nan (g.F.Floating.value c.args.mu) c.requires.0

pub exponent-requires : goal.exponent-requires
exponent-requires g c =
    let number : Number g.F.Floating.width.format (g.F.Floating.value c.args.mu) = record { fit = c.bits.ensures.held; fini = c.requires.0 } in
    rw (c.word.ensures.word, c.bits.ensures.bits) (positive_bits number c.requires.1)

pub returns : goal.returns
returns g c =
    let number : Number g.F.Floating.width.format (g.F.Floating.value c.args.mu) = record { fit = c.bits.ensures.held; fini = c.requires.0 } in
    c.exponent.ensures ∙ ap ceil (rw (c.word.ensures.word, c.bits.ensures.bits) (sym (positive_units number c.requires.1)))
