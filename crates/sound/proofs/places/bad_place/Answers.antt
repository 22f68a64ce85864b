-- `sound::places::bad_place` meets its contract: where no number is above the limit, there is no such place. Assumes nothing.
use Rattle.std.proofs.Common.{sym, ◌∙◌, eqb-true}
use Rattle.kinds.proofs.Areas.{read_length}
use Rattle.sound.proofs.PlacesLaws.{none_above}
use Rattle.sound.proofs.places.bad_place.Goals as goal

pub returns-then-within-clause-first : goal.returns-then-within-clause-first
returns-then-within-clause-first g c =
    let n = read_length g.F.Floating.value g.F.Floating.values g.met.F.Floating.each_value c.args.work.now in
    sym n ∙ sym (eqb-true _ _ (sym (none_above _ _ _) ∙ sym c.within.ensures ∙ c.if-within.true))
