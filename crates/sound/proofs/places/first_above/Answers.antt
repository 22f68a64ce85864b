-- `sound::places::first_above` meets its contract: the search ends at the first number above the limit. Assumes nothing.
use Rattle.std.specs.Prelude.{◌≡◌, not, length, position, unwrap_or}
use Rattle.std.proofs.Common.{ap, rules, tests, sym, ◌∙◌}
use Rattle.std.proofs.lemmas.Iterator.{YieldsList-from_slice}
use Rattle.std.proofs.lemmas.Iterator.Search.{position_from_yields_List}
use Rattle.ieee.specs.Units.{magnitude}
use Rattle.sound.specs.Sound.{at_most}
use Rattle.sound.specs.Places.{first_above}
use Rattle.sound.proofs.PlacesLaws.{position_above}
use Rattle.sound.proofs.places.first_above.Goals as goal

pub returns-clause-first : goal.returns-clause-first
returns-clause-first g c =
    let v = g.F.Floating.value in
    let W = g.F.Floating.width in
    let most = magnitude W.format (v c.args.limit) in
    let xs = c.args.work.now in
    let e : c.position.result ≡ position (λ x. not (at_most W most (v x))) xs =
    position_from_yields_List (λ x. not (at_most W most (v x))) _ _ c.position.result c.position.ensures.ran (YieldsList-from_slice xs cc)
    (λ x b q k. search (rules, tests)) in
    ap (λ o. unwrap_or o (length xs)) e ∙ position_above v W most xs ∙ ap (first_above W most) (sym (g.met.F.Floating.each_value xs))
