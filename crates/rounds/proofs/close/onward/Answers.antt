-- `rounds::close::onward` meets its contract: each branch is a rule's, by the laws of the close. Assumes nothing.
use Rattle.std.specs.Prelude.{◌≡◌, true, false}
use Rattle.std.proofs.Common.{arith, rules, sym, ◌∙◌}
use Rattle.std.specs.Float.Ieee.{eq}
use Rattle.ieee.specs.Units.{magnitude}
use Rattle.extract.specs.Extract.{plus_zero}
use Rattle.kinds.specs.Answers.{as_state}
use Rattle.kinds.proofs.KnownLaws.{figures}
use Rattle.rounds.specs.Instances.{fit_of}
use Rattle.rounds.specs.ClosedLaws.{tau1_of, not_finishes, closed_zero, closed_further, ends_further}
use Rattle.rounds.proofs.PatternLaws.{power_above}
use Rattle.rounds.proofs.ClosableLaws.{closable_power}
use Rattle.rounds.proofs.close.onward.Goals as goal

pub returns-then-eq : goal.returns-then-eq
returns-then-eq g c xs =
    let W = g.F.Floating.width in
    let s = as_state g.F.Floating.value c.args.s in
    let none : eq (tau1_of W s) (plus_zero W.format) ≡ true = search rules in
    c.from_mu.ensures ∙ (rw (sym c.zero-then-eq.ensures) at (sym (closed_zero W (magnitude W.format s.largest) s xs none)))

pub exponent-m-requires : goal.exponent-m-requires
exponent-m-requires g c = omega (arith, c.requires.0.counts.few, (figures g.met.F.Floating.known).few)

pub scaled-requires : goal.scaled-requires
scaled-requires g c =
    let W = g.F.Floating.width in
    let F = fit_of g.met.F.Floating.known in
    let s = as_state g.F.Floating.value c.args.s in
    let some : eq (tau1_of W s) (plus_zero W.format) ≡ false = search rules in
    let above = (not_finishes W s (sym (ends_further W s some) ∙ c.requires.1)).0 in (
      rw c.exponent-m.ensures (omega (arith, F.most_is s.n c.requires.0.counts.few, F.half)),
      power_above W.format (closable_power F c.requires.0) c.held.ensures above,
    )

pub returns : goal.returns
returns g c xs =
    let W = g.F.Floating.width in
    let s = as_state g.F.Floating.value c.args.s in
    let some : eq (tau1_of W s) (plus_zero W.format) ≡ false = search rules in
    let tau1 = g.met.F.Floating.added _ _ _ c.add-tau1.ensures in
    rw (c.begin.ensures, c.scaled.ensures, c.exponent-m.ensures)
    (rw (sym tau1) at (sym (closed_further W (magnitude W.format s.largest) s xs some (sym (ends_further W s some) ∙ c.requires.1))))
