-- `rounds::fresh::from_mu` meets its contract: mu is zero exactly where its magnitude is, and sigma is of mu. Assumes nothing.
use Rattle.std.specs.Prelude.{◌≡◌, refl, false, ◌≤◌, eqb}
use Rattle.std.proofs.Common.{arith, sym, ◌∙◌, eq-eqb}
use Rattle.std.proofs.lemmas.Bool.{ne_eqb, eqb-false}
use Rattle.ieee.specs.Units.{magnitude}
use Rattle.ieee.proofs.Finite.{finite_no_nan}
use Rattle.extract.specs.LargestLaws.{Positive}
use Rattle.rounds.proofs.PatternLaws.{zero_bits}
use Rattle.rounds.specs.ClosedLaws.{fresh_zero, fresh_round_lem}
use Rattle.rounds.proofs.fresh.from_mu.Goals as goal

pub bits-requires : goal.bits-requires
bits-requires g c = finite_no_nan (g.F.Floating.value c.args.mu) c.requires.1.number.fini

pub returns-then-nothing : goal.returns-then-nothing
returns-then-nothing g c =
    let W = g.F.Floating.width in
    let v = g.F.Floating.value in
    let a = c.args in
    let mu : Positive W.format (v a.mu) (magnitude W.format (v a.mu)) = record { number = c.requires.1.number; sign = c.requires.2; units = refl } in
    let m = magnitude W.format (v a.mu) in
    sym (fresh_zero W (v a.zero) a.n m a.rounds a.ensemble (v a.told)
    (eq-eqb m 0 ((zero_bits W.format mu).0 (sym c.bits.ensures.bits ∙ sym c.word-nothing.ensures.word ∙ c.if-nothing.true))))

pub begin-requires : goal.begin-requires
begin-requires g c =
    let W = g.F.Floating.width in
    let v = g.F.Floating.value in
    let a = c.args in
    let mu : Positive W.format (v a.mu) (magnitude W.format (v a.mu)) = record { number = c.requires.1.number; sign = c.requires.2; units = refl } in
    let m = magnitude W.format (v a.mu) in
    let some : eqb m 0 ≡ false = ne_eqb m 0 (λ e. c.if-nothing.false (c.word-nothing.ensures.word ∙ c.bits.ensures.bits ∙ (zero_bits W.format mu).1 e)) in
    let l : 1 ≤ m = omega (arith, eqb-false m 0 some) in
    (c.requires.3 l, c.requires.0)

pub returns : goal.returns
returns g c =
    let W = g.F.Floating.width in
    let v = g.F.Floating.value in
    let a = c.args in
    let mu : Positive W.format (v a.mu) (magnitude W.format (v a.mu)) = record { number = c.requires.1.number; sign = c.requires.2; units = refl } in
    let m = magnitude W.format (v a.mu) in
    let some : eqb m 0 ≡ false = ne_eqb m 0 (λ e. c.if-nothing.false (c.word-nothing.ensures.word ∙ c.bits.ensures.bits ∙ (zero_bits W.format mu).1 e)) in
    rw (c.begin.ensures, c.sigma-sigma.ensures, c.zero.ensures) (sym (fresh_round_lem W (v a.zero) a.n m a.rounds a.ensemble (v a.told) some))
