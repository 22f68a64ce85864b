-- `sound::numbers::numbers` meets its contract, a part for each comparison. Assumes nothing.
use mathlib.Core.Path.{◌≡◌, sym, ◌∙◌}
use mathlib.Core.Bool.{true}
use native.Mathlib.Omega.{arith}
use Rattle.kinds.specs.Answers.{as_state}
use Rattle.kinds.proofs.KnownLaws.{figures}
use Rattle.sound.proofs.WidthLaws.{height_of}
use Rattle.sound.specs.Sound.{sound_sigma}
use Rattle.sound.proofs.SoundLaws.{numbers_none, numbers_many, numbers_sigma, numbers_are}
use Rattle.sound.proofs.LimitLaws.{limit_at}
use Rattle.sound.proofs.numbers.numbers.Goals as goal

pub returns-then-s-lt1 : goal.returns-then-s-lt1
returns-then-s-lt1 g c =
    let W = g.F.Floating.width in
    let H = height_of g.met.F.Floating.known in sym (numbers_none W (as_state g.F.Floating.value c.args.s) (omega arith))

pub returns-then-LENGTH-s : goal.returns-then-LENGTH-s
returns-then-LENGTH-s g c =
    let W = g.F.Floating.width in
    let H = height_of g.met.F.Floating.known in sym
    (numbers_many W (as_state g.F.Floating.value c.args.s) (omega (arith, c.LENGTH.ensures, (figures g.met.F.Floating.known).length)))

pub from_bits-limit-requires : goal.from_bits-limit-requires
from_bits-limit-requires g c =
    let W = g.F.Floating.width in
    let H = height_of g.met.F.Floating.known in rw (c.from_word.ensures, c.CARRIED.ensures, (figures g.met.F.Floating.known).carried)
    (limit_at W.format W.carried H.carried).no_nan

pub returns-then-not-sigma : goal.returns-then-not-sigma
returns-then-not-sigma g c =
    let W = g.F.Floating.width in
    let H = height_of g.met.F.Floating.known in sym (numbers_sigma W (as_state g.F.Floating.value c.args.s) (sym c.sigma.ensures ∙ c.if-not-sigma.true))

pub at_most-requires : goal.at_most-requires
at_most-requires g c =
    let W = g.F.Floating.width in
    let H = height_of g.met.F.Floating.known in rw
    (c.from_bits-limit.ensures, c.from_word.ensures, c.CARRIED.ensures, (figures g.met.F.Floating.known).carried)
    ((limit_at W.format W.carried H.carried).number.fini, (limit_at W.format W.carried H.carried).positive)

pub at_most-requires-2 : goal.at_most-requires-2
at_most-requires-2 g c =
    let W = g.F.Floating.width in
    let H = height_of g.met.F.Floating.known in rw
    (c.from_bits-limit.ensures, c.from_word.ensures, c.CARRIED.ensures, (figures g.met.F.Floating.known).carried)
    ((limit_at W.format W.carried H.carried).number.fini, (limit_at W.format W.carried H.carried).positive)

pub largest-requires : goal.largest-requires
largest-requires g c =
    let W = g.F.Floating.width in
    let H = height_of g.met.F.Floating.known in
    let good : (let s = (as_state g.F.Floating.value c.args.s) in sound_sigma W s.n s.sigma ≡ true) = sym c.sigma.ensures ∙ c.if-not-sigma.false in
    (omega (arith, c.LENGTH.ensures, (figures g.met.F.Floating.known).length), good)

pub returns : goal.returns
returns g c =
    let W = g.F.Floating.width in
    let H = height_of g.met.F.Floating.known in
    let good : (let s = (as_state g.F.Floating.value c.args.s) in sound_sigma W s.n s.sigma ≡ true) = sym c.sigma.ensures ∙ c.if-not-sigma.false in
    rw (
      c.at_most.ensures,
      c.at_most-2.ensures,
      c.largest.ensures,
      c.from_bits-limit.ensures,
      c.from_word.ensures,
      c.CARRIED.ensures,
      (figures g.met.F.Floating.known).carried,
      c.ROUNDS.ensures,
      (figures g.met.F.Floating.known).rounds,
    )
    (sym (numbers_are W (as_state g.F.Floating.value c.args.s) (omega arith) (omega (arith, c.LENGTH.ensures, (figures g.met.F.Floating.known).length)) good))
