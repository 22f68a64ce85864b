-- `sound::places::limit` meets its contract: the exponent of a sound sigma is from M to 2,074 + M. Assumes nothing.
use mathlib.Core.Path.{◌≡◌, ◌∙◌}
use Prim.Native.Nat.{◌+◌, ◌-◌, ◌≤◌}
use native.Mathlib.Omega.{arith}
use Rattle.exponent.specs.Power.{power_of}
use Rattle.kinds.specs.Limits.{exponent_of}
use Rattle.kinds.specs.Answers.{as_state}
use Rattle.sound.specs.SigmaLaws.{Sigma, sigma_holds, sigma_exponent, sigma_true}
use Rattle.sound.specs.Numbers.{Numbers}
use Rattle.sound.proofs.SoundLaws.{numbers_hold}
use Rattle.kinds.proofs.KnownLaws.{figures}
use Rattle.sound.proofs.WidthLaws.{height_of}
use Rattle.sound.proofs.places.limit.Goals as goal

pub ceiling-requires : goal.ceiling-requires
ceiling-requires g c =
    let W = g.F.Floating.width in
    let H = height_of g.met.F.Floating.known in
    let numbers : Numbers W (as_state g.F.Floating.value c.args.s) = numbers_hold W H.height H.most_is (as_state g.F.Floating.value c.args.s) c.requires in
    let sigma : Sigma W c.args.s.n (g.F.Floating.value c.args.s.sigma) = sigma_holds W c.args.s.n (g.F.Floating.value c.args.s.sigma)
    (sigma_true W H.height H.most_is c.args.s.n (g.F.Floating.value c.args.s.sigma) numbers.sigma) in
    (sigma.fini, sigma.positive)

pub exponent-requires : goal.exponent-requires
exponent-requires g c =
    let W = g.F.Floating.width in
    let H = height_of g.met.F.Floating.known in
    let numbers : Numbers W (as_state g.F.Floating.value c.args.s) = numbers_hold W H.height H.most_is (as_state g.F.Floating.value c.args.s) c.requires in
    omega (arith, numbers.counts.few, (figures g.met.F.Floating.known).few)

pub overflow_sub-ceiling : goal.overflow_sub-ceiling
overflow_sub-ceiling g c =
    let W = g.F.Floating.width in
    let H = height_of g.met.F.Floating.known in
    let numbers : Numbers W (as_state g.F.Floating.value c.args.s) = numbers_hold W H.height H.most_is (as_state g.F.Floating.value c.args.s) c.requires in
    let sigma : Sigma W c.args.s.n (g.F.Floating.value c.args.s.sigma) = sigma_holds W c.args.s.n (g.F.Floating.value c.args.s.sigma)
    (sigma_true W H.height H.most_is c.args.s.n (g.F.Floating.value c.args.s.sigma) numbers.sigma) in
    let low : c.exponent.result ≡ exponent_of c.args.s.n = c.exponent.ensures in
    let high : (c.exponent.result ≤ c.ceiling.result) × (c.ceiling.result ≤ c.exponent.result + H.height) =
    rw (low, c.ceiling.ensures) (sigma_exponent W H.height H.most_is c.args.s.n sigma) in
    high.0

pub power-requires : goal.power-requires
power-requires g c =
    let W = g.F.Floating.width in
    let H = height_of g.met.F.Floating.known in
    let low : c.exponent.result ≡ exponent_of c.args.s.n = c.exponent.ensures in
    let numbers : Numbers W (as_state g.F.Floating.value c.args.s) = numbers_hold W H.height H.most_is (as_state g.F.Floating.value c.args.s) c.requires in
    let sigma : Sigma W c.args.s.n (g.F.Floating.value c.args.s.sigma) = sigma_holds W c.args.s.n (g.F.Floating.value c.args.s.sigma)
    (sigma_true W H.height H.most_is c.args.s.n (g.F.Floating.value c.args.s.sigma) numbers.sigma) in
    let high : (c.exponent.result ≤ c.ceiling.result) × (c.ceiling.result ≤ c.exponent.result + H.height) =
    rw (low, c.ceiling.ensures) (sigma_exponent W H.height H.most_is c.args.s.n sigma) in
    omega (arith, high, low, H.room c.args.s.n numbers.counts.few)

pub returns : goal.returns
returns g c =
    let W = g.F.Floating.width in
    let H = height_of g.met.F.Floating.known in
    let low : c.exponent.result ≡ exponent_of c.args.s.n = c.exponent.ensures in
    c.power.ensures ∙ λ i. power_of W.format (c.ceiling.ensures i - low i)
