-- `sound::numbers::largest` meets its contract: eps times sigma is a power of two, or less than a unit. Assumes nothing.
use mathlib.Core.Path.{◌≡◌, refl, ap, ◌∙◌}
use mathlib.Core.Bool.{not, ◌&&◌}
use Prim.Native.Nat.{ℕ, ◌+◌, ◌-◌, ◌<◌}
use native.Mathlib.Omega.{arith}
use lib.Ieee.{of_bits}
use Rattle.units.specs.Rounding.{ceil}
use Rattle.std.specs.Float.{Format, binary32, binary64}
use Rattle.std.specs.Float.Ieee.{prec}
use Rattle.ieee.specs.Units.{negative, magnitude}
use Rattle.exponent.specs.Power.{powers, power_of}
use Rattle.exponent.proofs.PowerLaws.{power_number, power_negative, power_magnitude}
use Rattle.sound.specs.Sound.{at_most}
use Rattle.sound.specs.SigmaLaws.{Sigma, sigma_holds, sigma_exponent}
use Rattle.kinds.proofs.KnownLaws.{figures}
use Rattle.sound.proofs.WidthLaws.{height_of}
use Rattle.sound.proofs.LimitLaws.{limit_at}
use Rattle.sound.proofs.SoundLaws.{largest_above, largest_below}
use Rattle.sound.proofs.numbers.largest.Goals as goal

pub ceiling-k-requires : goal.ceiling-k-requires
ceiling-k-requires g c =
    let W = g.F.Floating.width in
    let H = height_of g.met.F.Floating.known in
    let sigma : Sigma W c.args.n (g.F.Floating.value c.args.sigma) = sigma_holds W c.args.n (g.F.Floating.value c.args.sigma) c.requires.1 in
    (sigma.fini, sigma.positive)

pub unsigned_at_most-requires : goal.unsigned_at_most-requires
unsigned_at_most-requires g c =
    let W = g.F.Floating.width in
    let K = figures g.met.F.Floating.known in
    let Z = limit_at W.format 0 (omega (arith, K.proper)) in
    rw c.zero.ensures (Z.number.fini, Z.positive)

no_units : (f : Format) → magnitude f (of_bits f 0) ≡ 0
unfolding magnitude of_bits
no_units binary32 = refl
no_units binary64 = refl

pub returns-then-k-eps : goal.returns-then-k-eps
returns-then-k-eps g c =
    let W = g.F.Floating.width in
    let H = height_of g.met.F.Floating.known in
    let sigma : Sigma W c.args.n (g.F.Floating.value c.args.sigma) = sigma_holds W c.args.n (g.F.Floating.value c.args.sigma) c.requires.1 in
    let k = ceil (magnitude W.format (g.F.Floating.value c.args.sigma)) in
    c.unsigned_at_most.ensures
    ∙ ap (λ (m : ℕ). at_most W m (g.F.Floating.value c.args.x) && not (negative (g.F.Floating.value c.args.x)))
    (ap (magnitude W.format) c.zero.ensures ∙ no_units W.format)
    ∙ largest_below W (g.F.Floating.value c.args.sigma) (g.F.Floating.value c.args.x) k sigma.power
    (omega (arith, c.ceiling-k.ensures, c.if-k-eps.true, c.DIGITS-eps.ensures, (figures g.met.F.Floating.known).digits))

pub power-requires : goal.power-requires
power-requires g c =
    let W = g.F.Floating.width in
    let H = height_of g.met.F.Floating.known in
    let sigma : Sigma W c.args.n (g.F.Floating.value c.args.sigma) = sigma_holds W c.args.n (g.F.Floating.value c.args.sigma) c.requires.1 in
    let room : ceil (magnitude W.format (g.F.Floating.value c.args.sigma)) < powers W.format =
    omega (arith, sigma_exponent W H.height H.most_is c.args.n sigma, H.room c.args.n c.requires.0) in
    omega (arith, c.ceiling-k.ensures, room)

pub unsigned_at_most-requires-2 : goal.unsigned_at_most-requires-2
unsigned_at_most-requires-2 g c =
    let W = g.F.Floating.width in
    let H = height_of g.met.F.Floating.known in
    let sigma : Sigma W c.args.n (g.F.Floating.value c.args.sigma) = sigma_holds W c.args.n (g.F.Floating.value c.args.sigma) c.requires.1 in
    let room : ceil (magnitude W.format (g.F.Floating.value c.args.sigma)) < powers W.format =
    omega (arith, sigma_exponent W H.height H.most_is c.args.n sigma, H.room c.args.n c.requires.0) in
    let lower : ceil (magnitude W.format (g.F.Floating.value c.args.sigma)) - prec W.format < powers W.format = omega (arith, room) in
    let eps : c.DIGITS-eps.result + 1 ≡ prec W.format = omega (arith, c.DIGITS-eps.ensures, (figures g.met.F.Floating.known).digits) in
    let limit : (g.F.Floating.value c.power.result) ≡ power_of W.format (ceil (magnitude W.format (g.F.Floating.value c.args.sigma)) - prec W.format) =
    c.power.ensures ∙ ap (λ (k : ℕ). power_of W.format (k - (c.DIGITS-eps.result + 1))) c.ceiling-k.ensures
    ∙ ap (λ (d : ℕ). power_of W.format (ceil (magnitude W.format (g.F.Floating.value c.args.sigma)) - d)) eps in
    rw limit ((power_number W.format lower).fini, power_negative W.format lower)

pub returns : goal.returns
returns g c =
    let W = g.F.Floating.width in
    let H = height_of g.met.F.Floating.known in
    let sigma : Sigma W c.args.n (g.F.Floating.value c.args.sigma) = sigma_holds W c.args.n (g.F.Floating.value c.args.sigma) c.requires.1 in
    let room : ceil (magnitude W.format (g.F.Floating.value c.args.sigma)) < powers W.format =
    omega (arith, sigma_exponent W H.height H.most_is c.args.n sigma, H.room c.args.n c.requires.0) in
    let lower : ceil (magnitude W.format (g.F.Floating.value c.args.sigma)) - prec W.format < powers W.format = omega (arith, room) in
    let eps : c.DIGITS-eps.result + 1 ≡ prec W.format = omega (arith, c.DIGITS-eps.ensures, (figures g.met.F.Floating.known).digits) in
    let limit : (g.F.Floating.value c.power.result) ≡ power_of W.format (ceil (magnitude W.format (g.F.Floating.value c.args.sigma)) - prec W.format) =
    c.power.ensures ∙ ap (λ (k : ℕ). power_of W.format (k - (c.DIGITS-eps.result + 1))) c.ceiling-k.ensures
    ∙ ap (λ (d : ℕ). power_of W.format (ceil (magnitude W.format (g.F.Floating.value c.args.sigma)) - d)) eps in
    let k = ceil (magnitude W.format (g.F.Floating.value c.args.sigma)) in
    c.unsigned_at_most-2.ensures
    ∙ ap (λ (m : ℕ). at_most W m (g.F.Floating.value c.args.x) && not (negative (g.F.Floating.value c.args.x)))
    (ap (magnitude W.format) limit ∙ power_magnitude W.format lower)
    ∙ largest_above W (g.F.Floating.value c.args.sigma) (g.F.Floating.value c.args.x) k sigma.power
    (omega (arith, c.ceiling-k.ensures, c.if-k-eps.false, c.DIGITS-eps.ensures, (figures g.met.F.Floating.known).digits))
