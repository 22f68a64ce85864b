-- `sound::numbers::sigma` meets its contract: up to the greatest sigma it is a number, and sound exactly where its pattern is a power of two's from the least
-- one on. Assumes nothing.
use mathlib.Core.Path.{◌≡◌, sym, ap, ◌∙◌}
use mathlib.Core.Bool.{Bool, true, false, ◌&&◌}
use Prim.Native.Nat.{ℕ, ◌+◌, ◌^◌, ◌<◌}
use native.Mathlib.Omega.{arith}
use Rattle.units.proofs.Ceiling.{ceil_least}
use Rattle.ieee.specs.Units.{magnitude}
use Rattle.exponent.specs.Power.{powers, power_of}
use Rattle.exponent.proofs.PowerLaws.{power_number, power_negative, power_magnitude}
use Rattle.kinds.specs.Limits.{exponent_of}
use Rattle.sound.specs.Sound.{at_most, sound_sigma}
use Rattle.sound.specs.SigmaLaws.{is_power_from, sigma_is}
use Rattle.sound.proofs.SoundLaws.{at_most_holds}
use Rattle.sound.proofs.WidthLaws.{height_of}
use Rattle.sound.proofs.numbers.sigma.Goals as goal

pub overflow_add-m : goal.overflow_add-m
overflow_add-m g c =
    let W = g.F.Floating.width in
    let H = height_of g.met.F.Floating.known in
    let room : exponent_of c.args.n + H.height < powers W.format = H.room c.args.n c.requires in
    let low : c.exponent-m.result ≡ exponent_of c.args.n = c.exponent-m.ensures in
    let high : c.exponent-m.result + c.top.result ≡ exponent_of c.args.n + H.height = λ i. low i + (c.top.ensures ∙ H.magnitude_is) i in
    omega (arith, high, room, H.reach)

pub power-requires : goal.power-requires
power-requires g c =
    let W = g.F.Floating.width in
    let H = height_of g.met.F.Floating.known in
    let room : exponent_of c.args.n + H.height < powers W.format = H.room c.args.n c.requires in
    let low : c.exponent-m.result ≡ exponent_of c.args.n = c.exponent-m.ensures in
    let high : c.exponent-m.result + c.top.result ≡ exponent_of c.args.n + H.height = λ i. low i + (c.top.ensures ∙ H.magnitude_is) i in
    omega (arith, high, room, H.reach)

pub at_most-requires : goal.at_most-requires
at_most-requires g c =
    let W = g.F.Floating.width in
    let H = height_of g.met.F.Floating.known in
    let room : exponent_of c.args.n + H.height < powers W.format = H.room c.args.n c.requires in
    let low : c.exponent-m.result ≡ exponent_of c.args.n = c.exponent-m.ensures in
    let high : c.exponent-m.result + c.top.result ≡ exponent_of c.args.n + H.height = λ i. low i + (c.top.ensures ∙ H.magnitude_is) i in
    let limit : (g.F.Floating.value c.power.result) ≡ power_of W.format (exponent_of c.args.n + H.height) = c.power.ensures ∙ ap (power_of W.format) high in
    let r = room in
    rw limit ((power_number W.format r).fini, power_negative W.format r)

pub power_from-requires : goal.power_from-requires
power_from-requires g c =
    let W = g.F.Floating.width in
    let H = height_of g.met.F.Floating.known in
    let room : exponent_of c.args.n + H.height < powers W.format = H.room c.args.n c.requires in
    let low : c.exponent-m.result ≡ exponent_of c.args.n = c.exponent-m.ensures in
    let high : c.exponent-m.result + c.top.result ≡ exponent_of c.args.n + H.height = λ i. low i + (c.top.ensures ∙ H.magnitude_is) i in
    let limit : (g.F.Floating.value c.power.result) ≡ power_of W.format (exponent_of c.args.n + H.height) = c.power.ensures ∙ ap (power_of W.format) high in
    let test : (let a = c.args in c.at_most.result ≡ at_most W (2 ^ (exponent_of a.n + H.height)) (g.F.Floating.value a.sigma)) = c.at_most.ensures
    ∙ ap (λ (m : ℕ). at_most W m (g.F.Floating.value c.args.sigma)) (ap (magnitude W.format) limit ∙ power_magnitude W.format room) in
    let w = at_most_holds W (2 ^ (exponent_of c.args.n + H.height)) (g.F.Floating.value c.args.sigma) (sym test ∙ c.if-at_most.true) in
    (w.fini, omega (arith, ceil_least w.small, room))

pub returns-then-at_most : goal.returns-then-at_most
returns-then-at_most g c =
    let W = g.F.Floating.width in
    let H = height_of g.met.F.Floating.known in
    let room : exponent_of c.args.n + H.height < powers W.format = H.room c.args.n c.requires in
    let low : c.exponent-m.result ≡ exponent_of c.args.n = c.exponent-m.ensures in
    let high : c.exponent-m.result + c.top.result ≡ exponent_of c.args.n + H.height = λ i. low i + (c.top.ensures ∙ H.magnitude_is) i in
    let limit : (g.F.Floating.value c.power.result) ≡ power_of W.format (exponent_of c.args.n + H.height) = c.power.ensures ∙ ap (power_of W.format) high in
    let test : (let a = c.args in c.at_most.result ≡ at_most W (2 ^ (exponent_of a.n + H.height)) (g.F.Floating.value a.sigma)) = c.at_most.ensures
    ∙ ap (λ (m : ℕ). at_most W m (g.F.Floating.value c.args.sigma)) (ap (magnitude W.format) limit ∙ power_magnitude W.format room) in
    let decided : (b : Bool) → c.at_most.result ≡ b → let a = c.args in
    (b && is_power_from W.format (exponent_of a.n) (g.F.Floating.value a.sigma)) ≡ sound_sigma W a.n (g.F.Floating.value a.sigma) = λ b e. let a = c.args in
    ap (λ (t : Bool). t && is_power_from W.format (exponent_of a.n) (g.F.Floating.value a.sigma)) (sym e ∙ test)
    ∙ sigma_is W H.height H.most_is a.n (g.F.Floating.value a.sigma) in
    let a = c.args in
    c.power_from.ensures
    ∙ ap (λ (m : ℕ). is_power_from W.format m (g.F.Floating.value a.sigma)) low ∙ decided true c.if-at_most.true

pub returns-else-at_most : goal.returns-else-at_most
returns-else-at_most g c =
    let W = g.F.Floating.width in
    let H = height_of g.met.F.Floating.known in
    let room : exponent_of c.args.n + H.height < powers W.format = H.room c.args.n c.requires in
    let low : c.exponent-m.result ≡ exponent_of c.args.n = c.exponent-m.ensures in
    let high : c.exponent-m.result + c.top.result ≡ exponent_of c.args.n + H.height = λ i. low i + (c.top.ensures ∙ H.magnitude_is) i in
    let limit : (g.F.Floating.value c.power.result) ≡ power_of W.format (exponent_of c.args.n + H.height) = c.power.ensures ∙ ap (power_of W.format) high in
    let test : (let a = c.args in c.at_most.result ≡ at_most W (2 ^ (exponent_of a.n + H.height)) (g.F.Floating.value a.sigma)) = c.at_most.ensures
    ∙ ap (λ (m : ℕ). at_most W m (g.F.Floating.value c.args.sigma)) (ap (magnitude W.format) limit ∙ power_magnitude W.format room) in
    let decided : (b : Bool) → c.at_most.result ≡ b → let a = c.args in
    (b && is_power_from W.format (exponent_of a.n) (g.F.Floating.value a.sigma)) ≡ sound_sigma W a.n (g.F.Floating.value a.sigma) = λ b e. let a = c.args in
    ap (λ (t : Bool). t && is_power_from W.format (exponent_of a.n) (g.F.Floating.value a.sigma)) (sym e ∙ test)
    ∙ sigma_is W H.height H.most_is a.n (g.F.Floating.value a.sigma) in
    c.if-at_most.false ∙ decided false c.if-at_most.false
