-- `rounds::round::sigma` meets its contract: M + e is the exponent of a power of two of the format. Assumes nothing.
use Rattle.std.proofs.Common.{arith}
use Rattle.kinds.proofs.KnownLaws.{figures}
use Rattle.sound.proofs.WidthLaws.{height_of}
use Rattle.rounds.specs.Instances.{fit_of}
use Rattle.rounds.proofs.SigmaLaws.{found_exists}
use Rattle.rounds.proofs.round.sigma.Goals as goal

pub overflow_add-exponent : goal.overflow_add-exponent
overflow_add-exponent g c =
    let K = g.met.F.Floating.known in
    let exists = found_exists (fit_of K) c.exponent.ensures c.ceiling.ensures (omega (arith, (figures K).length)) c.requires.1.within in
    omega (arith, exists, (height_of K).reach)

pub power-requires : goal.power-requires
power-requires g c =
    let K = g.met.F.Floating.known in
    found_exists (fit_of K) c.exponent.ensures c.ceiling.ensures (omega (arith, (figures K).length)) c.requires.1.within
