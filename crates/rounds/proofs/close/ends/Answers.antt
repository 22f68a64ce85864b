-- `rounds::close::ends` meets its contract: its tests are those of the rules, in their order. Assumes nothing.
use Rattle.std.proofs.Common.{arith}
use Rattle.kinds.proofs.KnownLaws.{figures}
use Rattle.rounds.specs.Instances.{fit_of}
use Rattle.rounds.proofs.ClosableLaws.{closable_power, closable_half}
use Rattle.rounds.proofs.close.ends.Goals as goal

pub enough-requires : goal.enough-requires
enough-requires g c =
    let F = fit_of g.met.F.Floating.known in
    (closable_half F c.exponent.ensures (omega (arith, (figures g.met.F.Floating.known).length)), closable_power F c.requires)
