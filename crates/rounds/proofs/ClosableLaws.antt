-- What the code of a close takes from `Closable`: sigma is a power of two of the format, and 2M + 1 is at most prec. Assumes nothing.
use Rattle.std.specs.Prelude.{◌≡◌, ℕ, ◌+◌, ◌≤◌, ◌<◌}
use Rattle.std.proofs.Common.{arith}
use Rattle.std.specs.Float.Ieee.{prec}
use Rattle.judge.specs.Table.{size_of}
use Rattle.kinds.specs.Limits.{Width, exponent_of}
use Rattle.kinds.specs.State.{State}
use Rattle.rounds.specs.Fitting.{Fitting}
use Rattle.rounds.specs.Closable.{PowerFrom, Closable}
use Rattle.rounds.proofs.SigmaLaws.{sigma_exists}

pub closable_power : {W : Width} → Fitting W → {s : State} → Closable W s → PowerFrom W.format 0 s.sigma
closable_power {W} F {s} C =
    let P = C.sigma in
    record {
      k = P.k;
      fini = P.fini;
      positive = P.positive;
      power = P.power;
      from = omega arith;
      to = omega (arith, P.to, sigma_exists F s.n (size_of W W.magnitude) C.counts.few (omega arith));
    }

pub closable_half : {W : Width} → Fitting W → {m n : ℕ} → m ≡ exponent_of n → n ≤ W.length → m + m < prec W.format
closable_half F {n = n} e l = rw e (omega (arith, F.most_is n l, F.half))
