-- A whole number of units that the format holds is rounded to itself. Assumes nothing.
use Rattle.std.specs.Prelude.{Bool, ℕ, ◌^◌, ◌<◌}
use Rattle.std.specs.Float.{Format}
use Rattle.std.specs.Float.Ieee.{prec, low, round}
use Rattle.std.specs.Float.Ieee.Scale.{overflow}
use Rattle.units.specs.Rounding.{Short}
use Rattle.units.proofs.NaturalRounding.{exact}
use Rattle.ieee.specs.Units.{Is}
use Rattle.ieee.proofs.Rounded.{prec_pos, round_value}

-- a whole number of units that the format holds is itself
pub round_exact : (f : Format) (s : Bool) (n : ℕ) → Short (prec f) n → n < overflow f → Is f (round f s n (2 ^ low f)) s n
round_exact f s n h l =
    let e = exact (prec f) (prec_pos f) h in
    rw e at (round_value f s n (rw e l))
