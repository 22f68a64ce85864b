-- How a state of the walk is built, rule WS1: the one definition that writes its fields. Definitions only.
use Rattle.std.specs.Prelude.{ℕ, Float}
use Rattle.kinds.specs.State.{State}

-- n, the three doubles sigma, t and tau, the pending set, the rounds closed, the ensemble, and the largest remainder of the round so far
abbrev pub state_of : ℕ → Float → Float → Float → ℕ → ℕ → ℕ → Float → State
state_of n sigma t tau pending rounds ensemble largest =
    record { sigma = sigma; t = t; tau = tau; n = n; pending = pending; rounds = rounds; ensemble = ensemble; largest = largest }
