-- What rounding a register answers, a law for each case. Assumes nothing.
use Rattle.std.specs.Prelude.{◌≡◌, List, ℕ, ◌≤◌, ◌<◌, nat_abs, length}
use Rattle.std.proofs.Common.{ap}
use Rattle.std.proofs.Math.Bool.{false}
use borrow.Author.Tests.{lt-ltb, le-ltb, eq-eqb, ne_eqb}
use Rattle.std.specs.Float.Ieee.{binary64, to_bits}
use Rattle.ieee.specs.Units.{limit, nearest_float}
use Rattle.ieee.proofs.Overflow.{nearest_finite}
use Rattle.ieee.specs.Accuracy.{NearestTo}
use Rattle.ieee.proofs.Nearest.{nearest_nearest}
use Rattle.kinds.specs.Heard.{nearest, nearest_heard}
use Rattle.kinds.specs.Limits.{doubles}
use Rattle.kinds.specs.Nearest.{Sum, Refused}
use Rattle.words.specs.Words.{word_count, whole_of}
use Rattle.register.specs.Register.{rounded}

module _ (ws : List ℕ) where
  pub rounded_length : (length ws ≡ word_count → ⊥) → rounded ws ≡ Refused 4 0
  unfolding rounded
  rounded_length h = rw (ne_eqb (length ws) word_count h)

  module _ (l : length ws ≡ word_count) where
    -- the double nearest to the units is finite exactly below the limit
    pub rounded_beyond : limit binary64 ≤ nat_abs (whole_of ws) → rounded ws ≡ Refused 10 0
    unfolding rounded
    rounded_beyond h =
        rw (eq-eqb (length ws) word_count l, nearest_finite binary64 false (whole_of ws), le-ltb (nat_abs (whole_of ws)) (limit binary64) h)

    pub rounded_sum : nat_abs (whole_of ws) < limit binary64 → rounded ws ≡ Sum (nearest_float binary64 false (whole_of ws))
    unfolding rounded
    rounded_sum h =
        rw (eq-eqb (length ws) word_count l, nearest_finite binary64 false (whole_of ws), lt-ltb (nat_abs (whole_of ws)) (limit binary64) h)

    -- rule G4, as a caller hears it
    pub round_nearest : nat_abs (whole_of ws) < limit binary64
        → let x = nearest_float binary64 false (whole_of ws) in
        (nearest_heard doubles (rounded ws) ≡ nearest (to_bits binary64 x)) × NearestTo binary64 (whole_of ws) x
    round_nearest h = (ap (nearest_heard doubles) (rounded_sum h), nearest_nearest binary64 false (whole_of ws) h)
