-- What the walk asks of a width: how large M and the magnitudes are, that nothing overflows, and how many rounds are enough. Definitions only.
use Rattle.std.specs.Prelude.{◌≡◌, ℕ, suc, ◌+◌, ◌-◌, ◌*◌, ◌^◌, ◌≤◌, ◌<◌}
use Rattle.std.specs.Float.Ieee.{prec, emax, low}
use Rattle.kinds.specs.Limits.{Width, exponent_of}
use Rattle.judge.specs.Table.{size_of}

pub record Fitting (W : Width) : Type 0 where
  -- the largest magnitude is 2^top units, t and tau of a sound state are at most 2^bound units, and M is at most `most`
  pub top : ℕ
  pub bound : ℕ
  pub most : ℕ
  pub top_is : size_of W W.magnitude ≡ 2 ^ top
  pub bound_is : size_of W W.carried ≡ 2 ^ bound
  pub most_is : (n : ℕ) → n ≤ W.length → exponent_of n ≤ most
  -- a block holds something
  pub block : 0 < W.block
  -- 2^(2M+1) eps is at most 1, and eps is a whole number of units
  pub half : most + most < prec W.format
  pub fine : prec W.format ≤ low W.format
  -- an extraction at the largest sigma does not overflow
  pub room : most + top + 3 ≤ low W.format + emax W.format
  -- tau of a run stays below the largest sigma, and t below 2^(2M+1) eps times it; no sum of a close overflows, whatever sound state it closes
  pub tau_room : most + top ≤ bound
  pub t_room : most + most + most + top + 1 ≤ bound + prec W.format
  pub sum_room : bound + 6 ≤ low W.format + emax W.format
  -- each further round lowers sigma by a factor of 2^(prec - M) or more
  pub enough : top < suc W.rounds * (prec W.format - most)
