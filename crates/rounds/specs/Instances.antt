-- The scope's width fits the walk, and so do numbers for binary32: 2,046 numbers of magnitude at most 2^100, t and tau up to 2^111, 19 rounds closed.
-- Assumes nothing.
use Rattle.std.specs.Prelude.{refl, ℕ}
use Rattle.std.proofs.Common.{lit<, lit≤}
use Rattle.std.specs.Float.Ieee.{of_bits}
use Rattle.ieee.specs.Units.{magnitude}
use Rattle.kinds.specs.Limits.{Width, doubles, singles}
use Rattle.kinds.specs.Known.{Known, is_doubles, is_singles}
use Rattle.kinds.proofs.LimitsLaws.{exponent_doubles, exponent_singles}
use Rattle.rounds.specs.Fitting.{Fitting}

unfoldable pub doubles_fit : Fitting doubles
unfolding magnitude of_bits
doubles_fit = record {
  top = 2074;
  bound = 2086;
  most = 12;
  top_is = refl;
  bound_is = refl;
  most_is = exponent_doubles;
  block = lit< tt;
  half = lit< tt;
  fine = lit≤ tt;
  room = lit≤ tt;
  tau_room = lit≤ tt;
  t_room = lit≤ tt;
  sum_room = lit≤ tt;
  enough = lit< tt;
}

-- units of 2^-149: 2^100 is 2^249 of them, 2^111 is 2^260
unfoldable pub singles_fit : Fitting singles
unfolding magnitude of_bits
singles_fit = record {
  top = 249;
  bound = 260;
  most = 11;
  top_is = refl;
  bound_is = refl;
  most_is = exponent_singles;
  block = lit< tt;
  half = lit< tt;
  fine = lit≤ tt;
  room = lit≤ tt;
  tau_room = lit≤ tt;
  t_room = lit≤ tt;
  sum_room = lit≤ tt;
  enough = lit< tt;
}

-- one law for both: at binary64 it is doubles_fit, at binary32 singles_fit
abbrev pub fit_of : {W : Width} {d s i l m c r : ℕ} → Known W d s i l m c r → Fitting W
fit_of is_doubles = doubles_fit
fit_of is_singles = singles_fit
