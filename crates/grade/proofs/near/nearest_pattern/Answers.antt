-- `grade::near::nearest_pattern` meets its contract: below the limit the nearest double is finite, and so no NaN. Assumes nothing.
use mathlib.Core.Bool.{false}
use lib.Ieee.{binary64}
use Rattle.ieee.specs.Units.{nearest_float}
use Rattle.ieee.proofs.Finite.{finite_no_nan}
use Rattle.ieee.proofs.Nearest.{nearest_number}
use Rattle.words.specs.Words.{whole_of}
use Rattle.grade.proofs.near.nearest_pattern.Goals as goal

pub float_to_bits-result : goal.float_to_bits-result
float_to_bits-result c =
    let S = whole_of c.args.words.now in
    rw c.nearest_float.ensures (finite_no_nan (nearest_float binary64 false S) (nearest_number binary64 false S c.requires.1).fini)
