-- A number's units on the side of its sign: what it gives to the positive numbers' sum and what to the negative ones'. Definitions only.
use Rattle.std.specs.Prelude.{ℕ, ◌+◌, ◌*◌, ◌^◌}
use Rattle.units.specs.Whole.{Whole, difference}
use Rattle.kinds.specs.Limits.{Width}
use Rattle.words.specs.Words.{register_bits}
use Rattle.addend.specs.Addend.{units_of}

abbrev pub sides_of : Width → ℕ → Whole
sides_of W p = difference (units_of W p)

-- two sides in a register's words each, those of the negative numbers above those of the positive ones
abbrev pub side_by_side : Whole → ℕ
side_by_side a = a.up + a.dn * 2 ^ register_bits
