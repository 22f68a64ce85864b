-- The sign of the float nearest to a whole number of units, and its pattern without the sign, also from the leading digits. Definitions only.
use Rattle.std.specs.Prelude.{ℕ, ◌+◌, ◌*◌, ◌^◌, Bool, false, ℤ, unsigned_abs}
use Rattle.std.specs.Float.{Format}
use Rattle.std.specs.Float.Ieee.{prec, hid}
use Rattle.units.specs.Rounding.{dropped}
use Rattle.ieee.specs.Units.{sign_of, rounded_bits}
use Rattle.nearest.specs.declared.head.Head.{Head}
use Rattle.nearest.specs.Sticky.{closest_over}
use Rattle.nearest.specs.declared.bits.Bits.{Bits}

-- where the nearest float isn't finite, the pattern is the infinity's or a larger one. A zero gets the sign z
abbrev pub bits_of : Format → Bool → ℤ → Bits
bits_of f z S = record { negative = sign_of z S; magnitude = rounded_bits f false (unsigned_abs S) }

-- the pattern of the nearest float, without its sign, of a number with this head
abbrev pub head_bits : Format → Head → ℕ
head_bits f h = (h.below + dropped (prec f) h.digits) * hid f + closest_over h.rest h.digits (2 ^ dropped (prec f) h.digits)
