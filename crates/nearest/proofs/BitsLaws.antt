-- A number rounds as its head does. Assumes nothing.
use Rattle.std.specs.Prelude.{◌≡◌, ℕ, ◌+◌, ◌*◌, ◌^◌, ◌<◌, false}
use Rattle.std.proofs.Common.{sym, ◌∙◌, zero-add, le_of_lt, lit<}
use Rattle.std.specs.Float.{Format, binary32, binary64}
use Rattle.std.specs.Float.Ieee.{prec, hid}
use Rattle.std.specs.Float.Ieee.Nearest.{closest}
use Rattle.units.specs.Rounding.{dropped}
use Rattle.ieee.specs.Units.{rounded_bits}
use Rattle.words.specs.Words.{word_bits}
use Rattle.nearest.specs.Head.{head_of}
use Rattle.nearest.specs.Sticky.{closest_over, dropped_head, rounds_as_head}
use Rattle.nearest.specs.Bits.{head_bits}

-- a head has a digit more than a significand
room : (f : Format) → prec f < word_bits
room binary32 = lit< tt
room binary64 = lit< tt

pub head_bits_lem : (f : Format) (n : ℕ) → head_bits f (head_of n) ≡ rounded_bits f false n
head_bits_lem f n = (λ i. field i * hid f + quotient i) ∙ sym (zero-add (dropped (prec f) n * hid f + closest n (2 ^ dropped (prec f) n)))
  where
    field : (head_of n).below + dropped (prec f) (head_of n).digits ≡ dropped (prec f) n
    field = sym (dropped_head n (le_of_lt (room f)))

    quotient : closest_over (head_of n).rest (head_of n).digits (2 ^ dropped (prec f) (head_of n).digits) ≡ closest n (2 ^ dropped (prec f) n)
    quotient = sym (rounds_as_head n (room f))
