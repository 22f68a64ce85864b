-- The leading digits of a number: 64 of them, how many stand below, and whether any of those is set. Definitions only.
use Rattle.std.specs.Prelude.{ℕ, ◌/◌, ◌%◌, ◌^◌, nat_lt}
use Rattle.units.specs.Rounding.{dropped}
use Rattle.words.specs.Words.{word_bits}
use Rattle.nearest.specs.declared.head.Head.{Head}

-- a number below 2 ^ 64 is its own head
abbrev pub head_of : ℕ → Head
head_of n = record {
  digits = n / 2 ^ dropped word_bits n;
  below = dropped word_bits n;
  rest = nat_lt 0 (n % 2 ^ dropped word_bits n);
}
