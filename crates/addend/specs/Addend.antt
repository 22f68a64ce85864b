-- A finite number among the register's words: its units, its significand and shift, and its place. Definitions only.
use Rattle.std.specs.Prelude.{◌≡◌, List, ℕ, suc, ◌+◌, ◌*◌, ◌^◌, ◌<◌, ℤ}
use Rattle.std.specs.Float.{Format}
use Rattle.std.specs.Float.Ieee.{prec, ones, of_bits}
use Rattle.ieee.specs.Units.{magnitude, value}
use Rattle.lists.specs.Carry.{two}
use Rattle.lists.specs.SignedDigits.{Words}
use Rattle.kinds.specs.Limits.{Width}
use Rattle.words.specs.Words.{word_bits, word_count}

-- the units of a pattern
abbrev pub units_of : Width → ℕ → ℤ
units_of W p = value W.format (of_bits W.format p)

-- 33 words of 64 bits
abbrev pub Held : List ℕ → Type 0
Held ws = Words word_bits word_count ws

-- the magnitude of the pattern p in units is m shifted by e, and m has no more digits than a significand; a field is one more than its shift
pub record Scaled (f : Format) (p m e : ℕ) : Type 0 where
  pub digits : m < 2 ^ prec f
  pub shift : suc e < ones f
  pub units : m * 2 ^ e ≡ magnitude f (of_bits f p)

-- lo at the word k and hi at the next are the magnitude of the pattern p, and the two words are there
pub record AtWord (f : Format) (p k lo hi : ℕ) : Type 0 where
  pub within : k + 1 < word_count
  pub units : two word_bits k lo hi ≡ magnitude f (of_bits f p)
