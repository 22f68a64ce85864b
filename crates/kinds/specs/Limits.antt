-- What one width of float fixes, and at binary64 and at binary32 the limits on lists (rule L6) and on sound states. Definitions only.
use Rattle.std.specs.Prelude.{◌≡◌, ℕ, ◌+◌}
use Rattle.std.specs.Float.{Format, binary32, binary64}
use Rattle.units.specs.Rounding.{ceil}
use Rattle.units.specs.Walk.{rounded_up}
use Rattle.kinds.specs.declared.limits.Limits.{Limits}

-- the format; how many numbers a list has at most; the pattern of the largest magnitude; how many numbers a block holds; how many parts there are at most;
-- the pattern that bounds t and tau of a sound state, and how many rounds it has closed at most
pub record Width : Type 0 where
  pub format : Format
  pub length : ℕ
  pub magnitude : ℕ
  pub block : ℕ
  pub parts : ℕ
  pub carried : ℕ
  pub rounds : ℕ

abbrev pub doubles : Width
doubles = record { format = binary64; length = 4094; magnitude = 0x7E70000000000000; block = 64; parts = 8; carried = 0x7F30000000000000; rounds = 50 }

-- at binary32, rules Y1 and Y2: magnitudes up to 2^100, t and tau up to 2^111
abbrev pub singles : Width
singles = record { format = binary32; length = 2046; magnitude = 0x71800000; block = 64; parts = 8; carried = 0x77000000; rounds = 19 }

-- rule L7: M; rule L9: B
abbrev pub exponent_of : ℕ → ℕ
exponent_of n = ceil (n + 2)

abbrev pub blocks_of : Width → ℕ → ℕ
blocks_of W n = rounded_up n W.block

-- the code's constants are these
pub record Tied (W : Width) (r : Limits) : Type 0 where
  pub length : r.length ≡ W.length
  pub magnitude : r.magnitude ≡ W.magnitude
  pub block : r.block ≡ W.block
  pub parts : r.parts ≡ W.parts
  pub carried : r.carried ≡ W.carried
  pub rounds : r.rounds ≡ W.rounds
