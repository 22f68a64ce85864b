-- The sign of the words, and when an addition or a merge leaves their range. Definitions only.
use Rattle.std.specs.Prelude.{Bool, cond, not, ◌&&◌, List, ℕ, ◌-◌, ltb, eqb}
use Rattle.std.specs.Float.Ieee.{top}
use Rattle.lists.specs.SignedDigits.{top_bit}
use Rattle.kinds.specs.Limits.{doubles}
use Rattle.words.specs.Words.{word_bits, word_count}

-- the sign of the words
abbrev pub sign_bit : List ℕ → ℕ
sign_bit ws = top_bit word_bits (word_count - 1) ws

-- adding a number without a sign leaves the range where the top bit was clear and is set afterwards, adding a negative one where it was set and is clear
-- afterwards
abbrev pub leaves : ℕ → ℕ → ℕ → Bool
leaves p before after = cond (ltb p (top doubles.format)) (ltb before after) (ltb after before)

-- two numbers of one sign leave the range where their sum has the other
abbrev pub crosses : ℕ → ℕ → ℕ → Bool
crosses a b sum = eqb a b && not (eqb sum a)
