-- The register's words and the whole number that they stand for: rule L11. Definitions only.
use Rattle.std.specs.Prelude.{ℕ, ◌*◌, List, ℤ}
use Rattle.lists.specs.Digits.{number, digits, signed, residue}

abbrev pub word_bits : ℕ
word_bits = 64

abbrev pub word_count : ℕ
word_count = 33

abbrev pub register_bits : ℕ
register_bits = word_bits * word_count

-- the whole number that words stand for, and the words of a whole number
abbrev pub whole_of : List ℕ → ℤ
whole_of ws = signed register_bits (number word_bits ws)

abbrev pub words_of : ℤ → List ℕ
words_of z = digits word_bits word_count (residue register_bits z)
