-- The lines that the sheet program prints, as bytes, and what is left of the areas that it lends. Definitions only.
use Rattle.std.specs.Prelude.{List, [], ◌∷◌, ◌++◌, ℕ, length, take, drop, Float}
use Rattle.std.specs.Float.Ieee.{to_bits}
use Rattle.kinds.specs.Limits.{doubles}
use Rattle.kinds.specs.Heard.{Place, nowhere, at, place_of}
use Rattle.kinds.specs.Step.{Step}
use Rattle.kinds.specs.Step as steps
use Rattle.kinds.specs.Nearest.{Nearest}
use Rattle.kinds.specs.Nearest as nearests
use Rattle.kinds.specs.Sheet.{Sheet}
use Rattle.kinds.specs.Sheet as sheets
use Rattle.sheet.specs.Sheet.{read_of}
use Rattle.walk.specs.Walk.{faithful_of}
use Rattle.sums.specs.Sums.{nearest_of}
use Rattle.numerals.specs.Numerals.{decimal_of, hex_of}

-- ---- words: `count `, `faithful `, ` rounds `, `nearest `, `refused `, ` at `, and the end of a line
abbrev pub count_word : List ℕ
count_word = 99 ∷ 111 ∷ 117 ∷ 110 ∷ 116 ∷ 32 ∷ []

abbrev pub faithful_word : List ℕ
faithful_word = 102 ∷ 97 ∷ 105 ∷ 116 ∷ 104 ∷ 102 ∷ 117 ∷ 108 ∷ 32 ∷ []

abbrev pub rounds_word : List ℕ
rounds_word = 32 ∷ 114 ∷ 111 ∷ 117 ∷ 110 ∷ 100 ∷ 115 ∷ 32 ∷ []

abbrev pub nearest_word : List ℕ
nearest_word = 110 ∷ 101 ∷ 97 ∷ 114 ∷ 101 ∷ 115 ∷ 116 ∷ 32 ∷ []

abbrev pub refused_word : List ℕ
refused_word = 114 ∷ 101 ∷ 102 ∷ 117 ∷ 115 ∷ 101 ∷ 100 ∷ 32 ∷ []

abbrev pub at_word : List ℕ
at_word = 32 ∷ 97 ∷ 116 ∷ 32 ∷ []

abbrev pub line_end : List ℕ
line_end = 10 ∷ []

-- ---- the lines of rule P2
unfoldable pub count_line : ℕ → List ℕ
count_line n = count_word ++ decimal_of n ++ line_end

unfoldable pub faithful_line : ℕ → ℕ → List ℕ
faithful_line p rounds = faithful_word ++ hex_of p ++ (rounds_word ++ decimal_of rounds) ++ line_end

unfoldable pub nearest_line : ℕ → List ℕ
nearest_line p = nearest_word ++ hex_of p ++ line_end

-- rule P4
unfoldable pub refused_line : ℕ → Place → List ℕ
refused_line k nowhere = refused_word ++ decimal_of k ++ line_end
refused_line k (at p) = refused_word ++ decimal_of k ++ (at_word ++ decimal_of p) ++ line_end

-- of a list of n numbers, from its faithful and its nearest sum. The undivided call answers no state (runs/AnswerNumbers).
unfoldable pub sum_lines : ℕ → Step → Nearest → List ℕ
sum_lines n (steps.More s told) near = []
sum_lines n (steps.Refused k p) near = refused_line k (place_of k p)
sum_lines n (steps.Done x rounds) (nearests.Refused k p) = refused_line k (place_of k p)
sum_lines n (steps.Done x rounds) (nearests.Sum y) =
    count_line n ++ faithful_line (to_bits doubles.format x) rounds ++ nearest_line (to_bits doubles.format y)

-- of a list, with the work area that its walk is lent
unfoldable pub list_lines : List ℕ → List Float → List ℕ
list_lines ps work = sum_lines (length ps) (faithful_of doubles ps work).answer (nearest_of doubles ps)

-- ---- how many bytes are printed, and the areas afterwards
pub record Printed : Type 0 where
  pub count : ℕ
  pub numbers : List ℕ
  pub work : List Float
  pub text : List ℕ

abbrev pub printed : ℕ → List ℕ → List Float → List ℕ → Printed
printed count numbers work text = record { count = count; numbers = numbers; work = work; text = text }

-- the lines stand at the start of the text, the rest of it untouched
abbrev pub printing : List ℕ → List ℕ → List Float → List ℕ → Printed
printing lines numbers work text = printed (length lines) numbers work (lines ++ drop (length lines) text)

-- Rules P2 and P4. Of an accepted sheet the first n numbers are those that were read; the walk has as many places of the work area.
unfoldable pub lines_after : Sheet → List ℕ → List Float → List ℕ → Printed
lines_after (sheets.Refused k p) numbers work text = printing (refused_line k (place_of k p)) numbers work text
lines_after (sheets.Read n) numbers work text =
    let ps = take n numbers in
    printing (list_lines ps (take n work)) numbers ((faithful_of doubles ps (take n work)).area ++ drop n work) text

-- from a sheet's bytes
abbrev pub lines_of : List ℕ → List ℕ → List Float → List ℕ → Printed
lines_of sheet numbers work text = let r = read_of doubles sheet numbers in lines_after r.answer r.area work text

-- as many bytes as the longest lines have, those of 4,094 numbers and two digits of rounds
abbrev pub longest : ℕ
longest = 72
