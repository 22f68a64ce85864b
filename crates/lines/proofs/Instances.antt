-- Lines of rules P4 and P5, computed: `refused 11`, `refused 3 at 1`, the three lines of the example, those of two sums that differ, and of two
-- that are -0. Assumes nothing.
use Rattle.std.specs.Prelude.{◌≡◌, refl, List, [], ◌∷◌, ◌++◌, ℕ, drop, Float}
use Rattle.kinds.specs.Heard.{place_of}
use Rattle.sheet.specs.Sheet.{read_of}
use Rattle.numerals.specs.Numerals.{decimal_in, capitals_of}
use Rattle.lines.specs.Lines.{count_line, faithful_line, nearest_line, refused_line, printed, lines_after, lines_of}
use Rattle.lines.specs.Instances.{example_lines, unequal_lines, minus_lines}

-- ---- a refusal: `refused 11`, `refused 3 at 1`, `refused 2 at 0`
pub refused_11 : refused_line 11 (place_of 11 0) ≡ 114 ∷ 101 ∷ 102 ∷ 117 ∷ 115 ∷ 101 ∷ 100 ∷ 32 ∷ 49 ∷ 49 ∷ 10 ∷ []
unfolding refused_line decimal_in
refused_11 = refl

pub refused_3_at_1 : refused_line 3 (place_of 3 1) ≡ 114 ∷ 101 ∷ 102 ∷ 117 ∷ 115 ∷ 101 ∷ 100 ∷ 32 ∷ 51 ∷ 32 ∷ 97 ∷ 116 ∷ 32 ∷ 49 ∷ 10 ∷ []
unfolding refused_line decimal_in
refused_3_at_1 = refl

pub refused_2_at_0 : refused_line 2 (place_of 2 0) ≡ 114 ∷ 101 ∷ 102 ∷ 117 ∷ 115 ∷ 101 ∷ 100 ∷ 32 ∷ 50 ∷ 32 ∷ 97 ∷ 116 ∷ 32 ∷ 48 ∷ 10 ∷ []
unfolding refused_line decimal_in
refused_2_at_0 = refl

-- a sheet of one byte, whatever the areas hold
pub one_byte : (numbers : List ℕ) (work : List Float) (text : List ℕ)
    → lines_of (2 ∷ []) numbers work text ≡ printed 11 numbers work (refused_line 11 (place_of 11 0) ++ drop 11 text)
unfolding read_of lines_after refused_line decimal_in
one_byte numbers work text = refl

pub three_lines : count_line 3 ++ faithful_line 0x3FF0000000000000 2 ++ nearest_line 0x3FF0000000000000 ≡ example_lines
unfolding count_line faithful_line nearest_line decimal_in capitals_of
three_lines = refl

pub unequal_lines_lem : count_line 3 ++ faithful_line 0x3FF0000000000000 1 ++ nearest_line 0x3FF0000000000001 ≡ unequal_lines
unfolding count_line faithful_line nearest_line decimal_in capitals_of
unequal_lines_lem = refl

pub minus_lines_lem : count_line 2 ++ faithful_line 0x8000000000000000 0 ++ nearest_line 0x8000000000000000 ≡ minus_lines
unfolding count_line faithful_line nearest_line decimal_in capitals_of
minus_lines_lem = refl
