-- The exact register of rule L11: an addition, a withdrawal, and rounding. Definitions only.
use Rattle.std.specs.Prelude.{false, cond, not, List, ℕ, eqb, ℤ, ◌+ℤ◌, ◌-ℤ◌, length}
use Rattle.std.specs.Float.Ieee.Scale.{finite}
use Rattle.lists.specs.Digits.{inside}
use Rattle.words.specs.Words.{word_count, register_bits, whole_of, words_of}
use Rattle.ieee.specs.Units.{nearest_float}
use Rattle.kinds.specs.Limits.{doubles}
use Rattle.kinds.specs.Outcome.{Outcome, outcome}
use Rattle.kinds.specs.Entry.{Entry}
use Rattle.kinds.specs.Entry as entries
use Rattle.kinds.specs.Nearest.{Nearest}
use Rattle.kinds.specs.Nearest as nearests
use Rattle.judge.specs.Judge.{fault_of}
use Rattle.addend.specs.Addend.{units_of}

-- the answer, and the words afterwards
abbrev pub Changed : Type 0
Changed = Outcome Entry ℕ

-- rule O3, with rule R9: words ws, pattern p, and the whole number z that would be there afterwards
unfoldable pub enter : List ℕ → ℕ → ℤ → Changed
enter ws p z =
    cond (not (eqb (length ws) word_count)) (outcome (entries.Refused 4 0) ws)
    (cond (not (eqb (fault_of doubles p) 0)) (outcome (entries.Refused (fault_of doubles p) 0) ws)
    (cond (not (inside register_bits z)) (outcome (entries.Refused 9 0) ws)
    (outcome entries.Entered (words_of z))))

abbrev pub added : List ℕ → ℕ → Changed
added ws p = enter ws p (whole_of ws +ℤ units_of doubles p)

abbrev pub withdrawn : List ℕ → ℕ → Changed
withdrawn ws p = enter ws p (whole_of ws -ℤ units_of doubles p)

-- rules O4 and G4: 4, 10. The register doesn't know signs of zero.
unfoldable pub rounded : List ℕ → Nearest
rounded ws =
    cond (not (eqb (length ws) word_count)) (nearests.Refused 4 0)
    (cond (finite (nearest_float doubles.format false (whole_of ws))) (nearests.Sum (nearest_float doubles.format false (whole_of ws)))
    (nearests.Refused 10 0))
