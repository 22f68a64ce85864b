-- Sheets that are written, computed: rule P5's list with a byte behind it, a NaN with a payload, no number, and a byte too few. Assumes nothing.
use Rattle.std.specs.Prelude.{◌≡◌, refl, [], ◌∷◌, ◌++◌, replicate}
use Rattle.lists.specs.Digits.{digits}
use Rattle.octets.specs.Octets.{joined}
use Rattle.kinds.specs.Limits.{doubles}
use Rattle.kinds.specs.Outcome.{outcome}
use Rattle.sheet.specs.Sheet.{sheet_of}
use Rattle.sheet.specs.Write.{written_of}
use Rattle.sheet.specs.Instances.{example_sheet, three}
use Rattle.sheet.specs.Written.{Wrote, Refused}

pub example_written : written_of doubles three (replicate 30 7) ≡ outcome (Wrote 29) (example_sheet ++ (7 ∷ []))
unfolding written_of sheet_of joined digits
example_written = refl

pub payload_written : written_of doubles (0x7FF0000000000203 ∷ []) (replicate 13 7)
    ≡ outcome (Wrote 13) (1 ∷ 0 ∷ 0 ∷ 0 ∷ 1 ∷ 0x7F ∷ 0xF0 ∷ 0 ∷ 0 ∷ 0 ∷ 0 ∷ 2 ∷ 3 ∷ [])
unfolding written_of sheet_of joined digits
payload_written = refl

pub none_written : written_of doubles [] (replicate 5 7) ≡ outcome (Wrote 5) (1 ∷ 0 ∷ 0 ∷ 0 ∷ 0 ∷ [])
unfolding written_of sheet_of joined digits
none_written = refl

pub a_byte_short : written_of doubles (0 ∷ []) (replicate 12 7) ≡ outcome (Refused 4 0) (replicate 12 7)
unfolding written_of
a_byte_short = refl
