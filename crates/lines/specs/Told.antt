-- What a call that may refuse a list did with its lines: they were put behind a text; or the text is as it was, and they are the line of that refusal.
-- Definitions only.
use Rattle.std.specs.Prelude.{◌≡◌, List, ℕ, ⊤, Result, Ok, Err}
use Rattle.kinds.specs.Heard.{place_of}
use Rattle.kinds.specs.Refusals.{number, place}
use Rattle.kinds.specs.declared.refusal.Refusal.{Refusal}
use Rattle.numerals.specs.Put.{Put}
use Rattle.numerals.specs.declared.Text.{Text}
use Rattle.lines.specs.Lines.{refused_line}

abbrev pub Told : List ℕ → Result ⊤ Refusal → Text → Text → Type 0
Told lines (Ok x) before after = Put lines before after
Told lines (Err r) before after = (after ≡ before) × (lines ≡ refused_line (number r) (place_of (number r) (place r)))
