-- A text that bytes were put behind: it is still in the same lent area. Definitions only.
use Rattle.std.specs.Prelude.{◌≡◌, List, ℕ}
use Rattle.numerals.specs.Text.{Placed}
use Rattle.numerals.specs.declared.Text.{Text}

pub record Put (bytes : List ℕ) (before after : Text) : Type 0 where
  pub same : after.area.ghost_name ≡ before.area.ghost_name
  pub placed : Placed bytes before.end before.area.now after.end after.area.now
