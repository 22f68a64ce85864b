-- What a call answers, beside what it leaves in the area that it was lent. Definitions only.
use Rattle.std.specs.Prelude.{List}

pub record Outcome (A X : Type 0) : Type 0 where
  pub answer : A
  pub area : List X

abbrev pub outcome : {A X : Type 0} → A → List X → Outcome A X
outcome a xs = record { answer = a; area = xs }
