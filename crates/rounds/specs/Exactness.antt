-- What rule WE1 says of a place and of tau as a block is taken. Definitions only.
use Rattle.std.specs.Prelude.{◌≡◌, false, List, [], ◌∷◌, ◌+ℤ◌, ◌-ℤ◌, Float}
use Rattle.std.specs.Float.{Format}
use Rattle.std.specs.Float.Ieee.{add}
use Rattle.ieee.specs.Units.{Number, magnitude, negative, value}
use Rattle.extract.specs.Extract.{high_part, remainder_of}

-- Both subtractions of rule WB1 are exact in units: q is the rounded sum less sigma, and the remainder is p less q. All three are numbers.
pub record Exact (f : Format) (sigma x : Float) : Type 0 where
  pub raised_number : Number f (add f sigma x)
  pub high_number : Number f (high_part f sigma x)
  pub remainder_number : Number f (remainder_of f sigma x)
  pub high : value f (high_part f sigma x) ≡ value f (add f sigma x) -ℤ value f sigma
  pub remainder : value f (remainder_of f sigma x) ≡ value f x -ℤ value f (high_part f sigma x)

-- the additions to tau, each of them, in rising order: exact, and none leaves -0
abbrev pub ExactSums : Format → Float → Float → List Float → Type 0
ExactSums f sigma tau [] = Unit {0}
ExactSums f sigma tau (x ∷ xs) =
    let next = add f tau (high_part f sigma x) in
    Number f next × (magnitude f next ≡ 0 → negative next ≡ false) × (value f next ≡ value f tau +ℤ value f (high_part f sigma x))
    × ExactSums f sigma next xs
