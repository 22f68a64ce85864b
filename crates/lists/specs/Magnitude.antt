-- What the theorems of proofs/Magnitude.antt speak of. Definitions only.
use Rattle.std.specs.Prelude.{◌≡◌, List, ℕ, ◌+◌, ◌*◌, ◌^◌, ◌≤◌, take}
use Rattle.lists.specs.Digits.{number}

-- ---- negation, digit by digit: es has the lowest i digits of it, and c is the carry
pub record Negated (w : ℕ) (ds es : List ℕ) (i c : ℕ) : Type 0 where
  pub carry : c ≤ 1
  pub sum : number w (take i es) + number w (take i ds) + c * 2 ^ (w * i) ≡ 2 ^ (w * i)
