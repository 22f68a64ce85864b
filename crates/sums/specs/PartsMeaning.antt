-- What the theorems of proofs/PartsMeaning.antt speak of. Definitions only.
use Rattle.std.specs.Prelude.{◌≡◌, Bool, List, [], ◌∷◌, Float}
use Rattle.std.proofs.Math.Bool.{false}
use Rattle.std.specs.Float.{Format}
use Rattle.ieee.specs.Units.{negative, magnitude}
use Rattle.lists.specs.Each.{Each}

-- ---- rules S3 and S4: a part that is zero is +0, but the first may have the sign of a zero sum
abbrev pub ZeroSigns : Format → Bool → List Float → Type 0
ZeroSigns f z [] = Unit {0}
ZeroSigns f z (x ∷ xs) = (magnitude f x ≡ 0 → negative x ≡ z) × Each (λ y. magnitude f y ≡ 0 → negative y ≡ false) xs
