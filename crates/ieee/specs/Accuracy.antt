-- A float that is a faithful rounding of S units, and one that is nearest to S units: what rule D2 says of sums; two that are the same or next to each other,
-- and one that is close to S units. Definitions only.
use Rattle.std.specs.Prelude.{◌≡◌, ◌-◌, ◌*◌, ◌%◌, ◌^◌, ◌≤◌, ◌<◌, ℤ, ◌-ℤ◌, nat_abs, ◌<ℤ◌, Float}
use Rattle.std.specs.Float.{Format}
use Rattle.std.specs.Float.Ieee.{prec, to_bits}
use Rattle.ieee.specs.Units.{Number, value}

-- rule S1: no number of the format lies strictly between x and S, and x is S where S is one
pub record FaithfulTo (f : Format) (S : ℤ) (x : Float) : Type 0 where
  pub number : Number f x
  pub above : (y : Float) → Number f y → value f x <ℤ value f y → value f y <ℤ S → ⊥
  pub below : (y : Float) → Number f y → S <ℤ value f y → value f y <ℤ value f x → ⊥
  pub exact : (y : Float) → Number f y → value f y ≡ S → value f x ≡ S

-- rule S2: no number of the format is nearer to S than x, and where another is as near, x has the even significand: its pattern's last digit is 0
pub record NearestTo (f : Format) (S : ℤ) (x : Float) : Type 0 where
  pub number : Number f x
  pub best : (y : Float) → Number f y → nat_abs (value f x -ℤ S) ≤ nat_abs (value f y -ℤ S)
  pub tie : (y : Float) → Number f y → nat_abs (value f y -ℤ S) ≡ nat_abs (value f x -ℤ S) → (value f y ≡ value f x → ⊥) → to_bits f x % 2 ≡ 0

-- rule S8: two numbers of the format, x below y, with no number of the format strictly between
pub record Neighbouring (f : Format) (x y : Float) : Type 0 where
  pub lower : Number f x
  pub higher : Number f y
  pub less : value f x <ℤ value f y
  pub none : (z : Float) → Number f z → value f x <ℤ value f z → value f z <ℤ value f y → ⊥

-- rule S8: x and y are one float, a zero with its sign, or neighbours, whichever is below
pub data EqualOrNeighbouring (f : Format) (x y : Float) : Type 0 where
  equal : x ≡ y → EqualOrNeighbouring f x y
  below : Neighbouring f x y → EqualOrNeighbouring f x y
  above : Neighbouring f y x → EqualOrNeighbouring f x y

-- rule S9: where S isn't zero, 2 ^ (prec - 1) times the distance from x to S is less than the magnitude of S
pub record CloseTo (f : Format) (S : ℤ) (x : Float) : Type 0 where
  pub close : 0 < nat_abs S → 2 ^ (prec f - 1) * nat_abs (value f x -ℤ S) < nat_abs S
