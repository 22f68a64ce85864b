-- A finite float as a whole number of units, and the float nearest to a whole number of units. Definitions only.
-- Rule L1 for every format: a unit is 2 ^ -low, its smallest positive value: 2 ^ -1074 at binary64, 2 ^ -149 at binary32.
use Rattle.std.specs.Prelude.{◌≡◌, Bool, true, false, cond, ℕ, zero, suc, ◌+◌, ◌-◌, ◌*◌, ◌/◌, ◌%◌, ◌^◌, ◌≤◌, ℤ, pos, negsuc, neg_ℤ, nat_abs, T, Float}
use Rattle.std.specs.Float.{nan, inf, fin, Format}
use Rattle.std.specs.Float.Ieee.{prec, emax, low, up, down, round, hid, top, fits}
use Rattle.std.specs.Float.Ieee.Nearest.{closest}
use Rattle.std.specs.Float.Ieee.Exact.{HasValue}
use Rattle.std.specs.Float.Ieee.Scale.{finite, overflow}
use Rattle.units.specs.Rounding.{dropped, fl}
use Rattle.units.specs.Whole.{Whole, nat, neg, int}

-- x is a number of the format f: held by it, no NaN and no infinity
pub record Number (f : Format) (x : Float) : Type 0 where
  pub fit : T (fits f x)
  pub fini : T (finite x)

-- the sign, and the magnitude in units. The division leaves no remainder at a float that the format holds.
unfoldable pub negative : Float → Bool
negative nan = false
negative (inf s) = s
negative (fin s m e) = s

unfoldable pub magnitude : Format → Float → ℕ
magnitude f nan = 0
magnitude f (inf s) = 0
magnitude f (fin s m e) = m * up e * 2 ^ low f / down e

-- ±n, as one of the language's integers and as a difference of naturals
abbrev pub signed : Bool → ℕ → ℤ
signed false n = pos n
signed true n = neg_ℤ (pos n)

abbrev pub signed_whole : Bool → ℕ → Whole
signed_whole false n = nat n
signed_whole true n = neg (nat n)

-- how many units a finite float is, in either way of writing
unfoldable pub value : Format → Float → ℤ
unfolding negative magnitude
value f x = signed (negative x) (magnitude f x)

unfoldable pub whole : Format → Float → Whole
unfolding negative magnitude
whole f x = signed_whole (negative x) (magnitude f x)

-- the float nearest to S units, a tie to the even significand: lib.Ieee's own rounding of S / 2 ^ low. A zero gets the sign z.
abbrev pub sign_of : Bool → ℤ → Bool
sign_of z (pos zero) = z
sign_of z (pos (suc n)) = false
sign_of z (negsuc n) = true

unfoldable pub nearest_float : Format → Bool → ℤ → Float
unfolding round
nearest_float f z S = round f (sign_of z S) (nat_abs S) (2 ^ low f)

-- rule G5: the least number of units whose nearest float is an infinity, half a place below `overflow`, which is 2 ^ (emax + 1) in units
abbrev pub limit : Format → ℕ
limit f = overflow f - 2 ^ (low f + emax f - prec f)

-- ---- statements about one float

-- x is ±n units
abbrev pub Is : Format → Float → Bool → ℕ → Type 0
Is f x s n = HasValue x s n (2 ^ low f)

-- a number of magnitude 2 ^ l to 2 ^ h units
pub record Between (f : Format) (l h : ℕ) (a : Float) : Type 0 where
  pub number : Number f a
  pub least : 2 ^ l ≤ magnitude f a
  pub most : magnitude f a ≤ 2 ^ h

-- x is a number of the format whose units are z rounded; a zero has the sign s
pub record RoundedTo (f : Format) (s : Bool) (z : Whole) (x : Float) : Type 0 where
  pub number : Number f x
  pub units : whole f x ≡ fl (prec f) z
  pub sign : negative x ≡ sign_of s (int z)

-- ---- bit patterns. r is a pattern without its sign, `b % top f`
-- the units that an exponent's field x and the digits t below the leading one stand for: a field of 0 has no leading digit, and counts as a field of 1
abbrev pub field_units : Format → ℕ → ℕ → ℕ
field_units f zero t = t
field_units f (suc x) t = (hid f + t) * 2 ^ x

unfoldable pub pattern_units : Format → ℕ → ℕ
pattern_units f r = field_units f (r / hid f) (r % hid f)

-- the pattern of ±n units, rounded: the digits dropped, times the weight of the exponent's field, plus the rounded quotient
abbrev pub rounded_bits : Format → Bool → ℕ → ℕ
rounded_bits f s n = cond s (top f) 0 + (dropped (prec f) n * hid f + closest n (2 ^ dropped (prec f) n))
