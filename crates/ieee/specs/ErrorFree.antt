-- The error-free product: Algorithms 1.1 and 1.2 of document 000 by the format's own operations, and what they stand for: a product is its rounding and an
-- error, both numbers of the format. Definitions only. Which factors are far enough from underflow and overflow is said by `Room`.
use Rattle.std.specs.Prelude.{◌≡◌, ℕ, ◌+◌, ◌*◌, ◌^◌, ◌≤◌, pos, ◌+ℤ◌, ◌*ℤ◌, Float}
use Rattle.std.specs.Float.{Format, binary32, binary64}
use Rattle.std.specs.Float.Ieee.{prec, emax, low, of_bits, sub, mul}
use Rattle.ieee.specs.Units.{Number, value}

-- ---- Algorithm 1.2, Split

-- half of the precision, rounded up, and the float 2 ^ halfPrec + 1, document 000's `factor`. (A factor, here, is one of two numbers that are multiplied.)
abbrev pub half_prec : Format → ℕ
half_prec binary32 = 12
half_prec binary64 = 27

abbrev pub splitter : Format → Float
splitter binary32 = of_bits binary32 0x45800800
splitter binary64 = of_bits binary64 0x41A0000002000000

-- c - (c - a) for c = splitter * a, and what that leaves of a
unfoldable pub upper_half : Format → Float → Float
upper_half f a = sub f (mul f (splitter f) a) (sub f (mul f (splitter f) a) a)

unfoldable pub lower_half : Format → Float → Float
lower_half f a = sub f a (upper_half f a)

-- ---- Algorithm 1.1, TwoProduct: the error of a rounded product, as its second line has it: the lower halves' product less what the other three leave of x
unfoldable pub product_error : Format → Float → Float → Float
product_error f a b =
    let a₁ = upper_half f a in
    let a₂ = lower_half f a in
    let b₁ = upper_half f b in
    let b₂ = lower_half f b in
    sub f (mul f a₂ b₂) (sub f (sub f (sub f (mul f a b) (mul f a₁ b₁)) (mul f a₂ b₁)) (mul f a₁ b₂))

-- ---- what it stands for

-- x and y are numbers of the format, and x + y is a times b exactly: a unit times a unit is 2 ^ -low units
pub record ErrorFree (f : Format) (a b x y : Float) : Type 0 where
  pub rounded : Number f x
  pub error : Number f y
  pub exact : pos (2 ^ low f) *ℤ (value f x +ℤ value f y) ≡ value f a *ℤ value f b

-- ---- factors of magnitude 2 ^ l to 2 ^ h units are far enough from underflow and overflow: the last places of two come to a unit or more, the multiple that
-- Split forms stays below 2 ^ emax, and so does every difference of products
pub record Room (f : Format) (l h : ℕ) : Type 0 where
  pub above : low f + 2 * prec f ≤ 2 * l + 2
  pub split : h + half_prec f + 4 ≤ low f + emax f
  pub below : 2 * h + 6 ≤ low f + (low f + emax f)
