-- The float nearest to a product in units of a unit: of whole units it is the nearest float, of two numbers neither of which is zero the format's own product,
-- and +0 of a zero. Assumes nothing.
use Rattle.std.specs.Prelude.{◌≡◌, Bool, ℕ, zero, suc, ◌*◌, ◌^◌, ◌<◌, ℤ, negsuc, ◌*ℤ◌, Float}
use Rattle.std.proofs.Math.Path.{refl, sym, ap}
use Rattle.std.proofs.Common.{◌∙◌, mul-pos, arith, pow_pos}
use Rattle.std.proofs.Math.Bool.{true, false}
use Rattle.std.proofs.Math.IntN.{pos, neg_ℤ, nat_abs, zero-*ℤ, *ℤ-zero}
use Rattle.std.specs.Float.{Format}
use Rattle.std.specs.Float.Ieee.{prec, low, unlike, round, mul}
use Rattle.std.specs.Float.Ieee.Scale.{round_same}
use Rattle.units.proofs.NaturalRounding.{exact}
use Rattle.units.proofs.ScaledSums.{scale_abs}
use Rattle.ieee.specs.Units.{Number, negative, magnitude, signed, value, sign_of, nearest_float, limit}
use Rattle.ieee.proofs.Finite.{facts, is_units}
use Rattle.ieee.proofs.Rounded.{prec_pos}
use Rattle.ieee.proofs.Sum.{value_mag}
use Rattle.ieee.proofs.Product.{mul_number}
use Rattle.ieee.proofs.Overflow.{nearest_is}
use Rattle.pairs.specs.Pairs.{nearest_product}

-- ---- signs and magnitudes
positive : (n : ℕ) → sign_of false (pos n) ≡ false
positive zero = refl
positive (suc n) = refl

negated : (n : ℕ) → 0 < n → sign_of false (neg_ℤ (pos n)) ≡ true
negated zero h = absurd (omega arith)
negated (suc n) h = refl

neg_abs : (n : ℕ) → nat_abs (neg_ℤ (pos n)) ≡ n
neg_abs zero = refl
neg_abs (suc n) = refl

scale_sign : (c : ℕ) → 0 < c → (S : ℤ) → sign_of false (pos c *ℤ S) ≡ sign_of false S
scale_sign c h (pos n) = positive (c * n) ∙ sym (positive n)
scale_sign c h (negsuc n) = negated (c * suc n) (mul-pos h (omega arith))

signed_abs : (s t : Bool) (a b : ℕ) → nat_abs (signed s a *ℤ signed t b) ≡ a * b
signed_abs false false a b = refl
signed_abs false true a zero = omega arith
signed_abs false true a (suc b) = neg_abs (a * suc b)
signed_abs true false zero b = omega arith
signed_abs true false (suc a) b = neg_abs (suc a * b)
signed_abs true true zero zero = omega arith
signed_abs true true zero (suc b) = neg_abs (0 * suc b)
signed_abs true true (suc a) zero = neg_abs (suc a * 0)
signed_abs true true (suc a) (suc b) = refl

signed_sign : (s t : Bool) (a b : ℕ) → 0 < a → 0 < b → sign_of false (signed s a *ℤ signed t b) ≡ unlike s t
signed_sign false false a b h k = positive (a * b)
signed_sign false true a zero h k = absurd (omega arith)
signed_sign false true a (suc b) h k = negated (a * suc b) (mul-pos h k)
signed_sign true false zero b h k = absurd (omega arith)
signed_sign true false (suc a) b h k = negated (suc a * b) (mul-pos h k)
signed_sign true true zero b h k = absurd (omega arith)
signed_sign true true (suc a) zero h k = absurd (omega arith)
signed_sign true true (suc a) (suc b) h k = positive (suc a * suc b)

again : (z : Bool) (S : ℤ) → signed (sign_of z S) (nat_abs S) ≡ S
again false (pos zero) = refl
again true (pos zero) = refl
again z (pos (suc n)) = refl
again z (negsuc n) = refl

module _ (f : Format) where
  abbrev l : ℕ
  l = 2 ^ low f

  -- S whole units are 2 ^ low times S units of a unit
  pub nearest_scaled : (S : ℤ) → nearest_product f (pos (2 ^ low f) *ℤ S) ≡ nearest_float f false S
  unfolding nearest_product nearest_float
  nearest_scaled S =
      (λ i. round f (scale_sign l (pow_pos (low f)) S i) (scale_abs l S i) (l * l))
      ∙ round_same f (sign_of false S) (l * nat_abs S) (l * l) (nat_abs S) l (mul-pos (pow_pos (low f)) (pow_pos (low f))) (pow_pos (low f)) (omega arith)

  -- neither is zero
  pub nearest_mul : (x y : Float) → Number f x → Number f y → 0 < magnitude f x → 0 < magnitude f y → nearest_product f (value f x *ℤ value f y) ≡ mul f x y
  unfolding nearest_product value
  nearest_mul x y X Y h k =
      (λ i. round f (signed_sign (negative x) (negative y) (magnitude f x) (magnitude f y) h k i)
      (signed_abs (negative x) (negative y) (magnitude f x) (magnitude f y) i) (l * l))
      ∙ sym (mul_number f x y X Y)

  -- one is
  pub zero_product : (x y : Float) → magnitude f x ≡ 0 → value f x *ℤ value f y ≡ pos 0
  unfolding value
  zero_product x y e = ap (λ (z : ℤ). z *ℤ value f y) (go (negative x) (magnitude f x) e) ∙ zero-*ℤ (value f y)
    where
      go : (s : Bool) (n : ℕ) → n ≡ 0 → signed s n ≡ pos 0
      go false n e = ap pos e
      go true n e = ap (λ (n : ℕ). neg_ℤ (pos n)) e

  pub nearest_zero : nearest_product f (pos 0) ≡ nearest_float f false (pos 0)
  nearest_zero = ap (nearest_product f) (sym (*ℤ-zero (pos l))) ∙ nearest_scaled (pos 0)

  spelled : (x : Float) → value f x ≡ signed (negative x) (magnitude f x)
  unfolding value
  spelled x = refl

  -- ---- the nearest float of a number's own units has them
  pub nearest_own : (z : Bool) (y : Float) → Number f y → magnitude f y < limit f → value f (nearest_float f z (value f y)) ≡ value f y
  nearest_own z y Y h =
      let S = value f y in
      let m : nat_abs S ≡ magnitude f y = value_mag f y in
      let is = is_units f (nearest_float f z S) (sign_of z S) _ (nearest_is f z S (rw m h)) in
      spelled (nearest_float f z S)
      ∙ (λ i. signed (is.0 i) (is.1 i))
      ∙ ap (signed (sign_of z S)) (exact (prec f) (prec_pos f) (rw m (facts f y Y).short))
      ∙ again z S
