-- The two numbers of a pair that has no fault are what is promised of them, and what Algorithm 1.1 finds, where the limits leave room for it. Assumes nothing.
use Rattle.std.specs.Prelude.{◌≡◌, refl, ◌⊎◌, Bool, true, false, ◌||◌, ℕ, ◌%◌, ◌^◌, ◌≤◌, ◌<◌, eqb, ℤ, pos, nat_abs, ◌+ℤ◌, ◌-ℤ◌, ◌*ℤ◌, Float}
use Rattle.std.proofs.Common.{sym, ap, ◌∙◌, inl, inr, le_trans, lt_of_lt_of_le, lt_of_le_of_lt, arith, eqb-true, pow_pos}
use Rattle.std.proofs.lemmas.Bool.{eqb-false}
use Rattle.std.proofs.Math.IntN.{*ℤ-zero, *ℤ_comm}
use Rattle.std.specs.Float.{Format}
use Rattle.std.specs.Float.Ieee.{low, top, mul, add, of_bits, to_bits}
use Rattle.std.specs.Float.Ieee.Bits.{of_bits-fits, of_bits-to_bits}
use Rattle.units.proofs.ScaledSums.{scale_plus, plus_minus}
use Rattle.ieee.specs.Units.{Number, Between, magnitude, value, nearest_float, limit}
use Rattle.ieee.specs.ErrorFree.{product_error, ErrorFree}
use Rattle.ieee.proofs.TwoProduct.{two_product, product_small, error_smaller}
use Rattle.ieee.proofs.Sum.{value_mag}
use Rattle.ieee.proofs.Overflow.{power_below}
use Rattle.ieee.proofs.PatternBounds.{finite_below}
use Rattle.ieee.proofs.Nearest.{nearest_number}
use Rattle.ieee.proofs.Zeros.{zero_bits, zero_value, add_plus}
use Rattle.lists.proofs.Apart.{apart}
use Rattle.kinds.specs.Limits.{Width}
use Rattle.judge.specs.Table.{size_of, most}
use Rattle.pairs.specs.Limits.{Pairing}
use Rattle.pairs.specs.Pairs.{Pair, exact_product, nearest_product, product_of, error_of, pair_fault}
use Rattle.pairs.specs.Table.{Finite, Ranged}
use Rattle.pairs.specs.Promise.{TwoNumbers}
use Rattle.pairs.proofs.FaultLaws.{pair_0, nothing}
use Rattle.pairs.proofs.ProductLaws.{nearest_scaled, nearest_mul, zero_product, nearest_zero, nearest_own}
use Rattle.pairs.specs.PairLaws.{Roomy}

-- ---- from the product as a float and the error in units
module _ (W : Width) (c : Pair) where
  abbrev f : Format
  f = W.format

  abbrev a : Float
  a = of_bits f c.0

  abbrev b : Float
  b = of_bits f c.1

  -- the error of a product that is x + y
  pub error_is : (x : Float) (S : ℤ) → product_of W.format c ≡ x → pos (2 ^ low W.format) *ℤ (value W.format x +ℤ S) ≡ exact_product W.format c
      → error_of W.format c ≡ nearest_float W.format false S
  error_is x S e t =
      let l = pos (2 ^ low f) in
      let same : exact_product f c -ℤ l *ℤ value f (product_of f c) ≡ l *ℤ S =
      (λ i. (sym t ∙ scale_plus (2 ^ low f) (value f x) S) i -ℤ l *ℤ value f (e i)) ∙ plus_minus (l *ℤ value f x) (l *ℤ S) in
      ap (nearest_product f) same ∙ nearest_scaled f S

  two_numbers : (x : Float) (S : ℤ) → product_of f c ≡ x → pos (2 ^ low f) *ℤ (value f x +ℤ S) ≡ exact_product f c
      → Number f x → magnitude f x ≤ most W
      → Number f (nearest_float f false S) → magnitude f (nearest_float f false S) ≤ most W → value f (nearest_float f false S) ≡ S
      → (0 < magnitude f a → 0 < magnitude f b → x ≡ mul f a b)
      → ((magnitude f a ≡ 0) ⊎ (magnitude f b ≡ 0) → (to_bits f x ≡ 0) × (S ≡ pos 0))
      → TwoNumbers W c (to_bits f (product_of f c)) (to_bits f (error_of f c))
  two_numbers x S p t X x_small Y y_small own r z =
      let y = nearest_float f false S in
      rw (error_is x S p t, p) (record {
        product = rw (of_bits-to_bits f x X.fit) X;
        error = rw (of_bits-to_bits f y Y.fit) Y;
        small_product = rw (of_bits-to_bits f x X.fit) x_small;
        small_error = rw (of_bits-to_bits f y Y.fit) y_small;
        exact = rw (of_bits-to_bits f x X.fit, of_bits-to_bits f y Y.fit, own) t;
        rounded = λ g h. of_bits-to_bits f x X.fit ∙ r g h;
        zeros = λ g. ((z g).0, plus_zero_lem (z g).1);
        plus = λ e. plus_zero_lem (sym own ∙ sym (ap (value f) (of_bits-to_bits f y Y.fit)) ∙ e);
      })
    where
      plus_zero_lem : S ≡ pos 0 → to_bits f (nearest_float f false S) ≡ 0
      plus_zero_lem e = ap (λ (S : ℤ). to_bits f (nearest_float f false S)) e ∙ zero_bits f false

  -- ---- one of the two is zero: +0 twice
  module _ (e : exact_product f c ≡ pos 0) where
    product_zero : product_of f c ≡ nearest_float f false (pos 0)
    product_zero = ap (nearest_product f) e ∙ nearest_zero f

    pub zero_exact : pos (2 ^ low W.format) *ℤ (value W.format (nearest_float W.format false (pos 0)) +ℤ pos 0) ≡ exact_product W.format c
    zero_exact = ap (λ (z : ℤ). pos (2 ^ low f) *ℤ (z +ℤ pos 0)) (zero_value f false) ∙ *ℤ-zero (pos (2 ^ low f)) ∙ sym e

    pub zero_pair : (to_bits W.format (product_of W.format c) ≡ 0) × (to_bits W.format (error_of W.format c) ≡ 0)
    zero_pair = (
      ap (to_bits f) product_zero ∙ zero_bits f false,
      ap (to_bits f) (error_is (nearest_float f false (pos 0)) (pos 0) product_zero zero_exact) ∙ zero_bits f false,
    )

  pub zero_factor : (magnitude W.format (of_bits W.format c.0) ≡ 0) ⊎ (magnitude W.format (of_bits W.format c.1) ≡ 0)
      → exact_product W.format c ≡ pos 0
  zero_factor (inl z) = zero_product f a b z
  zero_factor (inr z) = *ℤ_comm (value f a) (value f b) ∙ zero_product f b a z

  zero_numbers : (magnitude f a ≡ 0) ⊎ (magnitude f b ≡ 0) → TwoNumbers W c (to_bits f (product_of f c)) (to_bits f (error_of f c))
  zero_numbers z =
      let Z = nearest_float f false (pos 0) in
      let e = zero_factor z in
      let positive : 0 < limit f = omega (arith, power_below f {k = 0} (omega arith)) in
      let n : Number f Z = nearest_number f false (pos 0) positive in
      let m : magnitude f Z ≡ 0 = sym (value_mag f Z) ∙ ap nat_abs (zero_value f false) in
      two_numbers Z (pos 0) (product_zero e) (zero_exact e) n (omega (arith, m)) n (omega (arith, m)) (zero_value f false)
      (λ g h. absurd (elim z [ inl n ↦ omega arith | inr n ↦ omega arith ]))
      (λ g. (zero_bits f false, refl))

-- ---- neither is: the product is the format's, and the error what Algorithm 1.1 finds
module _ (P : Pairing) (R : Roomy P) (c : Pair) (A : Between P.width.format R.l R.h (of_bits P.width.format c.0))
    (B : Between P.width.format R.l R.h (of_bits P.width.format c.1)) where
  abbrev g : Format
  g = P.width.format

  abbrev x : Float
  x = mul g (of_bits g c.0) (of_bits g c.1)

  abbrev y : Float
  y = product_error g (of_bits g c.0) (of_bits g c.1)

  E : ErrorFree g (of_bits g c.0) (of_bits g c.1) x y
  E = two_product R.room A B

  positive : {z : Float} → Between g R.l R.h z → 0 < magnitude g z
  positive Z = lt_of_lt_of_le (pow_pos R.l) Z.least

  pub product_mul : product_of P.width.format c ≡ mul P.width.format (of_bits P.width.format c.0) (of_bits P.width.format c.1)
  product_mul = nearest_mul g (of_bits g c.0) (of_bits g c.1) A.number B.number (positive A) (positive B)

  error_nearest : error_of g c ≡ nearest_float g false (value g y)
  error_nearest = error_is P.width c x (value g y) product_mul E.exact

  -- an error of -0 is made +0
  pub error_add : let f = P.width.format in
      error_of f c ≡ add f (product_error f (of_bits f c.0) (of_bits f c.1)) (of_bits f 0)
  error_add = error_nearest ∙ sym (add_plus E.error)

  below_limit : magnitude g y < limit g
  below_limit = lt_of_le_of_lt (error_smaller R.room A B) (power_below g (omega (arith, R.room.below)))

  own : value g (nearest_float g false (value g y)) ≡ value g y
  own = nearest_own g false y E.error below_limit

  pub product_number : Number P.width.format (product_of P.width.format c)
  product_number = rw product_mul E.rounded

  pub error_number : Number P.width.format (error_of P.width.format c)
  error_number = rw error_nearest (nearest_number g false (value g y) (rw (value_mag g y) below_limit))

  product_numbers : TwoNumbers P.width c (to_bits g (product_of g c)) (to_bits g (error_of g c))
  product_numbers =
      let z = nearest_float g false (value g y) in
      let m : magnitude g z ≡ magnitude g y = sym (value_mag g z) ∙ ap nat_abs own ∙ value_mag g y in
      two_numbers P.width c x (value g y) product_mul E.exact E.rounded (le_trans (product_small R.room A B) R.small)
      (nearest_number g false (value g y) (rw (value_mag g y) below_limit)) (rw m (le_trans (error_smaller R.room A B) R.small)) own
      (λ g h. refl)
      (λ n. absurd (elim n [ inl e ↦ omega (arith, e, positive A) | inr e ↦ omega (arith, e, positive B) ]))

-- ---- every pair that has no fault
module _ (P : Pairing) (R : Roomy P) where
  between : (p : ℕ) → Finite P p → (size_of P.width P.least ≤ size_of P.width p) × (size_of P.width p ≤ size_of P.width P.most)
      → Between P.width.format R.l R.h (of_bits P.width.format p)
  between p t s = record {
    number = record { fit = of_bits-fits P.width.format p; fini = t };
    least = le_trans R.above s.0;
    most = le_trans s.1 R.below;
  }

  pub each_pair : (c : Pair) → pair_fault P c ≡ 0
      → TwoNumbers P.width c (to_bits P.width.format (product_of P.width.format c)) (to_bits P.width.format (error_of P.width.format c))
  each_pair c e = go ((pair_0 P c).0 e)
    where
      go : (Finite P c.0 × Ranged P c.0) × (Finite P c.1 × Ranged P c.1)
          → TwoNumbers P.width c (to_bits P.width.format (product_of P.width.format c)) (to_bits P.width.format (error_of P.width.format c))
      go ((s, inl z), t) = zero_numbers P.width c (inl z)
      go ((s, inr r), (t, inl z)) = zero_numbers P.width c (inr z)
      go ((s, inr r), (t, inr q)) = product_numbers P R c (between c.0 s r) (between c.1 t q)

-- ---- as the code tests for a zero, by the patterns without their signs
module _ (P : Pairing) (R : Roomy P) (c : Pair) (e : pair_fault P c ≡ 0) where
  abbrev k : Format
  k = P.width.format

  sides : (Finite P c.0 × Ranged P c.0) × (Finite P c.1 × Ranged P c.1)
  sides = (pair_0 P c).0 e

  same : (eqb (c.0 % top k) 0 || eqb (c.1 % top k) 0) ≡ (eqb (size_of P.width c.0) 0 || eqb (size_of P.width c.1) 0)
  same = λ i. nothing P c.0 (finite_below k c.0 sides.0.0) i || nothing P c.1 (finite_below k c.1 sides.1.0) i

  pub tested_zero : (eqb (c.0 % top P.width.format) 0 || eqb (c.1 % top P.width.format) 0) ≡ true
      → (to_bits P.width.format (product_of P.width.format c) ≡ 0) × (to_bits P.width.format (error_of P.width.format c) ≡ 0)
  tested_zero t = zero_pair P.width c (zero_factor P.width c (go _ _ (eqb-true _ _) (eqb-true _ _) (sym same ∙ t)))
    where
      go : (a b : Bool) → (a ≡ true → size_of P.width c.0 ≡ 0) → (b ≡ true → size_of P.width c.1 ≡ 0) → (a || b) ≡ true
          → (size_of P.width c.0 ≡ 0) ⊎ (size_of P.width c.1 ≡ 0)
      go true b f g t = inl (f refl)
      go false true f g t = inr (g refl)
      go false false f g t = apart (cc)

  module _ (t : (eqb (c.0 % top P.width.format) 0 || eqb (c.1 % top P.width.format) 0) ≡ false) where
    neither : (size_of P.width c.0 ≡ 0 → ⊥) × (size_of P.width c.1 ≡ 0 → ⊥)
    neither = go _ _ (eqb-false _ _) (eqb-false _ _) (sym same ∙ t)
      where
        go : (a b : Bool) → (a ≡ false → size_of P.width c.0 ≡ 0 → ⊥) → (b ≡ false → size_of P.width c.1 ≡ 0 → ⊥) → (a || b) ≡ false
            → (size_of P.width c.0 ≡ 0 → ⊥) × (size_of P.width c.1 ≡ 0 → ⊥)
        go true b f g t = apart (cc)
        go false true f g t = apart (cc)
        go false false f g t = (f refl, g refl)

    ranged : (p : ℕ) → Finite P p → Ranged P p → (size_of P.width p ≡ 0 → ⊥) → Between k R.l R.h (of_bits k p)
    ranged p s (inl z) n = absurd (n z)
    ranged p s (inr r) n = between P R p s r

    pub tested_first : Between P.width.format R.l R.h (of_bits P.width.format c.0)
    tested_first = ranged c.0 sides.0.0 sides.0.1 neither.0

    pub tested_second : Between P.width.format R.l R.h (of_bits P.width.format c.1)
    tested_second = ranged c.1 sides.1.0 sides.1.1 neither.1
