-- The sum and the difference of two floats are the nearest float to the exact sum and difference of their units, overflow included. A sum that is exactly
-- zero is -0 where both are negative, and +0 otherwise. Assumes nothing.
use Rattle.std.specs.Prelude.{◌≡◌, refl, Bool, true, false, not, ◌&&◌, ℕ, zero, suc, ◌+◌, ◌-◌, ◌*◌, ◌^◌, ◌≤◌, ◌<◌, pos, neg_ℤ, nat_abs, ◌+ℤ◌, ◌-ℤ◌, T, ltb}
use Rattle.std.specs.Prelude.{Float}
use Rattle.std.proofs.Common.{sym, ap, ◌∙◌, inl, inr, mul-pos, arith, lt→ltb}
use Rattle.std.proofs.Math.Nat.{mul-sub}
use Rattle.std.proofs.Math.Arith.{le→nltb}
use Rattle.std.specs.Float.{nan, inf, fin, Format}
use Rattle.std.specs.Float.Ieee.{low, round, neg, sum, add, sub}
use Rattle.std.specs.Float.Ieee.Fits.{neg-fits}
use Rattle.std.specs.Float.Ieee.Bits.{is_true, is_false}
use Rattle.std.specs.Float.Ieee.Scale.{finite, round_same}
use Rattle.units.specs.Whole as W
use Rattle.units.specs.Whole.{Whole, ◌⊕◌, ◌≈◌, int}
use Rattle.units.proofs.Powers.{le_or_lt}
use Rattle.units.proofs.Integers.{int_same, int_plus, int_neg, int_mag, int_difference}
use Rattle.ieee.specs.Units.{Number, negative, magnitude, signed, signed_whole, value, whole, nearest_float}
use Rattle.ieee.proofs.Fractions.{ltb_scale, over_units}

-- ---- the two ways of writing a float's units
pub signed_int : (s : Bool) (n : ℕ) → signed s n ≡ int (signed_whole s n)
signed_int false n = sym (int_difference (pos n))
signed_int true n = sym (int_neg (signed_whole false n) ∙ ap neg_ℤ (int_difference (pos n)))

pub value_int : (f : Format) (x : Float) → value f x ≡ int (whole f x)
unfolding value whole
value_int f x = signed_int (negative x) (magnitude f x)

pub whole_mag : (f : Format) (x : Float) → W.mag (whole f x) ≡ magnitude f x
unfolding whole
whole_mag f x = of (negative x)
  where
    of : (s : Bool) → W.mag (signed_whole s (magnitude f x)) ≡ magnitude f x
    of false = omega arith
    of true = omega arith

pub value_mag : (f : Format) (x : Float) → nat_abs (value f x) ≡ magnitude f x
value_mag f x = ap nat_abs (value_int f x) ∙ int_mag (whole f x) ∙ whole_mag f x

-- ---- negation
pub neg_negative : (x : Float) → T (finite x) → negative (neg x) ≡ not (negative x)
unfolding negative neg
neg_negative nan u = absurd u
neg_negative (inf s) u = refl
neg_negative (fin s m e) u = refl

pub neg_magnitude : (f : Format) (x : Float) → magnitude f (neg x) ≡ magnitude f x
unfolding magnitude neg
neg_magnitude f nan = refl
neg_magnitude f (inf s) = refl
neg_magnitude f (fin s m e) = refl

neg_finite : (x : Float) → T (finite x) → T (finite (neg x))
unfolding neg
neg_finite nan u = u
neg_finite (inf s) u = u
neg_finite (fin s m e) u = u

pub neg_number : (f : Format) (x : Float) → Number f x → Number f (neg x)
neg_number f x X = record { fit = neg-fits f x X.fit; fini = neg_finite x X.fini }

pub neg_whole : (f : Format) (x : Float) → T (finite x) → whole f (neg x) ≡ W.neg (whole f x)
unfolding whole
neg_whole f x u = (λ i. signed_whole (neg_negative x u i) (neg_magnitude f x i)) ∙ opposite (negative x) (magnitude f x)
  where
    opposite : (s : Bool) (n : ℕ) → signed_whole (not s) n ≡ W.neg (signed_whole s n)
    opposite false n = refl
    opposite true n = refl

pub neg_value : (f : Format) (x : Float) → T (finite x) → value f (neg x) ≡ neg_ℤ (value f x)
neg_value f x u = value_int f (neg x) ∙ ap int (neg_whole f x u) ∙ int_neg (whole f x) ∙ ap neg_ℤ (sym (value_int f x))

-- ---- the sum: a common factor does not change it
sum_scale : (f : Format) (s t : Bool) (a b c k : ℕ) → 0 < c → 0 < k → sum f s (a * k) t (b * k) (c * k) ≡ sum f s a t b c
unfolding sum
sum_scale f s t a b c k C K = rw (
  ltb_scale a b K,
  ltb_scale b a K,
  reduced s (a * k + b * k) (a + b) (omega arith),
  reduced t (b * k - a * k) (b - a) (omega (arith, mul-sub k b a)),
  reduced (s && ltb b a) (a * k - b * k) (a - b) (omega (arith, mul-sub k a b)),
)
  where
    reduced : (s : Bool) (n w : ℕ) → n ≡ w * k → round f s n (c * k) ≡ round f s w c
    reduced s n w e = round_same f s n (c * k) w c (mul-pos C K) C (omega (arith, ap (λ (x : ℕ). x * c) e))

-- the float nearest to ±n units, where a zero has the sign z
pub nearest_at : (f : Format) (z : Bool) (w : Whole) (s : Bool) (n : ℕ) → w ≈ signed_whole s n → (n ≡ 0 → s ≡ z)
    → round f s n (2 ^ low f) ≡ nearest_float f z (int w)
unfolding nearest_float
nearest_at f z w s n e h = go s n h ∙ ap (nearest_float f z) (signed_int s n ∙ sym (int_same w (signed_whole s n) e))
  where
    go : (s : Bool) (n : ℕ) → (n ≡ 0 → s ≡ z) → round f s n (2 ^ low f) ≡ nearest_float f z (signed s n)
    go false zero h = ap (λ (s : Bool). round f s 0 (2 ^ low f)) (h refl)
    go false (suc n) h = refl
    go true zero h = ap (λ (s : Bool). round f s 0 (2 ^ low f)) (h refl)
    go true (suc n) h = refl

-- over 2 ^ low, by the two signs and which magnitude is the larger
yes : {a b : ℕ} → a < b → ltb a b ≡ true
yes {a} {b} h = is_true (ltb a b) (lt→ltb a b h)

no : {a b : ℕ} → b ≤ a → ltb a b ≡ false
no {a} {b} h = is_false (ltb a b) (le→nltb a b h)

sum_nearest : (f : Format) (s : Bool) (a : ℕ) (t : Bool) (b : ℕ) →
    sum f s a t b (2 ^ low f) ≡ nearest_float f (s && t) (int (signed_whole s a ⊕ signed_whole t b))
unfolding sum
sum_nearest f false a false b = nearest_at f false (W.nat a ⊕ W.nat b) false (a + b) (omega arith) (λ e. refl)
sum_nearest f true a true b = nearest_at f true (W.neg (W.nat a) ⊕ W.neg (W.nat b)) true (a + b) (omega arith) (λ e. refl)
sum_nearest f false a true b = elim (le_or_lt b a) [
  | inl h ↦ rw (no h) (nearest_at f false (W.nat a ⊕ W.neg (W.nat b)) false (a - b) (omega arith) (λ e. refl))
  | inr h ↦ rw (yes h) (nearest_at f false (W.nat a ⊕ W.neg (W.nat b)) true (b - a) (omega arith) (λ e. absurd (omega arith)))
]
sum_nearest f true a false b = elim (le_or_lt b a) [
  | inr h ↦ rw (yes h) (nearest_at f false (W.neg (W.nat a) ⊕ W.nat b) false (b - a) (omega arith) (λ e. refl))
  | inl h ↦ elim (le_or_lt a b) [
    | inl g ↦ rw (no h, no g) (nearest_at f false (W.neg (W.nat a) ⊕ W.nat b) false (a - b) (omega arith) (λ e. refl))
    | inr g ↦ rw (no h, yes g) (nearest_at f false (W.neg (W.nat a) ⊕ W.nat b) true (a - b) (omega arith) (λ e. absurd (omega arith)))
  ]
]

pub add_nearest : (f : Format) (x y : Float) → Number f x → Number f y → add f x y ≡ nearest_float f (negative x && negative y) (value f x +ℤ value f y)
unfolding add whole
add_nearest f x y X Y =
    over_units f (add f) (sum f) (λ s t m n e d. refl) (sum_scale f) x y X Y
    ∙ sum_nearest f (negative x) (magnitude f x) (negative y) (magnitude f y)
    ∙ ap (nearest_float f (negative x && negative y)) (int_plus (whole f x) (whole f y) ∙ sym (λ i. value_int f x i +ℤ value_int f y i))

pub sub_nearest : (f : Format) (x y : Float) → Number f x → Number f y → sub f x y ≡ nearest_float f (negative x && not (negative y)) (value f x -ℤ value f y)
unfolding sub
sub_nearest f x y X Y =
    add_nearest f x (neg y) X (neg_number f y Y)
    ∙ (λ i. nearest_float f (negative x && neg_negative y Y.fini i) (value f x +ℤ neg_value f y Y.fini i))
