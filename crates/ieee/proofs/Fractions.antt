-- Two finite floats as fractions of one denominator: an operation that sees only what the fractions are worth can be worked out from the floats' units.
-- Assumes nothing.
use Rattle.std.specs.Prelude.{◌≡◌, refl, Bool, true, false, ℕ, ◌*◌, ◌^◌, ◌<◌, ℤ, T, ltb, eqb, Float}
use Rattle.std.proofs.Math.Path.{sym, ap}
use Rattle.std.proofs.Common.{◌∙◌, mul_comm, mul-lt-mul_of_pos_right, lt_of_mul-lt-mul_right, arith, ltb→lt, lt→ltb, eqb→eq}
use Rattle.std.proofs.Math.Nat.{mul-pos, eq_of_mul-eq-mul_right}
use Rattle.std.proofs.Math.Pow.{pow_pos}
use Rattle.std.specs.Float.Ieee.{nan, low, up, down}
use Rattle.std.specs.Float.{inf, fin, Format}
use Rattle.std.specs.Float.Ieee.Fits.{down_pos, eq→eqb}
use Rattle.ieee.specs.Units.{Number, negative, magnitude}
use Rattle.ieee.proofs.Finite.{facts}

-- ---- tests, and that a common factor does not change them
pub same_test : (a b : Bool) → (T a → T b) → (T b → T a) → a ≡ b
same_test true true h k = refl
same_test true false h k = absurd (h tt)
same_test false true h k = absurd (k tt)
same_test false false h k = refl

pub eqb_same : (a b c d : ℕ) → (a ≡ b → c ≡ d) → (c ≡ d → a ≡ b) → eqb a b ≡ eqb c d
eqb_same a b c d h k = same_test (eqb a b) (eqb c d) (λ t. eq→eqb (h (eqb→eq a b t))) (λ t. eq→eqb (k (eqb→eq c d t)))

module _ (a b : ℕ) {k : ℕ} (K : 0 < k) where
  pub eqb_scale : eqb (a * k) (b * k) ≡ eqb a b
  eqb_scale = eqb_same (a * k) (b * k) a b (eq_of_mul-eq-mul_right k K a b) (ap (λ (x : ℕ). x * k))

  pub ltb_scale : ltb (a * k) (b * k) ≡ ltb a b
  ltb_scale =
      same_test (ltb (a * k) (b * k)) (ltb a b)
      (λ t. lt→ltb a b (lt_of_mul-lt-mul_right k (ltb→lt (a * k) (b * k) t)))
      (λ t. lt→ltb (a * k) (b * k) (mul-lt-mul_of_pos_right (ltb→lt a b t) K))

-- ---- G is F of two fractions ±a / c and ±b / c, and F does not change when a, b and c are multiplied by one number
module _ {X : Type 0} (f : Format) (G : Float → Float → X) (F : Bool → ℕ → Bool → ℕ → ℕ → X)
    (opens : (s t : Bool) (m n : ℕ) (e d : ℤ) → G (fin s m e) (fin t n d) ≡ F s (m * up e * down d) t (n * up d * down e) (down e * down d))
    (scale : (s t : Bool) (a b c k : ℕ) → 0 < c → 0 < k → F s (a * k) t (b * k) (c * k) ≡ F s a t b c) where
  pub over_units : (x y : Float) → Number f x → Number f y →
      G x y ≡ F (negative x) (magnitude f x) (negative y) (magnitude f y) (2 ^ low f)
  unfolding negative
  over_units nan y X Y = absurd X.fini
  over_units (inf s) y X Y = absurd X.fini
  over_units (fin s m e) nan X Y = absurd Y.fini
  over_units (fin s m e) (inf t) X Y = absurd Y.fini
  over_units (fin s m e) (fin t n d) X Y =
      let l = 2 ^ low f in
      let c = down e * down d in
      let L = pow_pos (low f) in
      let C = mul-pos (down_pos e) (down_pos d) in
      let A = magnitude f (fin s m e) in
      let B = magnitude f (fin t n d) in
      let a : m * up e * down d * l ≡ A * c = omega (arith, ap (λ (x : ℕ). x * down d) (facts f (fin s m e) X).is.1) in
      let b : n * up d * down e * l ≡ B * c = omega (arith, ap (λ (x : ℕ). x * down e) (facts f (fin t n d) Y).is.1) in
      opens s t m n e d
      ∙ sym (scale s t (m * up e * down d) (n * up d * down e) c l C L)
      ∙ (λ i. F s (a i) t (b i) (mul_comm c l i))
      ∙ scale s t A B l c L C
