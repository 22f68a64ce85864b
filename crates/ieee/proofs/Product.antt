-- Multiplication in units: the product is lib.Ieee's rounding of the exact product of magnitudes, in units of a unit; where that comes to whole units it is
-- their rounding, and exact where they have at most prec bits. So a power of two scales exactly. Assumes nothing.
use Rattle.std.specs.Prelude.{◌≡◌, Bool, ℕ, ◌*◌, ◌^◌, Float}
use Rattle.std.proofs.Common.{◌∙◌, mul_assoc, mul-pos, pow_pos}
use Rattle.std.proofs.Math.Nat.{mul-mul-mul_comm}
use Rattle.std.specs.Float.{nan, inf, fin, Format}
use Rattle.std.specs.Float.Ieee.{low, up, down, unlike, round, mul}
use Rattle.std.specs.Float.Ieee.Fits.{down_pos}
use Rattle.std.specs.Float.Ieee.Scale.{round_same}
use Rattle.ieee.specs.Units.{Is, Number, negative, magnitude}
use Rattle.ieee.proofs.Finite.{facts}

pub mul_round : (f : Format) (x y : Float) (s t : Bool) (A B : ℕ) → Is f x s A → Is f y t B → mul f x y ≡ round f (unlike s t) (A * B) (2 ^ low f * 2 ^ low f)
unfolding mul
mul_round f nan y s t A B p q = absurd p
mul_round f (inf u) y s t A B p q = absurd p
mul_round f (fin u m e) nan s t A B p q = absurd q
mul_round f (fin u m e) (inf v) s t A B p q = absurd q
mul_round f (fin u m e) (fin v n d) s t A B p q =
    rw (p.0, q.0) (round_same f (unlike s t) num den (A * B) (l * l) (mul-pos (down_pos e) (down_pos d)) (mul-pos (pow_pos (low f)) (pow_pos (low f))) same)
  where
    num : ℕ
    num = m * up e * (n * up d)

    den : ℕ
    den = down e * down d

    l : ℕ
    l = 2 ^ low f

    same : num * (l * l) ≡ A * B * den
    same = mul-mul-mul_comm (m * up e) (n * up d) l l ∙ (λ i. p.1 i * q.1 i) ∙ mul-mul-mul_comm A (down e) B (down d)

-- of any two numbers of the format
pub mul_number : (f : Format) (x y : Float) → Number f x → Number f y
    → mul f x y ≡ round f (unlike (negative x) (negative y)) (magnitude f x * magnitude f y) (2 ^ low f * 2 ^ low f)
mul_number f x y X Y = mul_round f x y (negative x) (negative y) (magnitude f x) (magnitude f y) (facts f x X).is (facts f y Y).is

module _ (f : Format) (x y : Float) (s t : Bool) (A B Z : ℕ) (p : Is f x s A) (q : Is f y t B) (e : A * B ≡ Z * 2 ^ low f) where
  -- Z whole units
  pub mul_whole : mul f x y ≡ round f (unlike s t) Z (2 ^ low f)
  mul_whole =
      let l = 2 ^ low f in
      mul_round f x y s t A B p q
      ∙ round_same f (unlike s t) (A * B) (l * l) Z l (mul-pos (pow_pos (low f)) (pow_pos (low f))) (pow_pos (low f)) (rw e (mul_assoc Z l l))
