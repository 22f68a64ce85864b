-- Products that the format holds, and those of powers of two. Assumes nothing.
use Rattle.std.specs.Prelude.{◌≡◌, refl, Bool, true, false, ℕ, suc, ◌+◌, ◌*◌, ◌^◌, ◌<◌, Float}
use Rattle.std.proofs.Common.{sym, ap, ◌∙◌, pow-add}
use Rattle.std.proofs.Math.Pow.{pow-lt}
use Rattle.std.specs.Float.{Format}
use Rattle.std.specs.Float.Ieee.{prec, emax, low, unlike, mul}
use Rattle.std.specs.Float.Ieee.Scale.{overflow}
use Rattle.units.specs.Rounding.{Short}
use Rattle.units.proofs.Scaling.{short_power, short_up, short_down}
use Rattle.ieee.specs.Units.{Is}
use Rattle.ieee.proofs.RoundExact.{round_exact}
use Rattle.ieee.proofs.Product.{mul_whole}

module _ (f : Format) (x y : Float) (s t : Bool) (A B Z : ℕ) (p : Is f x s A) (q : Is f y t B) (e : A * B ≡ Z * 2 ^ low f) where
  pub mul_exact : Short (prec f) Z → Z < overflow f → Is f (mul f x y) (unlike s t) Z
  mul_exact c l = rw (mul_whole f x y s t A B Z p q e) (round_exact f (unlike s t) Z c l)

-- ---- powers of two: 2 ^ j units times A units

unlike_false : (s : Bool) → unlike s false ≡ s
unlike_false false = refl
unlike_false true = refl

module _ (f : Format) (x y : Float) (s : Bool) where
  pub mul_power : (A j Z : ℕ) → Is f x s A → Short (prec f) A → Is f y false (2 ^ j) → A * 2 ^ j ≡ Z * 2 ^ low f → Z < overflow f → Is f (mul f x y) s Z
  mul_power A j Z p c q e l =
      let d : Short (prec f) (Z * 2 ^ low f) = rw e at (short_up (prec f) j c) in
      rw (unlike_false s) at (mul_exact f x y s false A (2 ^ j) Z p q e (short_down (prec f) (low f) d) l)

pub mul_powers : (f : Format) (x y : Float) (a b c : ℕ) → a + b ≡ c + low f → Is f x false (2 ^ a) → Is f y false (2 ^ b) → c < low f + suc (emax f)
    → Is f (mul f x y) false (2 ^ c)
mul_powers f x y a b c e p q l =
    mul_power f x y false (2 ^ a) b (2 ^ c) p (short_power (prec f) a) q (sym (pow-add 2 a b) ∙ ap (λ (i : ℕ). 2 ^ i) e ∙ pow-add 2 c (low f)) (pow-lt l)
