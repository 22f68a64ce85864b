-- A number below 2 ^ w, shifted to the left, lies in two adjacent digits of base 2 ^ w. Assumes nothing.
use mathlib.Core.Path.{◌≡◌, sym, ap, ◌∙◌}
use Prim.Native.Nat.{ℕ, ◌+◌, ◌-◌, ◌*◌, ◌/◌, ◌%◌, ◌^◌, ◌<◌}
use native.Mathlib.Nat.{mod-lt, mod-add-div}
use native.Mathlib.Numerals.{add-one}
use native.Mathlib.Omega.{arith}
use lib.Pow.{pow-add, shl-shr, shr-shr, split}
use Rattle.lists.specs.DigitLaws.{weight_next}
use Rattle.lists.specs.Carry.{two}

module _ (w m : ℕ) where
  -- what m shifted by s leaves above a digit, with no shift by w
  above : (s : ℕ) → s < w → m / 2 / 2 ^ (w - 1 - s) ≡ m * 2 ^ s / 2 ^ w
  above s h =
      let e : 1 + (w - 1 - s) ≡ w - s = omega arith in
      let f : s + (w - s) ≡ w = omega arith in
      shr-shr m 1 (w - 1 - s) ∙ ap (λ (n : ℕ). m / 2 ^ n) e
      ∙ sym (ap (λ (n : ℕ). n / 2 ^ (w - s)) (shl-shr m s))
      ∙ shr-shr (m * 2 ^ s) s (w - s) ∙ ap (λ (n : ℕ). m * 2 ^ s / 2 ^ n) f

  pub two_shifted : (e : ℕ) → 0 < w → two w (e / w) (m * 2 ^ (e % w) % 2 ^ w) (m / 2 / 2 ^ (w - 1 - e % w)) ≡ m * 2 ^ e
  two_shifted e P =
      let whole : 2 ^ e ≡ 2 ^ (e % w) * 2 ^ (w * (e / w)) = ap (λ (n : ℕ). 2 ^ n) (sym (mod-add-div e w)) ∙ pow-add 2 (e % w) (w * (e / w)) in
      rw (above (e % w) (mod-lt e P), add-one (e / w), weight_next w (e / w), whole)
      (omega (arith, ap (λ (n : ℕ). n * 2 ^ (w * (e / w))) (split (m * 2 ^ (e % w)) w)))
