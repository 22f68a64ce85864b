-- A number shifted to the left by less than w: its lowest digit in base 2 ^ w and what is above it, with no shift by 2 * w. Assumes nothing.
use mathlib.Core.Path.{◌≡◌, sym, ap, ◌∙◌}
use Prim.Native.Nat.{ℕ, ◌+◌, ◌-◌, ◌*◌, ◌/◌, ◌%◌, ◌^◌, ◌<◌}
use native.Mathlib.Nat.{mod-lt, mod-add-div}
use native.Mathlib.Omega.{arith}
use lib.Pow.{pow-add, split}
use Rattle.lists.proofs.WordShifts.{shifted_above}

module _ (w m : ℕ) where
  pub lowest_and_above : (e : ℕ) → 0 < w → (m * 2 ^ (e % w) % 2 ^ w + m / 2 ^ (w - e % w) * 2 ^ w) * 2 ^ (w * (e / w)) ≡ m * 2 ^ e
  lowest_and_above e P =
      let whole : 2 ^ e ≡ 2 ^ (e % w) * 2 ^ (w * (e / w)) = ap (λ (n : ℕ). 2 ^ n) (sym (mod-add-div e w)) ∙ pow-add 2 (e % w) (w * (e / w)) in
      let small : e % w < w = mod-lt e P in
      rw (shifted_above w m (e % w) (omega arith), whole)
      (omega (arith, ap (λ (n : ℕ). n * 2 ^ (w * (e / w))) (split (m * 2 ^ (e % w)) w)))
