-- A signed number of 64 bits, as the machine reads it back. Assumes nothing.
use mathlib.Core.Path.{◌≡◌, refl, ap, ◌∙◌}
use mathlib.Core.Bool.{Bool, true, false, cond}
use Prim.Native.Nat.{ℕ, zero, suc, ◌+◌, ◌-◌, ◌*◌, ◌/◌, ◌%◌, ◌^◌, ◌≤◌, ◌<◌}
use native.Mathlib.Nat.{mod-lt, div-add-mod', mod-eq_of_lt, add-mul-mod_self_right}
use native.Mathlib.Omega.{arith}
use borrow.Author.Rules.{sfits_of}
use lib.Dec.{ltb}
use lib.IntN.{ℤ, pos, negsuc, neg_ℤ, nat_abs}
use lib.Signed.{mag}
use mir.Syntax.{w64}
use mir.Val.{to_z, of_z}
use mir.ValLaws.{to_z-of_z}
use Rattle.lists.specs.Digits.{residue}
use Rattle.lanes.specs.Three.{with_sign}

pub mag_abs : (z : ℤ) → mag z ≤ nat_abs z
mag_abs (pos n) = omega arith
mag_abs (negsuc n) = omega arith

pub back : (z : ℤ) → mag z < 2 ^ 63 → to_z w64 (of_z w64 z) ≡ z
back z h = to_z-of_z w64 z (sfits_of h)

pub neg_small : (m : ℕ) → mag (neg_ℤ (pos m)) ≤ m
neg_small zero = omega arith
neg_small (suc m) = omega arith

-- a digit with a sign
pub sign_abs : (p d : ℕ) → (mag (with_sign p d) ≤ d) × (nat_abs (with_sign p d) ≡ d)
sign_abs p d = by (ltb p (2 ^ 63))
  where
    minus : (d : ℕ) → nat_abs (neg_ℤ (pos d)) ≡ d
    minus zero = refl
    minus (suc d) = refl

    by : (b : Bool) → (mag (cond b (pos d) (neg_ℤ (pos d))) ≤ d) × (nat_abs (cond b (pos d) (neg_ℤ (pos d))) ≡ d)
    by true = (omega arith, refl)
    by false = (neg_small d, minus d)

pub sign_back : (r : ℤ) (p d : ℕ) → r ≡ with_sign p d → d < 2 ^ 32 → to_z w64 (of_z w64 r) ≡ with_sign p d
sign_back r p d e h = rw e (back (with_sign p d) (omega (arith, sign_abs p d)))

-- the lowest 32 of 64 bits
pub low_bits : (z : ℤ) → mag z < 2 ^ 63 → of_z w64 z % 2 ^ 32 ≡ residue 32 z
unfolding residue
low_bits (pos n) h = refl
low_bits (negsuc n) h =
    let r : n % 2 ^ 32 < 2 ^ 32 = mod-lt n (omega arith) in
    let e : 2 ^ 64 - suc n ≡ 2 ^ 32 - suc (n % 2 ^ 32) + (2 ^ 32 - 1 - n / 2 ^ 32) * 2 ^ 32 = omega (arith, div-add-mod' n (2 ^ 32)) in
    ap (λ (x : ℕ). x % 2 ^ 32) e ∙ add-mul-mod_self_right _ _ _ ∙ mod-eq_of_lt (omega arith)
