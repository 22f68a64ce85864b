-- TwoProduct: with the halves of A and B every partial product and every difference is exact, so the product A B is its rounding and a number of p digits.
-- Document 000's Algorithm 1.1, for every p and s from half of p to one more. Each step is a multiple of 2 ^ j of at most 2 ^ (p + j). Assumes nothing.
use Rattle.std.specs.Prelude.{◌≡◌, ℕ, ◌+◌, ◌-◌, ◌*◌, ◌^◌, ◌≤◌, ◌<◌}
use Rattle.std.proofs.Math.Path.{ap}
use Rattle.std.proofs.Common.{◌∙◌, le_of_lt, mul-le-mul_right, mul-lt-mul_of_pos_right, mul-pos, arith, pow-add, pow_pos, pow_mono}
use Rattle.std.proofs.Math.Logic.{inl, inr}
use Rattle.std.proofs.Math.Nat.{mul-le-mul}
use Rattle.units.specs.Whole.{Whole, nat, ◌⊕◌, ◌⊖◌, neg, ◌⊗◌, ◌⊙◌, ◌≈◌, mag, Within, Under, Multiple}
use Rattle.units.specs.Rounding.{fl, Representable}
use Rattle.units.proofs.Powers.{le_or_lt, twice_le}
use Rattle.units.proofs.Multiples.{multiple_sub, multiple_neg, multiple_finer, multiple_gap}
use Rattle.units.proofs.NaturalRounding.{half_power}
use Rattle.units.proofs.SignedRounding.{rep_same, fl_neg, fl_exact, fl_half, fl_coarse, fl_multiple}
use Rattle.units.proofs.Products.{times_same, times_plus, plus_times, times_multiple, times_mag, times_within}
use Rattle.units.specs.Split.{LastPlace, Halves}
use Rattle.units.specs.TwoProduct.{product_error}
use Rattle.units.proofs.SplitProducts.{upper_upper_on, lower_lower_small, upper_upper, lower_lower}

-- ---- bounds of products, by factors
module _ (a b : Whole) (c d : ℕ) where
  within_right : mag a ≤ c → Within (2 ⊗ b) d → Within (2 ⊗ (a ⊙ b)) (c * d)
  within_right h k = let l : mag a * (2 * mag b) ≤ c * d = mul-le-mul h (omega arith) in omega (arith, times_mag a b)

  within_left : Within (2 ⊗ a) c → mag b ≤ d → Within (2 ⊗ (a ⊙ b)) (c * d)
  within_left h k = let l : 2 * mag a * mag b ≤ c * d = mul-le-mul (omega arith) k in omega (arith, times_mag a b)

  under_left : 0 < c → Within (2 ⊗ a) c → mag b < d → Under (2 ⊗ (a ⊙ b)) (c * d)
  under_left c⁺ h k =
      let l : 2 * mag a * mag b ≤ c * mag b = mul-le-mul_right (mag b) (omega arith) in
      let m : mag b * c < d * c = mul-lt-mul_of_pos_right k c⁺ in
      omega (arith, times_mag a b)

-- s is half of p rounded up, as 27 of 53 and 12 of 24; or one more, where p is even
module _ (p s i j : ℕ) (least : p ≤ s + s) (most : s + s ≤ p + 2) (l : s < p) {A B a₁ a₂ b₁ b₂ : Whole} (LA : LastPlace p i A) (LB : LastPlace p j B)
    (HA : Halves p s i A a₁ a₂) (HB : Halves p s j B b₁ b₂) where
  P : 0 < p
  P = omega arith

  X : Whole
  X = fl p (A ⊙ B)

  -- ---- the product by its parts
  by_upper : A ⊙ B ≈ a₁ ⊙ B ⊕ a₂ ⊙ B
  by_upper = omega (arith, times_same (a₁ ⊕ a₂) B A B HA.sum (omega arith), plus_times a₁ a₂ B)

  upper_parts : a₁ ⊙ B ≈ a₁ ⊙ b₁ ⊕ a₁ ⊙ b₂
  upper_parts = omega (arith, times_same a₁ (b₁ ⊕ b₂) a₁ B (omega arith) HB.sum, times_plus a₁ b₁ b₂)

  lower_parts : a₂ ⊙ B ≈ a₂ ⊙ b₁ ⊕ a₂ ⊙ b₂
  lower_parts = omega (arith, times_same a₂ (b₁ ⊕ b₂) a₂ B (omega arith) HB.sum, times_plus a₂ b₁ b₂)

  right_parts : A ⊙ b₂ ≈ a₁ ⊙ b₂ ⊕ a₂ ⊙ b₂
  right_parts = omega (arith, times_same (a₁ ⊕ a₂) b₂ A b₂ HA.sum (omega arith), plus_times a₁ a₂ b₂)

  -- ---- the rounded product: off by half of 2 ^ (p + i + j) at most, and a multiple of that half
  place : 2 ^ (p + (i + j)) ≡ 2 ^ p * (2 ^ i * 2 ^ j)
  place = pow-add 2 p (i + j) ∙ ap (λ (x : ℕ). 2 ^ p * x) (pow-add 2 i j)

  X_near : Within (2 ⊗ (X ⊖ A ⊙ B)) (2 ^ p * (2 ^ i * 2 ^ j))
  unfolding X
  X_near = rw place at (fl_half p P (A ⊙ B) (p + (i + j)) (rw place (omega (arith, small))))
    where
      small : Within (A ⊙ B) (2 ^ p * 2 ^ i * (2 ^ p * 2 ^ j))
      small = times_within A B (2 ^ p * 2 ^ i) (2 ^ p * 2 ^ j) (omega (arith, LA.most)) (omega (arith, LB.most))

  half : 2 * 2 ^ (p - 1 + (i + j)) ≡ 2 ^ p * (2 ^ i * 2 ^ j)
  half = ap (λ (x : ℕ). 2 * x) (pow-add 2 (p - 1) (i + j)) ∙ half_power P (i + j) ∙ ap (λ (x : ℕ). 2 ^ p * x) (pow-add 2 i j)

  X_on : Multiple (p - 1 + (i + j)) X
  unfolding X
  X_on = elim (le_or_lt (A ⊙ B).dn (A ⊙ B).up) [
    | inl h ↦ fl_coarse p P (A ⊙ B) (p - 1 + (i + j)) (omega (arith, far))
    | inr h ↦ multiple_neg (rw (fl_neg p (A ⊙ B)) at (fl_coarse p P (neg (A ⊙ B)) (p - 1 + (i + j)) (omega (arith, far))))
  ]
    where
      far : 2 ^ p * 2 ^ (p - 1 + (i + j)) ≤ 2 * mag (A ⊙ B)
      far = rw (times_mag A B) (omega (arith, ap (λ (x : ℕ). 2 ^ p * x) half, mul-le-mul LA.least LB.least))

  -- ---- the partial products
  s_place : 2 ^ (s + (i + j)) ≡ 2 ^ s * (2 ^ i * 2 ^ j)
  s_place = pow-add 2 s (i + j) ∙ ap (λ (x : ℕ). 2 ^ s * x) (pow-add 2 i j)

  upper_lower_on : Multiple (s + (i + j)) (a₁ ⊙ b₂)
  upper_lower_on = multiple_finer (omega arith) (times_multiple HA.upper_on HB.lower_on)

  lower_upper_on : Multiple (s + (i + j)) (a₂ ⊙ b₁)
  lower_upper_on = multiple_finer (omega arith) (times_multiple HA.lower_on HB.upper_on)

  upper_lower_small : Within (2 ⊗ (a₁ ⊙ b₂)) (2 ^ p * (2 ^ s * (2 ^ i * 2 ^ j)))
  upper_lower_small = omega (arith, within_right a₁ b₂ (2 ^ p * 2 ^ i) (2 ^ s * 2 ^ j) (omega (arith, HA.upper_small)) HB.lower_small)

  lower_upper_small : Within (2 ⊗ (a₂ ⊙ b₁)) (2 ^ p * (2 ^ s * (2 ^ i * 2 ^ j)))
  lower_upper_small = omega (arith, within_left a₂ b₁ (2 ^ s * 2 ^ i) (2 ^ p * 2 ^ j) HA.lower_small (omega (arith, HB.upper_small)))

  upper_lower : Representable p (a₁ ⊙ b₂)
  upper_lower = record { exp = s + (i + j); on = upper_lower_on; small = rw s_place (omega (arith, upper_lower_small)) }

  lower_upper : Representable p (a₂ ⊙ b₁)
  lower_upper = record { exp = s + (i + j); on = lower_upper_on; small = rw s_place (omega (arith, lower_upper_small)) }

  -- ---- the differences
  one_place : 1 * (2 ^ p * (2 ^ i * 2 ^ j)) ≤ 2 ^ s * (2 ^ p * (2 ^ i * 2 ^ j))
  one_place = mul-le-mul_right (2 ^ p * (2 ^ i * 2 ^ j)) (pow_pos s)

  fewer : 2 ^ s * (2 ^ s * (2 ^ i * 2 ^ j)) ≤ 2 ^ p * (2 ^ s * (2 ^ i * 2 ^ j))
  fewer = mul-le-mul_right (2 ^ s * (2 ^ i * 2 ^ j)) (pow_mono (le_of_lt l))

  first_on : Multiple (p - 1 + (i + j)) (X ⊖ a₁ ⊙ b₁)
  first_on = multiple_sub X_on (multiple_finer (omega arith) (upper_upper_on p s i j least most l LA LB HA HB))

  first : Representable p (X ⊖ a₁ ⊙ b₁)
  first = record {
    exp = p - 1 + (i + j);
    on = first_on;
    small = (over (X ⊖ a₁ ⊙ b₁) first_on (omega (arith, bound)), over (neg (X ⊖ a₁ ⊙ b₁)) (multiple_neg first_on) (omega (arith, bound)));
  }
    where
      -- (X - A B) + a1 b2 + a2 B
      bound : Under (2 ⊗ (X ⊖ a₁ ⊙ b₁)) (2 ^ p * (2 ^ i * 2 ^ j) + 2 * (2 ^ p * (2 ^ s * (2 ^ i * 2 ^ j))))
      bound =
          let b : Under (2 ⊗ (a₂ ⊙ B)) (2 ^ s * 2 ^ i * (2 ^ p * 2 ^ j)) =
          under_left a₂ B (2 ^ s * 2 ^ i) (2 ^ p * 2 ^ j) (mul-pos (pow_pos s) (pow_pos i)) HA.lower_small LB.most in
          omega (arith, X_near, by_upper, upper_parts, upper_lower_small)

      -- a multiple of 2 ^ (p - 1 + i + j) that is below 2 ^ p and one more of them is at most 2 ^ p of them
      over : (z : Whole) → Multiple (p - 1 + (i + j)) z
          → 2 * z.up < 2 * z.dn + 2 ^ p * (2 ^ i * 2 ^ j) + 2 * (2 ^ p * (2 ^ s * (2 ^ i * 2 ^ j))) → z.up ≤ z.dn + 2 ^ p * 2 ^ (p - 1 + (i + j))
      over z Z h = elim (le_or_lt z.up (z.dn + 2 ^ p * 2 ^ (p - 1 + (i + j)))) [
        | inl g ↦ g
        | inr g ↦
            let t : Multiple (p - 1 + (i + j)) (nat (2 ^ p * 2 ^ (p - 1 + (i + j)))) = record { count = nat (2 ^ p); is = omega arith } in
            let m = multiple_gap {a = z ⊖ nat (2 ^ p * 2 ^ (p - 1 + (i + j)))} (multiple_sub Z t) (omega arith) in
            absurd (omega (arith, m, half, ap (λ (x : ℕ). 2 ^ p * x) half, mul-le-mul_right (2 ^ p * (2 ^ i * 2 ^ j)) (twice_le l)))
      ]

  second_on : Multiple (s + (i + j)) (X ⊖ a₁ ⊙ b₁ ⊖ a₂ ⊙ b₁)
  second_on = multiple_sub (multiple_finer (omega arith) first_on) lower_upper_on

  second : Representable p (X ⊖ a₁ ⊙ b₁ ⊖ a₂ ⊙ b₁)
  second = record {
    exp = s + (i + j);
    on = second_on;
    small = rw s_place (omega (arith, X_near, by_upper, upper_parts, lower_parts, right_parts, bound, one_place));
  }
    where
      -- (X - A B) + A b2
      bound : Within (2 ⊗ (A ⊙ b₂)) (2 ^ p * (2 ^ s * (2 ^ i * 2 ^ j)))
      bound = omega (arith, within_right A b₂ (2 ^ p * 2 ^ i) (2 ^ s * 2 ^ j) (omega (arith, LA.most)) HB.lower_small)

  third_on : Multiple (s + (i + j)) (X ⊖ a₁ ⊙ b₁ ⊖ a₂ ⊙ b₁ ⊖ a₁ ⊙ b₂)
  third_on = multiple_sub second_on upper_lower_on

  third : Representable p (X ⊖ a₁ ⊙ b₁ ⊖ a₂ ⊙ b₁ ⊖ a₁ ⊙ b₂)
  third = record {
    exp = s + (i + j);
    on = third_on;
    small = rw s_place (omega (arith, X_near, by_upper, upper_parts, lower_parts, (lower_lower_small p s i j least most l LA LB HA HB), one_place, fewer));
  }

  error : Representable p (A ⊙ B ⊖ X)
  unfolding X
  error = record { exp = i + j; on = multiple_sub on (fl_multiple p P on); small = rw (pow-add 2 i j) (omega (arith, X_near)) }
    where
      on : Multiple (i + j) (A ⊙ B)
      on = times_multiple LA.on LB.on

  -- ---- so what is computed is the error
  exactly : (z t : Whole) → z ≈ t → Representable p t → fl p z ≈ t
  exactly z t e R = omega (arith, fl_exact p P (rep_same {a = t} {b = z} (omega arith) R))

  pub two_product : product_error p A B a₁ a₂ b₁ b₂ ≈ A ⊙ B ⊖ fl p (A ⊙ B)
  unfolding X
  two_product =
      let r₁ : Whole = X ⊖ a₁ ⊙ b₁ in
      let r₂ : Whole = r₁ ⊖ a₂ ⊙ b₁ in
      let r₃ : Whole = r₂ ⊖ a₁ ⊙ b₂ in
      let d₁ : Whole = fl p (X ⊖ fl p (a₁ ⊙ b₁)) in
      let d₂ : Whole = fl p (d₁ ⊖ fl p (a₂ ⊙ b₁)) in
      let d₃ : Whole = fl p (d₂ ⊖ fl p (a₁ ⊙ b₂)) in
      let e₁ : d₁ ≈ r₁ = exactly (X ⊖ fl p (a₁ ⊙ b₁)) r₁ (omega (arith, fl_exact p P (upper_upper p s i j least most l LA LB HA HB))) first in
      let e₂ : d₂ ≈ r₂ = exactly (d₁ ⊖ fl p (a₂ ⊙ b₁)) r₂ (omega (arith, fl_exact p P lower_upper)) second in
      let e₃ : d₃ ≈ r₃ = exactly (d₂ ⊖ fl p (a₁ ⊙ b₂)) r₃ (omega (arith, fl_exact p P upper_lower)) third in
      let low = lower_lower p s i j least most l LA LB HA HB in
      exactly (fl p (a₂ ⊙ b₂) ⊖ d₃) (A ⊙ B ⊖ X) (omega (arith, fl_exact p P low, by_upper, upper_parts, lower_parts)) error
