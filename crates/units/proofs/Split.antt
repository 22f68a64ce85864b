-- Split: a number A of p digits is the sum of two halves, x = fl(c - fl(c - A)) for c = fl((2 ^ s + 1) A), and y = fl(A - x). Where A's last place is 2 ^ i,
-- x is a multiple of 2 ^ s places and y is at most half of that. Document 000's Algorithm 1.2, for every p and s below p. Assumes nothing.
use Rattle.std.specs.Prelude.{◌≡◌}
use Rattle.std.proofs.Math.Path.{ap}
use Rattle.std.proofs.Common.{◌∙◌, le_of_lt, arith, pow-add, pow_pos, pow_mono}
use Rattle.std.proofs.Math.Logic.{inl, inr}
use Prim.Native.Nat.{ℕ, suc, ◌+◌, ◌-◌, ◌*◌, ◌^◌, ◌≤◌, ◌<◌}
use Rattle.std.proofs.Math.Nat.{mul-le-mul_left, mul-le-mul_right, pow-succ'}
use Rattle.std.proofs.Math.Pow.{pow-lt}
use Rattle.units.specs.Whole.{Whole, nat, ◌⊕◌, ◌⊖◌, ◌⊗◌, ◌≈◌, ◌≼◌, Within, Multiple}
use Rattle.units.specs.Rounding.{fl, Representable}
use Rattle.units.proofs.Powers.{le_or_lt}
use Rattle.units.proofs.Multiples.{multiple_sub, multiple_neg, multiple_same, multiple_finer, multiple_pow, multiple_gap}
use Rattle.units.proofs.NaturalRounding.{half_power}
use Rattle.units.proofs.SignedRounding.{fl_exact, fl_half, fl_coarse}
use Rattle.units.specs.Split.{LastPlace, Halves, multiplied, upper_half, lower_half}

module _ (p s i : ℕ) (l : s < p) where
  P : 0 < p
  P = omega arith

  place : 2 ^ (s + i) ≡ 2 ^ s * 2 ^ i
  place = pow-add 2 s i

  next : 2 ^ suc (s + i) ≡ 2 * (2 ^ s * 2 ^ i)
  next = pow-succ' 2 (s + i) ∙ ap (λ (x : ℕ). 2 * x) place

  -- a number above 0
  module _ {A : Whole} (L : LastPlace p i A) (sign : A.dn ≤ A.up) where
    -- it is at least half of 2 ^ (p + i), and a place below 2 ^ (p + i)
    least : nat (2 ^ p * 2 ^ i) ≼ 2 ⊗ A
    least = omega (arith, L.least)

    top : Multiple i (nat (2 ^ p * 2 ^ i))
    top = record { count = nat (2 ^ p); is = omega arith }

    most : A ⊕ nat (2 ^ i) ≼ nat (2 ^ p * 2 ^ i)
    most = omega (arith, multiple_gap {a = nat (2 ^ p * 2 ^ i) ⊖ A} (multiple_sub top L.on) (omega (arith, L.most)))

    -- the same, 2 ^ s times over
    least_more : 2 ^ s * (2 ^ p * 2 ^ i + 2 * A.dn) ≤ 2 ^ s * (2 * A.up)
    least_more = mul-le-mul_left (2 ^ s) (omega (arith, least))

    most_more : 2 ^ s * (A.up + 2 ^ i) ≤ 2 ^ s * (2 ^ p * 2 ^ i + A.dn)
    most_more = mul-le-mul_left (2 ^ s) (omega (arith, most))

    c : Whole
    c = multiplied p s A

    -- c is a multiple of 2 ^ s places, and is off by that at most
    c_on : Multiple (s + i) c
    unfolding c
    c_on = fl_coarse p P (suc (2 ^ s) ⊗ A) (s + i) (rw place (omega (arith, least_more, least)))

    c_near : Within (c ⊖ suc (2 ^ s) ⊗ A) (2 ^ s * 2 ^ i)
    unfolding c
    c_near = omega (arith, rw next at (fl_half p P (suc (2 ^ s) ⊗ A) (suc (s + i)) (rw next room)))
      where
        room : Within (suc (2 ^ s) ⊗ A) (2 ^ p * (2 * (2 ^ s * 2 ^ i)))
        room = omega (arith, most, most_more, mul-le-mul_right (2 ^ p * 2 ^ i) (pow_pos s), mul-le-mul_left (2 ^ s) sign)

    -- c is exact where A is a power of two, so c - A is never below 2 ^ (p - 1 + s + i)
    c_least : nat (2 ^ p * (2 ^ s * 2 ^ i)) ≼ 2 ⊗ (c ⊖ A)
    unfolding c
    c_least = elim (le_or_lt A.up (A.dn + 2 ^ (p - 1) * 2 ^ i)) [
      | inl h ↦ let e : c ≈ suc (2 ^ s) ⊗ A = fl_exact p P (power h) in omega (arith, least_more)
      | inr h ↦ omega (arith, c_near, mul-le-mul_left (2 ^ s) (above h), ap (λ (x : ℕ). 2 ^ s * x) half)
    ]
      where
        half : 2 * (2 ^ (p - 1) * 2 ^ i) ≡ 2 ^ p * 2 ^ i
        half = half_power P i

        power : A.up ≤ A.dn + 2 ^ (p - 1) * 2 ^ i → Representable p (suc (2 ^ s) ⊗ A)
        power h = record {
          exp = p - 1 + i;
          on = record { count = nat (suc (2 ^ s)); is = rw (pow-add 2 (p - 1) i) (omega (arith, is)) };
          small = rw (pow-add 2 (p - 1) i) (omega (arith, is, mul-le-mul_right (2 ^ (p - 1) * 2 ^ i) (pow-lt l)));
        }
          where
            is : suc (2 ^ s) * A.up ≡ suc (2 ^ s) * (A.dn + 2 ^ (p - 1) * 2 ^ i)
            is = ap (λ (x : ℕ). suc (2 ^ s) * x) (omega (arith, least, half))

        above : A.dn + 2 ^ (p - 1) * 2 ^ i < A.up → A.dn + 2 ^ (p - 1) * 2 ^ i + 2 ^ i ≤ A.up
        above h =
            let t : Multiple i (nat (2 ^ (p - 1) * 2 ^ i)) = record { count = nat (2 ^ (p - 1)); is = omega arith } in
            omega (arith, multiple_gap {a = A ⊖ nat (2 ^ (p - 1) * 2 ^ i)} (multiple_sub L.on t) (omega arith))

    d : Whole
    unfolding c
    d = fl p (c ⊖ A)

    -- so the rounding of c - A is a multiple of 2 ^ s places too, and is off by half of that at most
    d_on : Multiple (s + i) d
    unfolding c d
    d_on = fl_coarse p P (c ⊖ A) (s + i) (rw place c_least)

    d_near : Within (2 ⊗ (d ⊖ (c ⊖ A))) (2 ^ s * 2 ^ i)
    unfolding c d
    d_near = rw place at (fl_half p P (c ⊖ A) (s + i) (rw place (omega (arith, c_least, c_near, most_more))))

    -- c - d is A but for that error, and at most 2 ^ (p + i), so both differences are exact
    x_on : Multiple (s + i) (c ⊖ d)
    x_on = multiple_sub c_on d_on

    x_small : Within (c ⊖ d) (2 ^ p * 2 ^ i)
    x_small = elim (le_or_lt (c.up + d.dn) (c.dn + d.up + 2 ^ p * 2 ^ i)) [
      | inl h ↦ omega (arith, d_near, least, mul-le-mul_right (2 ^ i) (pow_mono (le_of_lt l)))
      | inr h ↦ absurd (omega (arith, over h, d_near, most, pow_pos i))
    ]
      where
        over : c.dn + d.up + 2 ^ p * 2 ^ i < c.up + d.dn → nat (2 ^ s * 2 ^ i) ≼ c ⊖ d ⊖ nat (2 ^ p * 2 ^ i)
        over h = rw place at (multiple_gap (multiple_sub x_on (rw (pow-add 2 p i) at (multiple_pow {i = s + i} {j = p + i} (omega arith)))) (omega arith))

    x_rep : Representable p (c ⊖ d)
    x_rep = record { exp = s + i; on = x_on; small = rw place (omega (arith, x_small, mul-le-mul_left (2 ^ p * 2 ^ i) (pow_pos s))) }

    x_is : upper_half p s A ≈ c ⊖ d
    unfolding c d
    x_is = fl_exact p P x_rep

    y_small : Within (2 ⊗ (A ⊖ upper_half p s A)) (2 ^ s * 2 ^ i)
    y_small = omega (arith, x_is, d_near)

    y_on : Multiple i (A ⊖ upper_half p s A)
    y_on = multiple_sub L.on (multiple_finer (omega arith) (multiple_same (omega (arith, x_is)) x_on))

    y_rep : Representable p (A ⊖ upper_half p s A)
    y_rep = record { exp = i; on = y_on; small = omega (arith, y_small, mul-le-mul_right (2 ^ i) (pow_mono (le_of_lt l))) }

    y_is : lower_half p s A ≈ A ⊖ upper_half p s A
    y_is = fl_exact p P y_rep

    split_above : Halves p s i A (upper_half p s A) (lower_half p s A)
    split_above = record {
      sum = omega (arith, y_is);
      upper_on = multiple_same (omega (arith, x_is)) x_on;
      upper_small = omega (arith, x_is, x_small);
      lower_on = multiple_same (omega (arith, y_is)) y_on;
      lower_small = omega (arith, y_is, y_small);
    }

  pub split : (A : Whole) → LastPlace p i A → Halves p s i A (upper_half p s A) (lower_half p s A)
  unfolding fl
  split A L = elim (le_or_lt A.dn A.up) [
    | inl h ↦ split_above L h
    | inr h ↦ let H = split_above (record { on = multiple_neg L.on; least = omega (arith, L.least); most = omega (arith, L.most) }) (omega arith) in
        record {
          sum = omega (arith, H.sum);
          upper_on = multiple_neg H.upper_on;
          upper_small = omega (arith, H.upper_small);
          lower_on = multiple_neg H.lower_on;
          lower_small = omega (arith, H.lower_small);
        }
  ]
