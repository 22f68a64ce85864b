-- ExtractScalar: the high part q = fl(fl(sigma + x) - sigma) and the remainder fl(x - q) of a number, for sigma = 2 ^ (M + e) and |x| ≤ 2 ^ e. Document
-- 000's Lemma 3.2. Both subtractions are exact, also where sigma is small. Assumes nothing.
use Rattle.std.specs.Prelude.{◌≡◌, ◌⊎◌, ℕ, suc, ◌+◌, ◌-◌, ◌*◌, ◌^◌, ◌≤◌, ◌<◌}
use Rattle.std.proofs.Common.{inl, inr, mul-le-mul_right, arith, pow-add, pow_mono}
use Rattle.std.proofs.Math.Pow.{pow-lt}
use Rattle.units.specs.Whole.{Whole, nat, ◌⊕◌, ◌⊖◌, ◌⊗◌, ◌≈◌, Within, Multiple}
use Rattle.units.specs.Rounding.{fl, Representable}
use Rattle.units.specs.Walk.{high, remainder}
use Rattle.units.proofs.Powers.{le_or_lt, pow_split, cover}
use Rattle.units.proofs.Multiples.{multiple_sub, multiple_same, multiple_one, multiple_pow}
use Rattle.units.proofs.SignedRounding.{rep_same, rep_pow, fl_exact, fl_below, fl_above, fl_half, fl_coarse}
use Rattle.units.proofs.Distance.{error_rep}
use Rattle.units.specs.Extraction.{Extracted}

module _ (p : ℕ) (P : 0 < p) (M e : ℕ) (M⁺ : 0 < M) (M⁻ : M < p) where
  pub extract : {x : Whole} → Representable p x → Within x (2 ^ e) → Extracted p M e x
  extract {x} X h = record {
    high_is = q;
    high_on = multiple_same (omega (arith, q)) difference_on;
    high_small = omega (arith, q, bounds);
    remainder_is = left;
    remainder_small = omega (arith, left, q, near);
  }
    where
      S : ℕ
      S = 2 ^ (M + e)

      y : Whole
      y = fl p (nat S ⊕ x)

      -- sigma is 2 ^ M times 2 ^ e, with 2 ≤ 2 ^ M and 2 ^ M < 2 ^ p
      split : S ≡ 2 ^ M * 2 ^ e
      split = pow-add 2 M e

      two : 2 * 2 ^ e ≤ S
      two = omega (arith, split, mul-le-mul_right (2 ^ e) (pow_mono M⁺))

      room : suc (2 ^ M) * 2 ^ e ≤ 2 ^ p * 2 ^ e
      room = mul-le-mul_right (2 ^ e) (pow-lt M⁻)

      -- sigma + 2 ^ e and sigma - 2 ^ e have p bits, and y lies between them
      edge⁺ : Representable p (nat S ⊕ nat (2 ^ e))
      edge⁺ = record { exp = e; on = record { count = nat (2 ^ M + 1); is = omega (arith, split) }; small = omega (arith, split, room) }

      edge⁻ : Representable p (nat S ⊖ nat (2 ^ e))
      edge⁻ = record { exp = e; on = record { count = nat (2 ^ M) ⊖ nat 1; is = omega (arith, split) }; small = omega (arith, split, room) }

      bounds : Within (y ⊖ nat S) (2 ^ e)
      bounds = omega (arith, fl_below p P (nat S ⊕ x) edge⁺ (omega arith), fl_above p P (nat S ⊕ x) edge⁻ (omega arith))

      near : Within (2 ⊗ (y ⊖ (nat S ⊕ x))) (2 ^ (suc (M + e) - p))
      near = fl_half p P (nat S ⊕ x) (suc (M + e) - p) (omega (arith, cover p (suc (M + e)), two))

      grid : (p ≤ M + e) ⊎ (M + e < p) → Multiple (M + e - p) y
      grid (inl l) = fl_coarse p P (nat S ⊕ x) (M + e - p) (omega (arith, pow_split l, two))
      grid (inr l) = let z : M + e - p ≡ 0 = omega arith in rw z (multiple_one y)

      difference_on : Multiple (M + e - p) (y ⊖ nat S)
      difference_on = multiple_sub (grid (le_or_lt p (M + e))) (multiple_pow (omega arith))

      difference : Representable p (y ⊖ nat S)
      difference = record { exp = M + e - p; on = difference_on; small = omega (arith, bounds, two, cover p (M + e)) }

      q : high p (M + e) x ≈ y ⊖ nat S
      q = fl_exact p P difference

      left : remainder p (M + e) x ≈ x ⊖ high p (M + e) x
      left = fl_exact p P (rep_same {b = x ⊖ high p (M + e) x} (omega (arith, q)) (error_rep p P (rep_pow p (M + e)) X))
