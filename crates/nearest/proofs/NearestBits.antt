-- The pattern of the float nearest to S units, put together from its sign and its magnitude: without the sign it reaches the infinity's exactly where the
-- nearest float isn't finite, and it is zero only at zero. Assumes nothing.
use Rattle.std.specs.Prelude.{◌≡◌, ℕ, suc, ◌+◌, ◌-◌, ◌*◌, ◌%◌, ◌^◌, ◌<◌, ◌≤◌, Bool, true, false, cond, not, T, ◌↔◌, ℤ, ◌==◌, from_bits, nat_eq, unsigned_abs}
use Rattle.std.specs.Prelude.{refl}
use Rattle.std.proofs.Common.{sym, ap, ◌∙◌, inl, inr, eq-zero-or-pos, not-le_of_lt, lt_of_not-le, zero-add, mod-eq_of_lt, mul-pos, mul-le-mul_left}
use Rattle.std.proofs.Common.{mul-le-mul_right, mul-lt-mul_of_pos_right, le_of_mul-le-mul_right, lt_of_mul-lt-mul_right, arith, ne_eqb, pow-add, pow_pos}
use Prim.Native.Nat.{compare, Ordering}
use Rattle.std.proofs.Math.Nat.{add-mod_left}
use Rattle.std.proofs.Math.Arith.{le→nltb}
use Rattle.std.specs.Float.{Format, binary32, binary64}
use Rattle.std.specs.Float.Ieee.{prec, emax, low, hid, ones, top, nan_bits}
use Rattle.std.specs.Float.Ieee.Bits.{nan_bits_above}
use Rattle.std.specs.Float.Ieee.Nearest.{closest}
use Rattle.std.specs.Float.Ieee.Scale.{overflow}
use Rattle.units.specs.Rounding.{dropped, rnd}
use Rattle.units.proofs.Powers.{le_or_lt, pow_pred, twice_le}
use Rattle.units.specs.NaturalRounding.{Compared}
use Rattle.units.proofs.NaturalRounding.{dropped_reaches, rnd_is, rnd_kept, rnd_whole, reach}
use Rattle.units.proofs.Closest.{compared}
use Rattle.ieee.specs.Units.{sign_of, nearest_float, limit, rounded_bits}
use Rattle.ieee.proofs.Rounded.{prec_pos}
use Rattle.ieee.proofs.WrittenBits.{bits_round}
use Rattle.ieee.proofs.Overflow.{rnd_finite, rnd_overflows, nearest_round}

-- a field D and digits C, from Q to 2 * Q or with no field, are in the order of C * 2 ^ D
fields_below : (Q C D h : ℕ) → 0 < Q → C ≤ 2 * Q → (0 < D → Q ≤ C) → (D * Q + C < (h + 2) * Q) ↔ (C * 2 ^ D < 2 * Q * 2 ^ h)
fields_below Q C D h pos most least = go (compare D h) (compared D h)
  where
    go : (o : Ordering) → Compared o D h → (D * Q + C < (h + 2) * Q) ↔ (C * 2 ^ D < 2 * Q * 2 ^ h)
    go Ordering.lt l = (
      λ g. omega (arith, mul-le-mul_right (2 ^ D) most, mul-le-mul_left Q (twice_le l), mul-pos pos (pow_pos D)),
      λ g. omega (arith, mul-le-mul_right Q l),
    )
    go Ordering.eq e = rw e (λ g. mul-lt-mul_of_pos_right (omega arith) (pow_pos h), λ g. omega (arith, lt_of_mul-lt-mul_right (2 ^ h) g))
    go Ordering.gt l = (
      λ g. absurd (omega (arith, mul-le-mul_right Q l, least (omega arith))),
      λ g. absurd (omega (arith, mul-le-mul_right (2 ^ D) (least (omega arith)), mul-le-mul_left Q (twice_le l))),
    )

rounded_below : (p : ℕ) → 0 < p → (n h : ℕ)
    → (dropped p n * 2 ^ (p - 1) + closest n (2 ^ dropped p n) < (h + 2) * 2 ^ (p - 1)) ↔ (rnd p n < 2 ^ p * 2 ^ h)
rounded_below p P n h =
    rw (rnd_is p n, ← half)
    (fields_below (2 ^ (p - 1)) (closest n (2 ^ dropped p n)) (dropped p n) h (pow_pos (p - 1)) (rw half (rnd_kept p n)) least)
  where
    half : 2 * 2 ^ (p - 1) ≡ 2 ^ p
    half = pow_pred P

    least : 0 < dropped p n → 2 ^ (p - 1) ≤ closest n (2 ^ dropped p n)
    least l = le_of_mul-le-mul_right (omega (arith, (reach p P n l).1, rnd_is p n, ap (λ (x : ℕ). x * 2 ^ dropped p n) half)) (pow_pos (dropped p n))

module _ (f : Format) where
  -- the pattern without a sign
  plain : (n : ℕ) → rounded_bits f false n ≡ dropped (prec f) n * hid f + closest n (2 ^ dropped (prec f) n)
  plain n = zero-add (dropped (prec f) n * hid f + closest n (2 ^ dropped (prec f) n))

  pub bits_finite : (n : ℕ) → (rounded_bits f false n < ones f * hid f) ↔ (n < limit f)
  bits_finite n = (λ g. lt_of_not-le (λ l. not-le_of_lt (below.0 g) (rnd_overflows f l)), λ l. below.1 (rnd_finite f l))
    where
      shape : (f : Format) → (ones f - 2 + 2 ≡ ones f) × (prec f + (ones f - 2) ≡ low f + suc (emax f))
      shape binary32 = (refl, refl)
      shape binary64 = (refl, refl)

      below : (rounded_bits f false n < ones f * hid f) ↔ (rnd (prec f) n < overflow f)
      below =
          rw ((shape f).0, ← (pow-add 2 (prec f) (ones f - 2)), (shape f).1, ← (plain n)) at
          (rounded_below (prec f) (prec_pos f) n (ones f - 2))

  pub bits_infinite : (n : ℕ) → ones f * hid f ≤ rounded_bits f false n → limit f ≤ n
  bits_infinite n h = elim (le_or_lt (limit f) n) [ inl l ↦ l | inr l ↦ absurd (not-le_of_lt ((bits_finite n).1 l) h) ]

  pub bits_zero : (n : ℕ) → (rounded_bits f false n == 0) ≡ (n == 0)
  bits_zero n = elim (eq-zero-or-pos (dropped (prec f) n)) [
    | inl e ↦ ap (λ (x : ℕ). nat_eq x 0) (own e)
    | inr l ↦
        ne_eqb (rounded_bits f false n) 0 (λ z. omega (arith, z, mul-pos l (pow_pos (prec f - 1))))
        ∙ sym (ne_eqb n 0 (λ z. omega (arith, z, dropped_reaches (prec f) n l, pow_pos (prec f))))
  ]
    where
      -- where no digit is dropped, the number is its own pattern
      own : dropped (prec f) n ≡ 0 → rounded_bits f false n ≡ n
      own e =
          let r : closest n (2 ^ 0) * 2 ^ 0 ≡ n = rw e at (sym (rnd_is (prec f) n) ∙ rnd_whole (prec f) (prec_pos f) e) in
          rw e (omega arith)

  pub bits_nearest : (z : Bool) (S : ℤ) → unsigned_abs S < limit f
      → from_bits f (cond (sign_of z S) (top f) 0 + rounded_bits f false (unsigned_abs S)) ≡ nearest_float f z S
  bits_nearest z S l = rw (plain (unsigned_abs S)) (bits_round f (sign_of z S) (unsigned_abs S) (rnd_finite f l) ∙ sym (nearest_round f z S))

  -- below the infinity's it is no NaN's pattern
  pub bits_number : (s : Bool) {m : ℕ} → m < ones f * hid f → T (not (nan_bits f (cond s (top f) 0 + m)))
  bits_number s {m} h = rw (nan_bits_above f (cond s (top f) 0 + m), without s) (le→nltb (ones f * hid f) m (omega arith))
    where
      without : (s : Bool) → (cond s (top f) 0 + m) % top f ≡ m
      without false = rw (zero-add m) (mod-eq_of_lt (omega arith))
      without true = add-mod_left (top f) m ∙ mod-eq_of_lt (omega arith)
