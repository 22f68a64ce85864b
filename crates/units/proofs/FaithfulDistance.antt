-- How far a faithful rounding is off. Assumes nothing.
use Rattle.std.specs.Prelude.{◌≡◌, refl, ℕ, suc, ◌+◌, ◌-◌, ◌*◌, ◌/◌, ◌%◌, ◌^◌, ◌≤◌, ◌<◌}
use Rattle.std.proofs.Common.{inl, inr, mul-le-mul_left, div-add-mod', mod-lt, div-lt_iff_lt-mul, eq-zero-or-pos, arith, pow_pos}
use Rattle.units.specs.Whole.{Whole, nat, ◌⊖◌, ◌≈◌, ◌≺◌, mag, neg}
use Rattle.units.specs.Rounding.{dropped, Representable}
use Rattle.units.specs.Faithful.{Faithful}
use Rattle.units.proofs.Powers.{le_or_lt}
use Rattle.units.proofs.NaturalRounding.{dropped_lt, reach}
use Rattle.units.proofs.SignedRounding.{short_rep}
use Rattle.units.proofs.FaithfulLaws.{faithful_exact, faithful_same, faithful_neg}

module _ (p : ℕ) (P : 0 < p) where
  -- 2 ^ (p - 1) times the distance is less than the number
  pub faithful_relative : {f s : Whole} → Faithful p f s → (s ≈ nat 0 → ⊥) → 2 ^ p * mag (f ⊖ s) < 2 * mag s
  faithful_relative {f} {s} F z = elim (le_or_lt s.up s.dn) [
    | inr l ↦ carry (near_natural n⁺ (faithful_same s (nat n⁺) (omega arith) F) (omega arith)) (omega arith) (omega arith)
    | inl l ↦ carry (near_natural n⁻ (faithful_same (neg s) (nat n⁻) (omega arith) (faithful_neg F)) (omega arith)) (omega arith) (omega arith)
  ]
    where
      -- n lies between two multiples of its last place, which have p bits
      near_natural : {f : Whole} (n : ℕ) → Faithful p f (nat n) → 0 < n → 2 ^ p * mag (f ⊖ nat n) < 2 * n
      near_natural {f} n F N = elim (eq-zero-or-pos (n % u)) [
        | inl e ↦ exactly (faithful_exact F (short_rep (record { exp = k; sig = q; is = omega (arith, div-add-mod' n u); small = omega (arith, few) })))
        | inr r ↦ elim (eq-zero-or-pos k) [ inl z ↦ absurd (whole z r) | inr K ↦ apart r (reach p P n K).0 ]
      ]
        where
          k : ℕ
          k = dropped p n

          u : ℕ
          u = 2 ^ k

          q : ℕ
          q = n / u

          few : q < 2 ^ p
          few = (div-lt_iff_lt-mul (pow_pos k)).1 (dropped_lt p n)

          exactly : f ≈ nat n → 2 ^ p * mag (f ⊖ nat n) < 2 * n
          exactly e = let z : mag (f ⊖ nat n) ≡ 0 = omega arith in rw z (omega arith)

          whole : k ≡ 0 → 0 < n % u → ⊥
          whole z r = let o : u ≡ 1 = rw z refl in let r' : 0 < n % 1 = rw o at r in omega arith

          lo : Representable p (nat (q * u))
          lo = short_rep (record { exp = k; sig = q; is = refl; small = omega (arith, few) })

          hi : Representable p (nat (suc q * u))
          hi = short_rep (record { exp = k; sig = suc q; is = refl; small = few })

          not_below : f ≺ nat (q * u) → ⊥
          not_below l = omega (arith, F.above (nat (q * u)) lo l, div-add-mod' n u)

          not_above : nat (suc q * u) ≺ f → ⊥
          not_above l = omega (arith, F.below (nat (suc q * u)) hi l, div-add-mod' n u, mod-lt n (pow_pos k))

          within : 0 < n % u → mag (f ⊖ nat n) < u
          within r = elim (le_or_lt (q * u + f.dn) f.up) [
            | inr l ↦ absurd (not_below (omega arith))
            | inl l ↦ elim (le_or_lt f.up (suc q * u + f.dn)) [
              | inr m ↦ absurd (not_above (omega arith))
              | inl m ↦ omega (arith, div-add-mod' n u, mod-lt n (pow_pos k))
            ]
          ]

          apart : 0 < n % u → 2 ^ p * u ≤ 2 * n → 2 ^ p * mag (f ⊖ nat n) < 2 * n
          apart r l = omega (arith, mul-le-mul_left (2 ^ p) (within r), pow_pos p)

      n⁺ : ℕ
      n⁺ = s.up - s.dn

      n⁻ : ℕ
      n⁻ = s.dn - s.up

      carry : {d n : ℕ} → 2 ^ p * d < 2 * n → mag (f ⊖ s) ≡ d → mag s ≡ n → 2 ^ p * mag (f ⊖ s) < 2 * mag s
      carry h e i = rw (e, i) h
