-- What a faithful rounding is: exact where that is possible, the nearest is one, two of one number are equal or neighbours, and zero, sign and relative
-- distance as document 000's Lemma 2.6 has them. And when a rounded approximation is one: `criterion`, for its Lemma 2.5. Assumes nothing.
use Rattle.std.specs.Prelude.{◌⊎◌, ℕ, suc, ◌+◌, ◌*◌, ◌^◌, ◌<◌}
use Rattle.std.proofs.Common.{inl, inr, arith, pow_pos}
use Rattle.units.specs.Whole.{Whole, nat, ◌⊕◌, ◌⊖◌, neg, ◌≈◌, ◌≺◌, Within, Under, mag}
use Rattle.units.specs.Rounding.{fl, Representable}
use Rattle.units.specs.Faithful.{Faithful, Neighbours}
use Rattle.units.proofs.Powers.{le_or_lt}
use Rattle.units.proofs.Multiples.{multiple_one}
use Rattle.units.proofs.SignedRounding.{rep_neg, rep_same, rep_zero, fl_below, fl_above, fl_rep, fl_best}
use Rattle.units.proofs.Distance.{gap}

pub faithful_same : {p : ℕ} {f : Whole} (s t : Whole) → s ≈ t → Faithful p f s → Faithful p f t
faithful_same {p} {f} s t e F = record {
  rep = F.rep;
  below = λ h H x. (let y = F.below h H x in omega arith);
  above = λ h H x. (let y = F.above h H x in omega arith);
}

pub faithful_neg : {p : ℕ} {f s : Whole} → Faithful p f s → Faithful p (neg f) (neg s)
faithful_neg F = record {
  rep = rep_neg F.rep;
  below = λ h H x. (let y = F.above (neg h) (rep_neg H) (omega arith) in omega arith);
  above = λ h H x. (let y = F.below (neg h) (rep_neg H) (omega arith) in omega arith);
}

-- where s has p bits, f is s
pub faithful_exact : {p : ℕ} {f s : Whole} → Faithful p f s → Representable p s → f ≈ s
faithful_exact {p} {f} {s} F S = elim (le_or_lt (f.up + s.dn) (s.up + f.dn)) [
  | inl l ↦ elim (le_or_lt (s.up + f.dn) (f.up + s.dn)) [ inl m ↦ omega arith | inr m ↦ let x = F.above s S (omega arith) in omega arith ]
  | inr l ↦ let x = F.below s S (omega arith) in omega arith
]

pub zero_faithful : (p : ℕ) → Faithful p (nat 0) (nat 0)
zero_faithful p = record { rep = rep_zero p; below = λ h H x. x; above = λ h H x. x }

-- two faithful roundings of one number are equal or neighbours
faithful_neighbours : {p : ℕ} {f g s : Whole} → Faithful p f s → Faithful p g s → f ≺ g → Neighbours p f g
faithful_neighbours F G l = record { less = l; none = λ h H x y. (let a = F.above h H x in let b = G.below h H y in omega arith) }

pub equal_or_neighbours : {p : ℕ} {f g s : Whole} → Faithful p f s → Faithful p g s → (f ≈ g) ⊎ Neighbours p f g ⊎ Neighbours p g f
equal_or_neighbours {p} {f} {g} F G = elim (le_or_lt (g.up + f.dn) (f.up + g.dn)) [
  | inl l ↦ elim (le_or_lt (f.up + g.dn) (g.up + f.dn)) [ inl m ↦ inl (omega arith) | inr m ↦ inr (inr (faithful_neighbours G F (omega arith))) ]
  | inr l ↦ inr (inl (faithful_neighbours F G (omega arith)))
]

-- ---- zero, sign and relative distance

-- up to 2 ^ p in magnitude every whole number has p bits
pub faithful_small : {p : ℕ} {f s : Whole} → Faithful p f s → Within s (2 ^ p) → f ≈ s
faithful_small {s = s} F h = faithful_exact F (record { exp = 0; on = multiple_one s; small = omega arith })

-- and so below 2 ^ p every neighbour is one unit away
pub faithful_small_result : {p : ℕ} {f s : Whole} → Faithful p f s → Under f (2 ^ p) → f ≈ s
faithful_small_result {p} {f} {s} F h = omega (arith, F.above (f ⊕ nat 1) above (omega arith), F.below (f ⊖ nat 1) below (omega arith))
  where
    above : Representable p (f ⊕ nat 1)
    above = record { exp = 0; on = multiple_one (f ⊕ nat 1); small = omega arith }

    below : Representable p (f ⊖ nat 1)
    below = record { exp = 0; on = multiple_one (f ⊖ nat 1); small = omega arith }

pub faithful_zero : {p : ℕ} {f s : Whole} → Faithful p f s → s ≈ nat 0 → f ≈ nat 0
faithful_zero {p} F z = omega (arith, faithful_exact F (rep_same (omega arith) (rep_zero p)))

-- 1 and -1 have p bits, so a number that is not 0 has no faithful rounding 0
pub faithful_positive : {p : ℕ} {f s : Whole} → Faithful p f s → nat 0 ≺ s → nat 0 ≺ f
faithful_positive {p} {f} {s} F h = elim (le_or_lt f.up f.dn) [ inl l ↦ absurd (omega (arith, F.above (nat 1) one (omega arith))) | inr l ↦ omega arith ]
  where
    one : Representable p (nat 1)
    one = record { exp = 0; on = multiple_one (nat 1); small = omega (arith, pow_pos p) }

pub zero_only : {p : ℕ} {f s : Whole} → Faithful p f s → f ≈ nat 0 → s ≈ nat 0
zero_only {p} {f} {s} F z = elim (le_or_lt s.up s.dn) [
  | inl l ↦ elim (le_or_lt s.dn s.up) [ inl m ↦ omega arith | inr m ↦ absurd (omega (arith, faithful_positive (faithful_neg F) (omega arith))) ]
  | inr l ↦ absurd (omega (arith, faithful_positive F (omega arith)))
]

module _ (p : ℕ) (P : 0 < p) where
  -- ---- the nearest number is a faithful rounding, also of what is not far from what was rounded

  pub fl_faithful : (r : Whole) → Faithful p (fl p r) r
  fl_faithful r = record { rep = fl_rep p P r; below = below; above = above }
    where
      below : (h : Whole) → Representable p h → h ≺ fl p r → h ≺ r
      below h H l = elim (le_or_lt (r.up + h.dn) (h.up + r.dn)) [ inl m ↦ omega (arith, fl_below p P r H (omega arith)) | inr m ↦ omega arith ]

      above : (h : Whole) → Representable p h → fl p r ≺ h → r ≺ h
      above h H l = elim (le_or_lt (h.up + r.dn) (r.up + h.dn)) [ inl m ↦ omega (arith, fl_above p P r H (omega arith)) | inr m ↦ omega arith ]

  -- s is off r by at most d, and r rounds to f: where d is small against f, f is faithful to s
  pub criterion : (r s : Whole) (d : ℕ) → Within (s ⊖ r) d → suc (2 ^ p) * (2 * d) < mag (fl p r) → Faithful p (fl p r) s
  criterion r s d w l = record { rep = R; below = below; above = above }
    where
      R : Representable p (fl p r)
      R = fl_rep p P r

      -- f is nearer to r than h is, and h is more than 2 d from f
      below : (h : Whole) → Representable p h → h ≺ fl p r → h ≺ s
      below h H x = omega (arith, fl_best p P r (mag (h ⊖ r)) H (omega arith), far)
        where
          far : h ⊕ nat (2 * d) ≺ fl p r
          far = elim (le_or_lt ((fl p r).up + h.dn) (h.up + 2 * d + (fl p r).dn)) [
            | inl m ↦ omega (arith, gap (2 * d) R H x (omega arith))
            | inr m ↦ omega arith
          ]

      above : (h : Whole) → Representable p h → fl p r ≺ h → s ≺ h
      above h H x = omega (arith, fl_best p P r (mag (h ⊖ r)) H (omega arith), far)
        where
          far : fl p r ⊕ nat (2 * d) ≺ h
          far = elim (le_or_lt (h.up + (fl p r).dn) ((fl p r).up + 2 * d + h.dn)) [
            | inl m ↦ omega (arith, gap (2 * d) (rep_neg R) (rep_neg H) (omega arith) (omega arith))
            | inr m ↦ omega arith
          ]
