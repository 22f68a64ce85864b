-- Shares rounded down, and what is left over: it is less than the number of clocks with weight, all of it goes, and a clock gets a grain of it where one is
-- left after those before it. Weights are whole numbers here, in grains. Assumes nothing.
use Rattle.std.specs.Prelude.{◌≡◌, length, take}
use Rattle.std.proofs.Math.Path.{refl, ap}
use Rattle.std.proofs.Common.{◌∙◌, inl, inr, mul-zero, eq-zero-or-pos, mul-le-mul_left, mul-le-mul_right, le_of_mul-le-mul_right, lt_of_mul-lt-mul_right}
use mathlib.Core.List.{List, [], ◌∷◌, map}
use Prim.Native.Nat.{ℕ, zero, suc, ◌+◌, ◌-◌, ◌*◌, ◌/◌, ◌≤◌, ◌<◌}
use Rattle.std.proofs.Math.Nat.{zero-div, sub-zero, div-mul-le_self, lt-div-mul-add}
use native.Mathlib.Omega.{arith}
use Rattle.std.proofs.Math.ListN.{get_or}
use Rattle.std.specs.Float.Ieee.Nearest.{div_mono}
use Rattle.weights.specs.Weights.{grains, total, share, gets, spread}
use Rattle.weights.specs.Promise.{counts, positives}

-- ---- rule V3: the part of w, rounded down
pub share_down : (w k : ℕ) → w < grains → (share w k * (grains - w) ≤ w * k) × (w * k < share w k * (grains - w) + (grains - w))
share_down w k h = (div-mul-le_self (w * k) (grains - w), lt-div-mul-add (omega arith))

-- more weight, no smaller share; and of none none
pub share_rises : (w k l : ℕ) → w < grains → k ≤ l → share w k ≤ share w l
share_rises w k l d h = div_mono (w * k) (grains - w) (w * l) (grains - w) (omega arith) (omega arith) (mul-le-mul_right (grains - w) (mul-le-mul_left w h))

pub share_none : (w : ℕ) → share w 0 ≡ 0
share_none w = rw (mul-zero w) (zero-div (grains - w))

-- ---- rule V4: of what is left a clock gets one grain at most
pub gets_most : (left k : ℕ) → gets left k ≤ 1
gets_most zero k = omega arith
gets_most (suc left) zero = omega arith
gets_most (suc left) (suc k) = omega arith

-- one without weight none
pub gets_none : (left k : ℕ) → k ≡ 0 → gets left k ≡ 0
gets_none zero k e = refl
gets_none (suc left) zero e = refl
gets_none (suc left) (suc k) e = absurd (omega arith)

-- where one is got of fewer, one is got of more too
pub gets_more : (left more k l : ℕ) → left ≤ more → 0 < l → gets left k ≡ 1 → gets more l ≡ 1
gets_more zero more k l h p e = absurd (omega arith)
gets_more (suc left) zero k l h p e = absurd (omega arith)
gets_more (suc left) (suc more) k zero h p e = absurd (omega arith)
gets_more (suc left) (suc more) k (suc l) h p e = refl

-- ---- who has weight

-- where no clock has weight, the total is zero
pub none_positive : (ks : List ℕ) → positives ks ≡ 0 → total ks ≡ 0
unfolding total positives
none_positive [] e = refl
none_positive (zero ∷ ks) e = omega (arith, none_positive ks (omega arith))
none_positive (suc k ∷ ks) e = absurd (omega arith)

-- ---- the shares of all, where w is shared among D
module _ (w D : ℕ) (some : 0 < D) where
  abbrev shares : List ℕ → ℕ
  shares ks = total (map (λ (k : ℕ). w * k / D) ks)

  shares_least : (ks : List ℕ) → shares ks * D ≤ w * total ks
  unfolding total
  shares_least [] = omega arith
  shares_least (k ∷ ks) = omega (arith, div-mul-le_self (w * k) D, shares_least ks)

  -- each share of a positive weight leaves less than D
  shares_most : (ks : List ℕ) → w * total ks + positives ks ≤ shares ks * D + positives ks * D
  unfolding total positives
  shares_most [] = omega arith
  shares_most (zero ∷ ks) = omega (arith, shares_most ks)
  shares_most (suc k ∷ ks) = omega (arith, shares_most ks, lt-div-mul-add {a = w * suc k} some)

  -- the total being D, less is left over than there are clocks of positive weight
  pub left_over_lem : (ks : List ℕ) → total ks ≡ D → (shares ks ≤ w) × (w - shares ks < positives ks)
  left_over_lem ks e = (least, omega (arith, most, least))
    where
      least : shares ks ≤ w
      least = le_of_mul-le-mul_right (rw e at (shares_least ks)) some

      counted : 0 < positives ks
      counted = elim (eq-zero-or-pos (positives ks)) [ inl z ↦ absurd (omega (arith, none_positive ks z)) | inr h ↦ h ]

      most : w < shares ks + positives ks
      most = lt_of_mul-lt-mul_right D (omega (arith, rw e at (shares_most ks), counted))

-- ---- what each clock has in the end

one_less : (n : ℕ) → suc n - 1 ≡ n
one_less n = omega arith

module _ (w : ℕ) where
  -- all that is left over goes, where it is at most a grain for each clock of positive weight
  pub spread_total : (left : ℕ) (ks : List ℕ) → left ≤ positives ks → total (spread w left ks) ≡ total ks + total (map (share w) ks) + left
  unfolding total positives spread
  spread_total left [] h = omega arith
  spread_total zero (k ∷ ks) h = omega (arith, spread_total zero ks (omega arith))
  spread_total (suc left) (zero ∷ ks) h = rw (sub-zero (suc left)) (omega (arith, spread_total (suc left) ks (omega arith)))
  spread_total (suc left) (suc k ∷ ks) h = rw (one_less left) (omega (arith, spread_total left ks (omega arith)))

  pub spread_length : (left : ℕ) (ks : List ℕ) → length (spread w left ks) ≡ length ks
  unfolding spread
  spread_length left [] = refl
  spread_length left (k ∷ ks) = ap suc (spread_length (left - gets left k) ks)

  -- a clock gets a grain where one is left after those of positive weight before it
  pub spread_at : (left : ℕ) (ks : List ℕ) (i : ℕ) → i < length ks
      → let k = get_or ks i 0 in
      get_or (spread w left ks) i 0 ≡ k + share w k + gets (left - positives (take i ks)) k
  unfolding positives spread
  spread_at left [] i h = absurd (omega arith)
  spread_at left (k ∷ ks) zero h = rw (sub-zero left)
  spread_at left (k ∷ ks) (suc i) h =
      spread_at (left - gets left k) ks i (omega arith)
      ∙ ap (λ (n : ℕ). get_or ks i 0 + share w (get_or ks i 0) + gets n (get_or ks i 0)) (after left k (positives (take i ks)))
    where
      after : (left k p : ℕ) → left - gets left k - p ≡ left - (counts k + p)
      after zero k p = omega arith
      after (suc left) zero p = omega arith
      after (suc left) (suc k) p = omega arith
