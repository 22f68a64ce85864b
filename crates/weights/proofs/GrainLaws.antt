-- The new weights in grains: the total is conserved, each clock that stays has its old weight, its share and at most one grain more, the leaver nothing; the
-- lowest places get the left over; equal weights stay within a grain of each other, and a heavier clock ends no lighter. Assumes nothing.
use Rattle.std.specs.Prelude.{◌≡◌, refl, List, [], ◌∷◌, map, ℕ, zero, suc, ◌+◌, ◌-◌, ◌≤◌, ◌<◌, length, take, get_or, set}
use Rattle.std.proofs.Common.{sym, ap, ◌∙◌, zero-mul, arith, length-set, get_or-set_same, get_or-set_other}
use Rattle.std.proofs.Math.Nat.{zero-div}
use Rattle.std.proofs.lemmas.List.{set-get_or}
use Rattle.weights.specs.Weights.{grains, total, share, staying, left_over, spread, handed}
use Rattle.weights.specs.Promise.{positives}
use Rattle.weights.proofs.ShareLaws.{share_rises, share_none, gets_most, gets_none, gets_more, left_over_lem, spread_total, spread_length, spread_at}
use Rattle.weights.specs.GrainLaws.{grain_at}

-- the leaver's weight and the others'
pub split : (ks : List ℕ) (at : ℕ) → at < length ks → total ks ≡ get_or ks at 0 + total (staying at ks)
unfolding total
split [] at h = absurd (omega arith)
split (k ∷ ks) zero h = omega arith
split (k ∷ ks) (suc at) h = omega (arith, split ks at (omega arith))

-- fewer places have fewer clocks of positive weight
fewer : (ks : List ℕ) (i j : ℕ) → i ≤ j → positives (take i ks) ≤ positives (take j ks)
unfolding positives
fewer ks zero j h = omega arith
fewer [] (suc i) (suc j) h = omega arith
fewer (k ∷ ks) (suc i) zero h = absurd (omega arith)
fewer (k ∷ ks) (suc i) (suc j) h = omega (arith, fewer ks i j (omega arith))
fewer [] (suc i) zero h = omega arith

module _ (at : ℕ) (ks : List ℕ) where
  abbrev w : ℕ
  w = get_or ks at 0

  abbrev stay : List ℕ
  stay = staying at ks

  -- rules V3 to V5, at each place
  pub handed_at : (i : ℕ) → i < length ks → let k = get_or stay i 0 in get_or (handed at ks) i 0 ≡ k + share w k + grain_at at ks i
  handed_at i h = spread_at w (left_over w stay) stay i (rw (length-set ks at 0) h)

  pub handed_length : length (handed at ks) ≡ length ks
  handed_length = spread_length w (left_over w stay) stay ∙ length-set ks at 0

  pub grain_most : (i : ℕ) → grain_at at ks i ≤ 1
  grain_most i = gets_most (left_over w stay - positives (take i stay)) (get_or stay i 0)

  -- the leaver, and a clock of weight zero
  nothing_at : (i : ℕ) → i < length ks → get_or stay i 0 ≡ 0 → get_or (handed at ks) i 0 ≡ 0
  nothing_at i h e =
      let g : grain_at at ks i ≡ 0 = gets_none (left_over w stay - positives (take i stay)) (get_or stay i 0) e in
      let s : share w (get_or stay i 0) ≡ 0 = ap (share w) e ∙ share_none w in
      handed_at i h ∙ omega arith

  pub leaver_nothing : at < length ks → get_or (handed at ks) at 0 ≡ 0
  leaver_nothing h = nothing_at at h (get_or-set_same ks at 0 0 h)

  -- one that stays
  module _ (i : ℕ) (inside : i < length ks) (stays : i ≡ at → ⊥) where
    kept : get_or stay i 0 ≡ get_or ks i 0
    kept = get_or-set_other ks at i 0 0 stays

    pub stayer_gains : let k = get_or ks i 0 in get_or (handed at ks) i 0 ≡ k + share w k + grain_at at ks i
    stayer_gains = handed_at i inside ∙ ap (λ (k : ℕ). k + share w k + grain_at at ks i) kept

    pub zero_nothing : get_or ks i 0 ≡ 0 → get_or (handed at ks) i 0 ≡ 0
    zero_nothing e = nothing_at i inside (kept ∙ e)

  -- no clock of positive weight without a grain stands before one with a grain
  pub lowest_first : (i j : ℕ) → i < j → 0 < get_or stay i 0 → grain_at at ks j ≡ 1 → grain_at at ks i ≡ 1
  lowest_first i j h p e =
      gets_more (left_over w stay - positives (take j stay)) (left_over w stay - positives (take i stay)) (get_or stay j 0) (get_or stay i 0)
      (omega (arith, fewer stay i j (omega arith))) p e

  -- ---- fairness between two that stay
  module _ (i j : ℕ) (I : i < length ks) (J : j < length ks) (stays-i : i ≡ at → ⊥) (stays-j : j ≡ at → ⊥) where
    pub equal_near : get_or ks i 0 ≡ get_or ks j 0 → get_or (handed at ks) i 0 ≤ get_or (handed at ks) j 0 + 1
    equal_near e =
        let s : share w (get_or ks i 0) ≡ share w (get_or ks j 0) = ap (share w) e in
        omega (arith, stayer_gains i I stays-i, stayer_gains j J stays-j, grain_most i)

    pub heavier_above : w < grains → get_or ks i 0 < get_or ks j 0 → get_or (handed at ks) i 0 ≤ get_or (handed at ks) j 0
    heavier_above d h =
        let s : share w (get_or ks i 0) ≤ share w (get_or ks j 0) = share_rises w (get_or ks i 0) (get_or ks j 0) d (omega arith) in
        omega (arith, stayer_gains i I stays-i, stayer_gains j J stays-j, grain_most i)

  -- ---- of a weight list in which somebody else has weight
  module _ (sum : total ks ≡ grains) (inside : at < length ks) (others : 0 < total (staying at ks)) where
    remaining : total stay ≡ grains - w
    remaining = omega (arith, split ks at inside, sum)

    pub leaver_light : w < grains
    leaver_light = omega (arith, split ks at inside, sum, others)

    known : (total (map (share w) stay) ≤ w) × (left_over w stay < positives stay)
    known = left_over_lem w (grains - w) (omega (arith, remaining, others)) stay remaining

    pub shares_most : total (map (share w) stay) ≤ w
    shares_most = known.0

    -- less is left over than there are clocks with weight
    pub left_less : left_over w stay < positives stay
    left_less = known.1

    -- so that all of it goes
    pub conserved : total (handed at ks) ≡ grains
    conserved = omega (arith, spread_total w (left_over w stay) stay (omega (arith, left_less)), remaining, known.0, others)

-- ---- a leaver of weight zero
no_share : (k : ℕ) → share 0 k ≡ 0
no_share k = rw (zero-mul k) (zero-div (grains - 0))

nothing_spread : (ks : List ℕ) → spread 0 0 ks ≡ ks
unfolding spread
nothing_spread [] = refl
nothing_spread (k ∷ ks) = λ i. (same i) ∷ nothing_spread ks i
  where
    same : k + share 0 k + 0 ≡ k
    same = omega (arith, no_share k)

pub zero_leaves : (at : ℕ) (ks : List ℕ) → get_or ks at 0 ≡ 0 → handed at ks ≡ ks
zero_leaves at ks e = (λ i. spread (e i) (e i - total (map (share (e i)) (same i))) (same i)) ∙ ap (λ (n : ℕ). spread 0 n ks) none ∙ nothing_spread ks
  where
    same : staying at ks ≡ ks
    same = ap (set ks at) (sym e) ∙ set-get_or ks at 0

    none : 0 - total (map (share 0) ks) ≡ 0
    none = omega arith
