-- What is promised of the new weights, wherever a call is accepted. Definitions only.
use Rattle.std.specs.Prelude.{◌≡◌, List, [], ◌∷◌, map, ℕ, zero, suc, ◌+◌, ◌≤◌, ◌<◌, ℤ, pos, length, get_or}
use Rattle.std.specs.Float.{Format}
use Rattle.std.specs.Float.Ieee.{of_bits}
use Rattle.units.specs.Whole.{exact_sum}
use Rattle.ieee.specs.Units.{value}
use Rattle.kinds.specs.Limits.{Width}
use Rattle.weights.specs.Weights.{whole_weight, weight_of, weights_of, share, staying, left_over}
use Rattle.weights.specs.Table.{WeightList}

-- rule L2: S, in units
abbrev pub sum_units : Format → List ℕ → ℤ
sum_units f ps = exact_sum (map (λ (p : ℕ). value f (of_bits f p)) ps)

-- the weight at a place, in grains
abbrev pub weight_at : Width → List ℕ → ℕ → ℕ
weight_at W ps i = weight_of W (get_or ps i 0)

-- how many clocks have a weight above zero
abbrev pub counts : ℕ → ℕ
counts zero = 0
counts (suc k) = 1

unfoldable pub positives : List ℕ → ℕ
positives [] = 0
positives (k ∷ ks) = counts k + positives ks

-- place i is one of the list's, and not the leaver's
pub record Stays (ps : List ℕ) (at i : ℕ) : Type 0 where
  pub inside : i < length ps
  pub other : i ≡ at → ⊥

-- qs is what became of the weight list ps when the clock at the place `at` left
pub record HandedOn (W : Width) (ps : List ℕ) (at : ℕ) (qs : List ℕ) : Type 0 where
  -- rule V7
  pub as_long : length qs ≡ length ps
  pub conserved : sum_units W.format qs ≡ sum_units W.format ps
  pub whole : sum_units W.format qs ≡ pos (whole_weight W.format)
  pub again : WeightList W qs
  -- rule V5: +0
  pub leaver : get_or qs at 0 ≡ 0
  -- rules V3 and V8: the old weight, its share, and a grain at most; +0 for a clock without weight
  pub least : (i : ℕ) → Stays ps at i → weight_at W ps i + share (weight_at W ps at) (weight_at W ps i) ≤ weight_at W qs i
  pub most : (i : ℕ) → Stays ps at i → weight_at W qs i ≤ weight_at W ps i + share (weight_at W ps at) (weight_at W ps i) + 1
  pub nothing : (i : ℕ) → Stays ps at i → weight_at W ps i ≡ 0 → get_or qs i 0 ≡ 0
  -- rules V4 and V8: what is left over is less than a grain for each, and a clock with one has none before it that could have had it
  pub left : left_over (weight_at W ps at) (staying at (weights_of W ps)) < positives (staying at (weights_of W ps))
  pub lowest : (i j : ℕ) → Stays ps at i → Stays ps at j → i < j → 0 < weight_at W ps i
      → weight_at W qs j ≡ weight_at W ps j + share (weight_at W ps at) (weight_at W ps j) + 1
      → weight_at W qs i ≡ weight_at W ps i + share (weight_at W ps at) (weight_at W ps i) + 1
  -- rule V9
  pub unchanged : weight_at W ps at ≡ 0 → qs ≡ ps
  -- rule V10
  pub near : (i j : ℕ) → Stays ps at i → Stays ps at j → weight_at W ps i ≡ weight_at W ps j → weight_at W qs i ≤ weight_at W qs j + 1
  pub in_order : (i j : ℕ) → Stays ps at i → Stays ps at j → weight_at W ps i < weight_at W ps j → weight_at W qs i ≤ weight_at W qs j
