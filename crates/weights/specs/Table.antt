-- Rule O6 for handing on: what each answer is given exactly for, in rule O7's order, each where none before it holds. Definitions only.
use Rattle.std.specs.Prelude.{◌≡◌, true, false, List, ℕ, ◌≤◌, ◌<◌, length, get_or}
use Rattle.kinds.specs.Limits.{Width}
use Rattle.judge.specs.Table.{Allowed, First}
use Rattle.weights.specs.Weights.{grains, weight_good, weight_of, weights_of, total}
use Rattle.weights.specs.Handed.{Handed}
use Rattle.weights.specs.Handed.{Shared, Refused}

-- the places below n hold weights
pub record Weighed (W : Width) (ps : List ℕ) (n : ℕ) : Type 0 where
  pub each : (j : ℕ) → j < n → weight_good W (get_or ps j 0) ≡ true

-- no more numbers than a list may have, and an area of the list's length
pub record Fitting (W : Width) (ps area : List ℕ) : Type 0 where
  pub few : length ps ≤ W.length
  pub room : length area ≡ length ps

-- rule V2: a weight list
pub record WeightList (W : Width) (ps : List ℕ) : Type 0 where
  pub weights : Weighed W ps (length ps)
  pub sum : total (weights_of W ps) ≡ grains

-- somebody but the leaver has weight
pub record Other (W : Width) (ps : List ℕ) (at : ℕ) : Type 0 where
  pub place : ℕ
  pub inside : place < length ps
  pub stays : place ≡ at → ⊥
  pub positive : 0 < weight_of W (get_or ps place 0)

-- what an accepted call was given
pub record Accepted (W : Width) (ps : List ℕ) (at : ℕ) (area : List ℕ) : Type 0 where
  pub fitting : Fitting W ps area
  pub list : WeightList W ps
  pub inside : at < length ps
  pub other : Other W ps at

pub data HandedWhen (W : Width) (ps : List ℕ) (at : ℕ) (area : List ℕ) : Handed → Type 0 where
  -- rule R1
  too_many : W.length < length ps → HandedWhen W ps at area (Refused 1 0)
  -- rule R4
  wrong_length : length ps ≤ W.length → (length area ≡ length ps → ⊥) → HandedWhen W ps at area (Refused 4 0)
  -- rules R2 and R3, at the first bad place
  bad_number : Fitting W ps area → (k i : ℕ) → First W ps k i → HandedWhen W ps at area (Refused k i)
  -- rule R14, at the first bad place
  bad_weight_lem : Fitting W ps area → Allowed W ps → (i : ℕ) → i < length ps → weight_good W (get_or ps i 0) ≡ false → Weighed W ps i
      → HandedWhen W ps at area (Refused 14 i)
  -- rule R15
  other_total : Fitting W ps area → Weighed W ps (length ps) → (total (weights_of W ps) ≡ grains → ⊥) → HandedWhen W ps at area (Refused 15 0)
  -- rule R16
  no_place : Fitting W ps area → WeightList W ps → length ps ≤ at → HandedWhen W ps at area (Refused 16 0)
  -- rule R17
  nobody : Fitting W ps area → WeightList W ps → at < length ps → (Other W ps at → ⊥) → HandedWhen W ps at area (Refused 17 0)
  shared : Accepted W ps at area → HandedWhen W ps at area Shared
