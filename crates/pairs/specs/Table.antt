-- Rule O6 for pairs: what each answer is given exactly for, in rule O12's order, each where none before it holds. Definitions only.
use Rattle.std.specs.Prelude.{◌≡◌, ◌⊎◌, Bool, not, List, ℕ, ◌≤◌, ◌<◌, T, length, get_or}
use Rattle.std.specs.Float.Ieee.Scale.{finite}
use Rattle.kinds.specs.Verdict.{Verdict}
use Rattle.kinds.specs.Verdict.{Good, Refused}
use Rattle.judge.specs.Table.{float_of, size_of}
use Rattle.pairs.specs.Limits.{Pairing}
use Rattle.pairs.specs.Pairs.{Pair, pair_fault}
use Rattle.pairs.specs.Paired.{Paired}
use Rattle.pairs.specs.Paired as paireds

-- ---- one number of a pair
-- not a NaN and not infinite
abbrev pub Finite : Pairing → ℕ → Type 0
Finite P p = T (finite (float_of P.width p))

-- rule M2: zero, or not below the least magnitude and not above the largest
abbrev pub Ranged : Pairing → ℕ → Type 0
Ranged P p =
    let W = P.width in
    (size_of W p ≡ 0) ⊎ ((size_of W P.least ≤ size_of W p) × (size_of W p ≤ size_of W P.most))

-- rule R23: not zero, and below the least magnitude or above the largest
abbrev pub Outside : Pairing → ℕ → Type 0
Outside P p =
    let W = P.width in
    (0 < size_of W p) × ((size_of W p < size_of W P.least) ⊎ (size_of W P.most < size_of W p))

-- ---- the pair at a place
abbrev pub pair_at : List ℕ → List ℕ → ℕ → Pair
pair_at ps qs i = (get_or ps i 0, get_or qs i 0)

-- the places below n have no fault; no place has one
pub record CleanPairs (P : Pairing) (ps qs : List ℕ) (n : ℕ) : Type 0 where
  pub none : (j : ℕ) → j < n → pair_fault P (pair_at ps qs j) ≡ 0

abbrev pub AllowedPairs : Pairing → List ℕ → List ℕ → Type 0
AllowedPairs P ps qs = CleanPairs P ps qs (length ps)

-- i is the lowest bad place, and k its fault
pub record FirstPair (P : Pairing) (ps qs : List ℕ) (k i : ℕ) : Type 0 where
  pub inside : i < length ps
  pub fault : pair_fault P (pair_at ps qs i) ≡ k
  pub bad : k ≡ 0 → ⊥
  pub before : CleanPairs P ps qs i

-- not too many pairs, and two lists of one length
pub record Matching (P : Pairing) (ps qs : List ℕ) : Type 0 where
  pub few : length ps ≤ P.length
  pub alike : length ps ≡ length qs

-- which verdict an answer of the products comes from
abbrev pub verdict_of : Paired → Verdict
verdict_of paireds.Multiplied = Good
verdict_of (paireds.Refused k i) = Refused k i

-- the table, a row for each verdict; no other number is given for pairs
pub data PairsWhen (P : Pairing) (area : Bool) (ps qs : List ℕ) : Verdict → Type 0 where
  -- rule R1
  too_many : (P.length < length ps) ⊎ (P.length < length qs) → PairsWhen P area ps qs (Refused 1 0)
  -- rule R22
  unlike : length ps ≤ P.length → length qs ≤ P.length → (length ps ≡ length qs → ⊥) → PairsWhen P area ps qs (Refused 22 0)
  -- rule R4
  wrong_area : Matching P ps qs → T (not area) → PairsWhen P area ps qs (Refused 4 0)
  -- rules R2 and R23, at the first bad place
  bad_pair : Matching P ps qs → T area → (k i : ℕ) → FirstPair P ps qs k i → PairsWhen P area ps qs (Refused k i)
  allowed : Matching P ps qs → T area → AllowedPairs P ps qs → PairsWhen P area ps qs Good
