-- Rules O6 and S3 for a list: what a verdict, and which zero, is given exactly for. Definitions only.
use Rattle.std.specs.Prelude.{◌≡◌, Bool, not, List, ℕ, ◌≤◌, ◌<◌, T, length, get_or, Float}
use Rattle.std.specs.Float.Ieee.{of_bits}
use Rattle.ieee.specs.Units.{magnitude}
use Rattle.lists.specs.Each.{Each}
use Rattle.kinds.specs.Limits.{Width}
use Rattle.kinds.specs.Verdict.{Verdict}
use Rattle.kinds.specs.Verdict.{Good, Refused}
use Rattle.judge.specs.Judge.{fault_of, minus_pattern}

-- the number that a pattern stands for, its magnitude in units, and the limit's
abbrev pub float_of : Width → ℕ → Float
float_of W p = of_bits W.format p

abbrev pub size_of : Width → ℕ → ℕ
size_of W p = magnitude W.format (float_of W p)

abbrev pub most : Width → ℕ
most W = size_of W W.magnitude

-- ---- of members of any kind that may have a fault; d stands for what is past the end
-- the places below n have none
pub record CleanBy {A : Type 0} (faults : A → ℕ) (d : A) (xs : List A) (n : ℕ) : Type 0 where
  pub none : (j : ℕ) → j < n → faults (get_or xs j d) ≡ 0

-- i is the lowest bad place, and k its fault; there is such a place
pub record FirstBy {A : Type 0} (faults : A → ℕ) (d : A) (xs : List A) (k i : ℕ) : Type 0 where
  pub inside : i < length xs
  pub fault : faults (get_or xs i d) ≡ k
  pub bad : k ≡ 0 → ⊥
  pub before : CleanBy faults d xs i

abbrev pub FaultyBy : {A : Type 0} → (A → ℕ) → A → List A → Type 0
FaultyBy faults d xs = (k : ℕ) × (i : ℕ) × FirstBy faults d xs k i

-- ---- of patterns: the places below n have no fault; no place has one
pub record Clean (W : Width) (ps : List ℕ) (n : ℕ) : Type 0 where
  pub none : (j : ℕ) → j < n → fault_of W (get_or ps j 0) ≡ 0

abbrev pub Allowed : Width → List ℕ → Type 0
Allowed W ps = Clean W ps (length ps)

-- i is the lowest bad place, and k its fault; there is such a place
pub record First (W : Width) (ps : List ℕ) (k i : ℕ) : Type 0 where
  pub inside : i < length ps
  pub fault : fault_of W (get_or ps i 0) ≡ k
  pub bad : k ≡ 0 → ⊥
  pub before : Clean W ps i

abbrev pub Faulty : Width → List ℕ → Type 0
Faulty W ps = (k : ℕ) × (i : ℕ) × First W ps k i

-- none of 1, 4 and 5 is given
pub record Passed (W : Width) (area parts : Bool) (ps : List ℕ) : Type 0 where
  pub few : length ps ≤ W.length
  pub right_area : T area
  pub right_parts : T parts

-- the table, a row for each verdict; no other number is given for a list
pub data ListWhen (W : Width) (area parts : Bool) (ps : List ℕ) : Verdict → Type 0 where
  -- rule R1
  too_many : W.length < length ps → ListWhen W area parts ps (Refused 1 0)
  -- rule R4
  wrong_area : length ps ≤ W.length → T (not area) → ListWhen W area parts ps (Refused 4 0)
  -- rule R5
  wrong_parts : length ps ≤ W.length → T area → T (not parts) → ListWhen W area parts ps (Refused 5 0)
  -- rules R2 and R3, at the first bad place
  bad_number : Passed W area parts ps → (k i : ℕ) → First W ps k i → ListWhen W area parts ps (Refused k i)
  allowed : Passed W area parts ps → Allowed W ps → ListWhen W area parts ps Good

-- ---- rule S3, where the exact sum is zero
-- nothing but -0, and not nothing
pub record MinusZeros (W : Width) (ps : List ℕ) : Type 0 where
  pub some : 0 < length ps
  pub each : Each (λ p. p ≡ minus_pattern W) ps

-- the pattern of the zero that is answered
pub data ZeroWhen (W : Width) (ps : List ℕ) : ℕ → Type 0 where
  minus : MinusZeros W ps → ZeroWhen W ps (minus_pattern W)
  plus : (MinusZeros W ps → ⊥) → ZeroWhen W ps 0
