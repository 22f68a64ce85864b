-- What a claim's grade is given exactly for, in the words of rules S1 and S2; rule O6 for the call; and what is promised of grades. Definitions only.
use Rattle.std.specs.Prelude.{◌≡◌, ◌⊎◌, not, List, ℕ, ◌≤◌, ◌<◌, T, ℤ, length, Float}
use Rattle.std.specs.Float.{Format}
use Rattle.std.specs.Float.Ieee.Scale.{finite}
use Rattle.ieee.specs.Units.{value}
use Rattle.ieee.specs.Accuracy.{FaithfulTo, NearestTo}
use Rattle.kinds.specs.Limits.{Width}
use Rattle.judge.specs.Table.{float_of, Allowed, First}
use Rattle.sums.specs.Sums.{sum_of}
use Rattle.grade.specs.Grade.{grade_of}
use Rattle.grade.specs.Graded.{Graded}
use Rattle.grade.specs.Graded.{Exact, Nearest, Faithful, Wrong, Refused}

-- the grade that a claim x of the exact sum S earns, whoever made it
pub data Earns (f : Format) (S : ℤ) (x : Float) : Graded → Type 0 where
  -- rule Q2
  exact : value f x ≡ S → Earns f S x Exact
  -- rule Q3
  nearest : NearestTo f S x → (value f x ≡ S → ⊥) → Earns f S x Nearest
  -- rule Q4
  faithful : FaithfulTo f S x → (NearestTo f S x → ⊥) → Earns f S x Faithful
  -- rule Q5
  wrong : (FaithfulTo f S x → ⊥) → Earns f S x Wrong

-- the call's answers: c is the claim's pattern
pub data GradedWhen (W : Width) (ps : List ℕ) (c : ℕ) : Graded → Type 0 where
  -- rule R1
  too_many : W.length < length ps → GradedWhen W ps c (Refused 1 0)
  -- rules R2 and R3, at the first bad place
  bad_number : length ps ≤ W.length → (k i : ℕ) → First W ps k i → GradedWhen W ps c (Refused k i)
  -- rule R20
  bad_claim : length ps ≤ W.length → Allowed W ps → T (not (finite (float_of W c))) → GradedWhen W ps c (Refused 20 0)
  -- rules Q2 to Q5
  earned : length ps ≤ W.length → Allowed W ps → T (finite (float_of W c)) → (g : Graded) → Earns W.format (sum_of W.format ps) (float_of W c) g
      → GradedWhen W ps c g

-- ---- what is promised of grades
-- rule Q6, of the nearest sum and of a faithful one
abbrev pub AtLeastNearest : Graded → Type 0
AtLeastNearest g = (g ≡ Exact) ⊎ (g ≡ Nearest)

abbrev pub NotWrong : Graded → Type 0
NotWrong g = g ≡ Wrong → ⊥

-- rule Q7
abbrev pub OneGrade : Width → List ℕ → List ℕ → Type 0
OneGrade W ps qs = (c : ℕ) → grade_of W ps c ≡ grade_of W qs c
