-- Products of pairs and the nearest weighted sum, as C calls: what each returns, and what it leaves in the array that it is lent. Definitions only.
use Rattle.std.specs.Prelude.{◌≡◌, ◌⊎◌, cond, ◌||◌, List, ℕ, ◌≤◌, ◌<◌, eqb, ltb, length}
use Rattle.kinds.specs.Limits.{doubles}
use Rattle.kinds.specs.Heard.{nearest_heard}
use Rattle.kinds.specs.Outcome.{Outcome, outcome}
use Rattle.arrays.specs.Arrays.{code_of, values_of}
use Rattle.pairs.specs.Limits.{double_pairs}
use Rattle.pairs.specs.Pairs.{multiplied_of, weighted_of, paired_heard}

-- rule C9
abbrev pub products_arrays : List ℕ → List ℕ → List ℕ → Outcome ℕ ℕ
products_arrays ps qs out = let w = multiplied_of double_pairs ps qs out in outcome (code_of (paired_heard w.answer)) w.area

-- rule C10, where the array of the value has another length: 4 has its place of rule O12
abbrev pub other_length : List ℕ → List ℕ → ℕ
other_length ps qs =
    cond (ltb double_pairs.length (length ps) || ltb double_pairs.length (length qs)) 1
    (cond (eqb (length ps) (length qs)) 4 22)

-- each of these codes, and exactly what it is given for
pub data OtherWhen (ps qs : List ℕ) : ℕ → Type 0 where
  too_many : (double_pairs.length < length ps) ⊎ (double_pairs.length < length qs) → OtherWhen ps qs 1
  unlike : length ps ≤ double_pairs.length → length qs ≤ double_pairs.length → (length ps ≡ length qs → ⊥) → OtherWhen ps qs 22
  otherwise : length ps ≤ double_pairs.length → length ps ≡ length qs → OtherWhen ps qs 4

-- rules C9 and C10
unfoldable pub weighted_arrays : List ℕ → List ℕ → List ℕ → Outcome ℕ ℕ
weighted_arrays ps qs out =
    let h = nearest_heard doubles (weighted_of double_pairs ps qs) in
    cond (eqb (length out) 1) (outcome (code_of h) (values_of h out)) (outcome (other_length ps qs) out)
