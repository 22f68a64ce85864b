-- What the theorems of proofs/GrainLaws.antt speak of. Definitions only.
use Rattle.std.specs.Prelude.{List, ℕ, ◌-◌, take, get_or}
use Rattle.weights.specs.Weights.{staying, left_over, gets}
use Rattle.weights.specs.Promise.{positives}

-- ---- what a place gets of the left over
abbrev pub grain_at : ℕ → List ℕ → ℕ → ℕ
grain_at at ks i =
    let w = get_or ks at 0 in
    let stay = staying at ks in
    gets (left_over w stay - positives (take i stay)) (get_or stay i 0)
