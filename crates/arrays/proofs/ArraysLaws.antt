-- What a call of the library answers, as a C call on arrays returns it. Assumes nothing.
use Rattle.std.specs.Prelude.{◌≡◌, refl, List, ℕ, ◌≤◌}
use Rattle.std.proofs.Common.{sym, ap, ◌∙◌, le_trans}
use Rattle.kinds.specs.Limits.{Width, doubles}
use Rattle.kinds.specs.Outcome.{Outcome, outcome}
use Rattle.kinds.specs.Heard.{Refusal, Heard}
use Rattle.kinds.specs.Nearest.{Nearest}
use Rattle.kinds.specs.Nearest as nearests
use Rattle.arrays.specs.Arrays.{code_of, returned}
use Rattle.arrays.specs.Inner.{NearestRefusal}

-- ---- a call that answers an area as well: it returns the code of what is heard, and writes the values of it
pub heard_returned : {A X : Type 0} (heard : A → Heard) (written : Heard → List ℕ → List ℕ) (values : List ℕ) (b : A)
    {r : ℕ} {vs : List ℕ} {w : Outcome A X} {a : A} {xs : List X}
    → r ≡ code_of (heard b) → vs ≡ written (heard b) values → outcome a xs ≡ w → a ≡ b
    → returned r xs vs ≡ returned (code_of (heard w.answer)) w.area (written (heard w.answer) values)
heard_returned {A} {X} heard written values b {r} {vs} {w} {a} {xs} c v e q =
    (λ i. returned (c i) xs (v i))
    ∙ ap (λ (x : A). returned (code_of (heard x)) xs (written (heard x) values)) (sym q)
    ∙ ap (λ (x : Outcome A X). returned (code_of (heard x.answer)) x.area (written (heard x.answer) values)) e

-- and of a call with no array of values: the code, and the area as it is
pub code_returned : {A X : Type 0} (heard : A → Heard) {r : ℕ} {a b : A} {xs : List X} {w : Outcome A X}
    → r ≡ code_of (heard b) → outcome a xs ≡ w → a ≡ b → outcome r xs ≡ outcome (code_of (heard w.answer)) w.area
code_returned {A} {X} heard {r} {a} {b} {xs} {w} c e q =
    ap (λ (n : ℕ). outcome n xs) c
    ∙ ap (λ (x : A). outcome (code_of (heard x)) xs) (sym q)
    ∙ ap (λ (x : Outcome A X). outcome (code_of (heard x.answer)) x.area) e

-- ---- a place among fewer is one among more
pub refusal_among : {m n k i : ℕ} → m ≤ n → Refusal m k i → Refusal n k i
refusal_among l R = record { number = R.number; place = le_trans R.place l; as_told = R.as_told }

-- ---- a nearest sum that is refused is refused with a number of the table
pub nearest_by : (W : Width) → W.length ≤ doubles.length → (a : Nearest)
    → ((k i : ℕ) → a ≡ nearests.Refused k i → Refusal W.length k i) → NearestRefusal a
nearest_by W l (nearests.Sum x) h = tt
nearest_by W l (nearests.Refused k i) h = refusal_among l (h k i refl)
