-- A register that carries later, as C calls, case by case; and that each refusal is one of the table. Assumes nothing.
use Rattle.std.specs.Prelude.{◌≡◌, refl, List, ℕ, ℤ, length}
use Rattle.std.proofs.Common.{sym, ap, ◌∙◌, arith, eq-eqb, ne_eqb}
use Rattle.kinds.specs.Limits.{doubles}
use Rattle.kinds.specs.Outcome.{Outcome, outcome}
use Rattle.kinds.specs.Heard.{Refusal}
use Rattle.lanes.specs.Lanes.{Laying, lay, Settling, settling, settled, laid_heard}
use Rattle.lanes.proofs.LanesLaws.{lay_when, lay_refusal, settle_when, settle_refusal}
use Rattle.lanes.specs.Laid.{Laid}
use Rattle.lanes.specs.Laid.{Counted, Refused}
use Rattle.arrays.specs.Arrays.{code_of, values_of, returned}
use Rattle.arrays.proofs.ArraysLaws.{heard_returned}
use Rattle.lane_calls.specs.LaneArrays.{LaidRefusal, laid_returned, settle_returned, settle_lanes}

module _ (w : Laying) (zs : List ℤ) (out : List ℕ) where
  pub laid_other : (length out ≡ 1 → ⊥) → laid_returned w zs out ≡ returned 4 zs out
  unfolding laid_returned
  laid_other h = rw (ne_eqb (length out) 1 h)

  pub laid_called : length out ≡ 1 → laid_returned w zs out ≡ returned (code_of (laid_heard w.answer)) w.area (values_of (laid_heard w.answer) out)
  unfolding laid_returned
  laid_called h = rw (eq-eqb (length out) 1 h)

  -- from what the call answered and left, and what was written of it
  pub laid_answered : length out ≡ 1 → {b : Laid} {r : ℕ} {xs : List ℤ} {vs : List ℕ} → outcome b xs ≡ w
      → outcome r vs ≡ outcome (code_of (laid_heard b)) (values_of (laid_heard b) out) → returned r xs vs ≡ laid_returned w zs out
  laid_answered h {b} e v =
      heard_returned laid_heard values_of out b (ap (λ (o : Outcome ℕ ℕ). o.answer) v) (ap (λ (o : Outcome ℕ ℕ). o.area) v) e refl ∙ sym (laid_called h)

module _ (zs : List ℤ) (calls : ℕ) (ws out : List ℕ) where
  pub settle_other : (length out ≡ 1 → ⊥) → settle_lanes zs calls ws out ≡ settle_returned 4 zs ws out
  unfolding settle_lanes
  settle_other h = rw (ne_eqb (length out) 1 h)

  pub settle_called : length out ≡ 1
      → let s = settled zs calls ws in
      settle_lanes zs calls ws out ≡ settle_returned (code_of (laid_heard s.answer)) s.lanes s.words (values_of (laid_heard s.answer) out)
  unfolding settle_lanes
  settle_called h = rw (eq-eqb (length out) 1 h)

  pub settle_answered : length out ≡ 1 → {b : Laid} {r : ℕ} {xs : List ℤ} {us vs : List ℕ} → settling b xs us ≡ settled zs calls ws
      → outcome r vs ≡ outcome (code_of (laid_heard b)) (values_of (laid_heard b) out) → settle_returned r xs us vs ≡ settle_lanes zs calls ws out
  settle_answered h {b} {r} {xs} {us} {vs} e v =
      ap (λ (o : Outcome ℕ ℕ). settle_returned o.answer xs us o.area) v
      ∙ ap (λ (s : Settling). settle_returned (code_of (laid_heard s.answer)) s.lanes s.words (values_of (laid_heard s.answer) out)) e
      ∙ sym (settle_called h)

-- ---- what is refused is refused with a number of the table
wider : {k i : ℕ} → Refusal 0 k i → Refusal doubles.length k i
wider R = record { number = R.number; place = omega (arith, R.place); as_told = R.as_told }

by_rows : (a : Laid) → ((k i : ℕ) → a ≡ Refused k i → Refusal 0 k i) → LaidRefusal a
by_rows (Counted n) h = tt
by_rows (Refused k i) h = wider (h k i refl)

pub lay_laid : (zs : List ℤ) (calls p : ℕ) (z : ℤ) → LaidRefusal (lay zs calls p z).answer
lay_laid zs calls p z = by_rows (lay zs calls p z).answer (λ k i e. lay_refusal zs calls p z ((lay_when zs calls p z (Refused k i)).0 e))

pub settle_laid : (zs : List ℤ) (calls : ℕ) (ws : List ℕ) → LaidRefusal (settled zs calls ws).answer
settle_laid zs calls ws = by_rows (settled zs calls ws).answer (λ k i e. settle_refusal zs calls ws ((settle_when zs calls ws (Refused k i)).0 e))
