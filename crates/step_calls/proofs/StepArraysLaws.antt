-- The walk by blocks as C calls, case by case: another length of the ten numbers, and what the library's own call answers otherwise; and that each of its
-- refusals is one of the table. Assumes nothing.
use Rattle.std.specs.Prelude.{◌≡◌, refl, true, false, List, ℕ, ◌^◌, ◌≤◌, ◌<◌, Float, length, get_or}
use Rattle.std.proofs.Common.{sym, ap, ◌∙◌, inr, arith, eq-eqb, ne_eqb, lit≤, le_trans}
use Rattle.lists.proofs.Apart.{apart}
use Rattle.kinds.specs.Known.{Known, is_doubles, is_singles}
use Rattle.kinds.specs.Limits.{Width, doubles, singles}
use Rattle.kinds.specs.Outcome.{Outcome, outcome}
use Rattle.kinds.specs.Heard.{Refusal, step_heard}
use Rattle.kinds.proofs.Hearing.{at_place_0, placed}
use Rattle.kinds.specs.State.{State}
use Rattle.kinds.specs.Verdict as verdicts
use Rattle.kinds.specs.Step.{Step}
use Rattle.kinds.specs.Step as steps
use Rattle.judge.proofs.JudgeLaws.{list_refusal}
use Rattle.rounds.specs.Fitting.{Fitting}
use Rattle.walk.specs.Walk.{Walked, opened, stepped}
use Rattle.demands.specs.Tables.{StepWhen, wrong_length, other_ensemble, unsound_numbers, unsound_set, unsound_place, no_block, taken_before_lem}
use Rattle.demands.proofs.WalkRefusals.{open_refused, step_refused, step_leaves}
use Rattle.arrays.specs.Arrays.{code_of, returned, too_many_of}
use Rattle.arrays.proofs.ArraysLaws.{refusal_among}
use Rattle.step_calls.specs.StepArrays.{walk_numbers, walk_values, state_in, walk_returned, open_with, step_with}
use Rattle.step_calls.specs.Inner.{StepRefusal, readable, Callable}
use Rattle.step_calls.proofs.Readable.{sound_readable}

pub walk_returned_lem : (W : Width) (numbers : List ℕ) {r : ℕ} {ns : List ℕ} {w : Walked} {a : Step} {xs : List Float}
    → outcome r ns ≡ outcome (code_of (step_heard W a)) (walk_values (step_heard W a) numbers) → outcome a xs ≡ w
    → returned r xs ns ≡ walk_returned W w numbers
walk_returned_lem W numbers {r} {ns} {w} {a} {xs} t e =
    ap (λ (o : Outcome ℕ ℕ). returned o.answer xs o.area) t ∙ ap (λ (x : Walked). walk_returned W x numbers) e

-- ---- the two widths of the calls
pub doubles_called : Callable doubles
doubles_called = record { places = lit≤ tt; counted = lit≤ tt }

pub singles_called : Callable singles
singles_called = record { places = lit≤ tt; counted = lit≤ tt }

pub called : {W : Width} {d s i l m c r : ℕ} → Known W d s i l m c r → Callable W
called is_doubles = doubles_called
called is_singles = singles_called

-- ---- another length of the ten numbers, and the ten
module _ (W : Width) (k : ℕ) (ps : List ℕ) (work : List Float) (numbers : List ℕ) where
  pub open_other : (length numbers ≡ walk_numbers → ⊥) → open_with W k ps work numbers ≡ returned (too_many_of W ps) work numbers
  unfolding open_with
  open_other h = rw (ne_eqb (length numbers) walk_numbers h)

  pub open_walked : length numbers ≡ walk_numbers → open_with W k ps work numbers ≡ walk_returned W (opened W k ps work) numbers
  unfolding open_with
  open_walked h = rw (eq-eqb (length numbers) walk_numbers h)

module _ (W : Width) (numbers : List ℕ) (work : List Float) (e b : ℕ) where
  pub step_other : (length numbers ≡ walk_numbers → ⊥) → step_with W numbers work e b ≡ returned 4 work numbers
  unfolding step_with
  step_other h = rw (ne_eqb (length numbers) walk_numbers h)

  pub step_walked : length numbers ≡ walk_numbers → step_with W numbers work e b ≡ walk_returned W (stepped W (state_in W numbers) e b work) numbers
  unfolding step_with
  step_walked h = rw (eq-eqb (length numbers) walk_numbers h)

-- numbers that are no state's are another ensemble's or none of a sound state's, so the step is refused: 4, then 21, then 8
module _ {W : Width} (F : Fitting W) (numbers : List ℕ) (work : List Float) (e b : ℕ) (l : length numbers ≡ walk_numbers) where
  walk_refused : (k : ℕ) → StepWhen W (state_in W numbers) e b work (verdicts.Refused k 0)
      → returned (code_of (step_heard W (steps.Refused k 0))) work numbers ≡ step_with W numbers work e b
  walk_refused k w =
      let h = (step_refused W (state_in W numbers) e b work F.top F.top_is k 0).1 w in
      let a = step_leaves W (state_in W numbers) e b work k 0 h in
      rw (step_walked W numbers work e b l) (λ i. returned (code_of (step_heard W (sym h i))) (sym a i) (walk_values (step_heard W (sym h i)) numbers))

  pub step_length : (length work ≡ get_or numbers 4 0 → ⊥) → returned 4 work numbers ≡ step_with W numbers work e b
  step_length h = walk_refused 4 (wrong_length h)

  pub step_stranger : length work ≡ get_or numbers 4 0 → (e ≡ get_or numbers 7 0 → ⊥) → returned 21 work numbers ≡ step_with W numbers work e b
  step_stranger h n = walk_refused 21 (other_ensemble h n)

  pub step_unreadable : Callable W → length work ≡ get_or numbers 4 0 → e ≡ get_or numbers 7 0 → e < 2 ^ 32 → readable W.format numbers ≡ false
      → returned 8 work numbers ≡ step_with W numbers work e b
  step_unreadable C h m small r =
      walk_refused 8 (unsound_numbers h m (λ N. let z : true ≡ false = sym (sound_readable C numbers (omega arith) N) ∙ r in apart (cc)))

-- ---- what is refused is refused with a number of the table
step_by : {W : Width} → Callable W → (a : Step) → ((k i : ℕ) → a ≡ steps.Refused k i → Refusal W.length k i) → StepRefusal a
step_by C (steps.More s told) h = tt
step_by C (steps.Done x r) h = tt
step_by C (steps.Refused k i) h = refusal_among C.places (h k i refl)

pub open_refusal : {W : Width} → Callable W → (k : ℕ) (ps : List ℕ) (work : List Float) → StepRefusal (opened W k ps work).answer
open_refusal {W} C k ps work = step_by C (opened W k ps work).answer (λ l i e. list_refusal ((open_refused W ps work k l i).0 e))

step_row : {W : Width} {s : State} {e b : ℕ} {work : List Float} {k i : ℕ} → StepWhen W s e b work (verdicts.Refused k i) → Refusal W.length k i
step_row (wrong_length l) = at_place_0 (omega arith)
step_row (other_ensemble l n) = at_place_0 (omega arith)
step_row (unsound_numbers l m n) = at_place_0 (omega arith)
step_row (unsound_set l m N n) = at_place_0 (omega arith)
step_row (unsound_place l m N S i F) = record { number = omega arith; place = omega (arith, F.inside, N.counts.few); as_told = placed 19 i (inr tt) }
step_row (no_block l m s b) = at_place_0 (omega arith)
step_row (taken_before_lem l m s b t) = at_place_0 (omega arith)

pub step_refusal : {W : Width} → Callable W → Fitting W → (s : State) (e b : ℕ) (work : List Float) → StepRefusal (stepped W s e b work).answer
step_refusal {W} C F s e b work =
    step_by C (stepped W s e b work).answer (λ k i h. step_row ((step_refused W s e b work F.top F.top_is k i).0 h))

-- ---- and at a place of a list, or of a state's work
pub open_place : (W : Width) → W.length ≤ doubles.length → (e : ℕ) (ps : List ℕ) (work : List Float) (k i : ℕ)
    → (opened W e ps work).answer ≡ steps.Refused k i → i ≤ doubles.length
open_place W l e ps work k i a = le_trans (list_refusal ((open_refused W ps work e k i).0 a)).place l

pub step_place : (W : Width) → W.length ≤ doubles.length → Fitting W → (s : State) (e b : ℕ) (work : List Float) (k i : ℕ)
    → (stepped W s e b work).answer ≡ steps.Refused k i → i ≤ doubles.length
step_place W l F s e b work k i a = le_trans (step_row ((step_refused W s e b work F.top F.top_is k i).0 a)).place l
