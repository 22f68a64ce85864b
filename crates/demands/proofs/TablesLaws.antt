-- The gate of a block step gives each verdict exactly when its row says (rule O6), and so does rounding a register. Assumes nothing.
use Rattle.std.specs.Prelude.{◌≡◌, refl, ◌↔◌, Bool, true, false, List, ℕ, ◌^◌, ◌≤◌, ◌<◌, nat_abs, length, Float}
use Rattle.std.proofs.Common.{ap, ◌∙◌, inl, inr, arith}
use Rattle.std.proofs.Math.Decide.{ℕ_discrete}
use Rattle.std.specs.Float.{nan, binary64}
use Rattle.units.proofs.Powers.{le_or_lt}
use Rattle.ieee.specs.Units.{limit}
use Rattle.lists.specs.Bitset.{has}
use Rattle.lists.specs.Each.{each_at}
use Rattle.kinds.proofs.Hearing.{exactly}
use Rattle.kinds.specs.Limits.{Width, blocks_of}
use Rattle.kinds.specs.State.{State}
use Rattle.kinds.specs.Verdict.{Verdict}
use Rattle.kinds.specs.Verdict.{Good, Refused}
use Rattle.kinds.specs.Nearest.{Nearest}
use Rattle.words.specs.Words.{word_count, whole_of}
use Rattle.register.specs.Register.{rounded}
use Rattle.register.proofs.RoundedLaws.{rounded_length, rounded_beyond, rounded_sum}
use Rattle.judge.specs.Table.{size_of}
use Rattle.sound.specs.Sound.{sound_numbers, sound_pending, bad_place, sound, gated}
use Rattle.sound.specs.Numbers.{Numbers}
use Rattle.sound.proofs.PlacesLaws.{bad_within}
use Rattle.sound.proofs.SoundLaws.{sound_all}
use Rattle.sound.proofs.GateLaws.{gated_4, gated_21, gated_8, gated_18, gated_19, gated_6, gated_7, gated_good}
use Rattle.demands.specs.SoundState.{SoundPlace, SoundSet, SoundState}
use Rattle.demands.proofs.SoundStateLaws.{sound_numbers_lem, sound_set, sound_state, first_bad_lem, bad_first}
use Rattle.demands.specs.Tables.{StepWhen, wrong_length, other_ensemble, unsound_numbers, unsound_set, unsound_place, no_block, taken_before_lem}
use Rattle.demands.specs.Tables.{accepted, OfState}
use Rattle.demands.specs.Tables.{RoundWhen, wrong_words, beyond, nearest}

-- ---- a block step, where the largest magnitude is 2^top units
module _ (W : Width) (top : ℕ) (is : size_of W W.magnitude ≡ 2 ^ top) (s : State) (k b : ℕ) (work : List Float) where
  tested : SoundState W s work → sound W s work ≡ true
  tested = (sound_state W s top is work).1

  numbers : (sound_numbers W s ≡ true) ↔ Numbers W s
  numbers = sound_numbers_lem W s top is

  -- a test is false where what it tests for doesn't hold
  untested : {A : Type 0} (t : Bool) → (t ≡ true → A) → (A → ⊥) → t ≡ false
  untested true h n = absurd (n (h refl))
  untested false h n = refl

  row : {v : Verdict} → StepWhen W s k b work v → gated W s k b work ≡ v
  row (wrong_length n) = gated_4 W s k b work n
  row (other_ensemble l n) = gated_21 W s k b work l n
  row (unsound_numbers l m n) = gated_8 W s k b work l m (untested (sound_numbers W s) numbers.0 n)
  row (unsound_set l m N n) = gated_18 W s k b work l m (numbers.1 N) (untested (sound_pending W s) (sound_set W s).0 n)
  row (unsound_place l m N S i F) =
      let e : bad_place W s work ≡ i = first_bad_lem W s work i F in
      gated_19 W s k b work l m (numbers.1 N) ((sound_set W s).1 S) (omega (arith, F.inside)) ∙ ap (Refused 19) e
  row (no_block l m S h) = gated_6 W s k b work l m (tested S) h
  row (taken_before_lem l m S h p) = gated_7 W s k b work l m (tested S) h p
  row (accepted l m S h p) = gated_good W s k b work l m (tested S) h p

  some_row : (v : Verdict) × StepWhen W s k b work v
  some_row = elim (ℕ_discrete (length work) s.n) [
    | no n ↦ (Refused 4 0, wrong_length n)
    | yes l ↦ elim (ℕ_discrete k s.ensemble) [
      | no n ↦ (Refused 21 0, other_ensemble l n)
      | yes m ↦ by_numbers l m (sound_numbers W s) refl
    ]
  ]
    where
      -- a test that is false, and what would make it true
      failed : {A : Type 0} {t : Bool} → t ≡ false → (A → t ≡ true) → A → ⊥
      failed e h a = let f = h a in let z : ◌≡◌ {A = ℕ} 0 1 = cc in omega arith

      by_set : length work ≡ s.n → k ≡ s.ensemble → SoundState W s work → b < blocks_of W s.n → (t : Bool) → has s.pending b ≡ t
          → (v : Verdict) × StepWhen W s k b work v
      by_set l m S h true p = (Good, accepted l m S h p)
      by_set l m S h false p = (Refused 7 0, taken_before_lem l m S h p)

      by_block : length work ≡ s.n → k ≡ s.ensemble → SoundState W s work → (v : Verdict) × StepWhen W s k b work v
      by_block l m S = elim (le_or_lt (blocks_of W s.n) b) [
        | inl h ↦ (Refused 6 0, no_block l m S h)
        | inr h ↦ by_set l m S h (has s.pending b) refl
      ]

      by_place : length work ≡ s.n → k ≡ s.ensemble → Numbers W s → SoundSet W s → sound_numbers W s ≡ true → sound_pending W s ≡ true
          → (v : Verdict) × StepWhen W s k b work v
      by_place l m N S e f = elim (le_or_lt (length work) (bad_place W s work)) [
        | inl h ↦ by_block l m ((sound_state W s top is work).0 (sound_all W s work e f (omega (arith, bad_within W s work))))
        | inr h ↦ (Refused 19 (bad_place W s work), unsound_place l m N S (bad_place W s work) (bad_first W s work h))
      ]

      by_pending : length work ≡ s.n → k ≡ s.ensemble → sound_numbers W s ≡ true → (t : Bool) → sound_pending W s ≡ t → (v : Verdict) × StepWhen W s k b work v
      by_pending l m e false f = (Refused 18 0, unsound_set l m (numbers.0 e) (failed f (sound_set W s).1))
      by_pending l m e true f = by_place l m (numbers.0 e) ((sound_set W s).0 f) e f

      by_numbers : length work ≡ s.n → k ≡ s.ensemble → (t : Bool) → sound_numbers W s ≡ t → (v : Verdict) × StepWhen W s k b work v
      by_numbers l m false e = (Refused 8 0, unsound_numbers l m (failed e numbers.1))
      by_numbers l m true e = by_pending l m e (sound_pending W s) refl

  pub step_when : (v : Verdict) → (gated W s k b work ≡ v) ↔ StepWhen W s k b work v
  step_when = exactly (gated W s k b work) (StepWhen W s k b work) (λ v. row) some_row

  -- the state's own refusals lie between 8 and 19, and of the others in this table none does
  between : {l : ℕ} → OfState l → (8 ≤ l) × (l ≤ 19)
  between (inl e) = (omega arith, omega arith)
  between (inr (inl e)) = (omega arith, omega arith)
  between (inr (inr e)) = (omega arith, omega arith)

  -- of an area of n numbers and a step that names the state's ensemble: the state is sound exactly where none of its own refusals is given
  of_state : {l i : ℕ} → StepWhen W s k b work (Refused l i) → OfState l → SoundState W s work → ⊥
  of_state (wrong_length n) o S = omega (arith, (between o).0, (between o).1)
  of_state (other_ensemble l n) o S = omega (arith, (between o).0, (between o).1)
  of_state (unsound_numbers l m n) o S = n S.numbers
  of_state (unsound_set l m N n) o S = n S.set
  of_state (unsound_place l m N P i F) o S = F.bad (each_at (SoundPlace W s) work i nan S.work F.inside)
  of_state (no_block l m P h) o S = omega (arith, (between o).0, (between o).1)
  of_state (taken_before_lem l m P h p) o S = omega (arith, (between o).0, (between o).1)

  none_given : {v : Verdict} → StepWhen W s k b work v → length work ≡ s.n → k ≡ s.ensemble → ((l i : ℕ) → OfState l → v ≡ Refused l i → ⊥)
      → SoundState W s work
  none_given (wrong_length n) l m none = absurd (n l)
  none_given (other_ensemble l n) l₀ m none = absurd (n m)
  none_given (unsound_numbers l m n) l₀ m₀ none = absurd (none 8 0 (inl refl) refl)
  none_given (unsound_set l m N n) l₀ m₀ none = absurd (none 18 0 (inr (inl refl)) refl)
  none_given (unsound_place l m N P i F) l₀ m₀ none = absurd (none 19 i (inr (inr refl)) refl)
  none_given (no_block l m S h) l₀ m₀ none = S
  none_given (taken_before_lem l m S h p) l₀ m₀ none = S
  none_given (accepted l m S h p) l₀ m₀ none = S

  pub sound_when : length work ≡ s.n → k ≡ s.ensemble → SoundState W s work ↔ ((l i : ℕ) → OfState l → gated W s k b work ≡ Refused l i → ⊥)
  sound_when h m = (
    λ S l i o e. of_state ((step_when (Refused l i)).0 e) o S,
    λ none. none_given some_row.1 h m (λ l i o e. none l i o (row some_row.1 ∙ e)),
  )

-- ---- rounding a register
module _ (ws : List ℕ) where
  round_row : {r : Nearest} → RoundWhen ws r → rounded ws ≡ r
  round_row (wrong_words n) = rounded_length ws n
  round_row (beyond l h) = rounded_beyond ws l h
  round_row (nearest l h) = rounded_sum ws l h

  some_round : (r : Nearest) × RoundWhen ws r
  some_round = elim (ℕ_discrete (length ws) word_count) [
    | no n ↦ (_, wrong_words n)
    | yes l ↦ elim (le_or_lt (limit binary64) (nat_abs (whole_of ws))) [
      | inl h ↦ (_, beyond l h)
      | inr h ↦ (_, nearest l h)
    ]
  ]

  pub round_when : (r : Nearest) → (rounded ws ≡ r) ↔ RoundWhen ws r
  round_when = exactly (rounded ws) (RoundWhen ws) (λ r. round_row) some_round
