-- A refusal is its number and its place, and what a call gives is its answer: two that are read as the same are the same. Assumes nothing.
use Rattle.std.specs.Prelude.{◌≡◌, refl, ℕ, zero, suc, ◌<◌, ◌≤◌, Bool, cond, eqb, Float, ⊤, Result, Ok, Err}
use Rattle.std.proofs.Common.{ap, sym, ◌∙◌, arith}
use Rattle.lists.proofs.Apart.{apart}
use Rattle.kinds.specs.declared.refusal.Refusal.{Refusal}
use Rattle.kinds.specs.declared.refusal.Refusal.TheVariants as refusals
use Rattle.kinds.specs.declared.state.State as given_state
use Rattle.kinds.specs.declared.state.Step as given
use Rattle.kinds.specs.declared.state.Step.TheVariants as gives
use Rattle.kinds.specs.Refusals.{number, place}
use Rattle.kinds.specs.Step as steps
use Rattle.kinds.specs.Heard as heard
use Rattle.kinds.specs.Heard.{place_of, told}
use Rattle.kinds.specs.Answers.{itself, as_verdict, as_state, as_given, as_step, as_nearest, as_parted, as_entry, as_sheet}

-- the refusal with a number and a place; what stands for numbers that no refusal has doesn't matter
refusal_of : ℕ → ℕ → Refusal
refusal_of k i =
    cond (eqb k 1) refusals.TooMany
    (cond (eqb k 2) (refusals.NotFinite i)
    (cond (eqb k 3) (refusals.TooLarge i)
    (cond (eqb k 4) refusals.WrongLength
    (cond (eqb k 5) refusals.WrongParts
    (cond (eqb k 6) refusals.NoSuchBlock
    (cond (eqb k 7) refusals.BlockNotPending
    (cond (eqb k 8) refusals.UnsoundNumbers
    (cond (eqb k 9) refusals.RegisterFull
    (cond (eqb k 10) refusals.NoFiniteDouble
    (cond (eqb k 11) refusals.SheetTooShort
    (cond (eqb k 12) refusals.OtherVersion
    (cond (eqb k 13) refusals.SheetTooLong
    (cond (eqb k 14) (refusals.NotAWeight i)
    (cond (eqb k 15) refusals.WrongTotal
    (cond (eqb k 16) refusals.NoSuchClock
    (cond (eqb k 17) refusals.NoOtherWeight
    (cond (eqb k 18) refusals.UnsoundSet
    (cond (eqb k 19) (refusals.UnsoundWork i)
    (cond (eqb k 20) refusals.ClaimNotFinite
    (cond (eqb k 21) refusals.OtherEnsemble
    (cond (eqb k 22) refusals.LengthsDiffer
    (cond (eqb k 23) (refusals.FactorOutside i)
    (cond (eqb k 24) refusals.TooManyCalls
    (refusals.NoRoom))))))))))))))))))))))))

back : (r : Refusal) → refusal_of (number r) (place r) ≡ r
unfolding refusal_of
back refusals.TooMany = refl
back (refusals.NotFinite i) = refl
back (refusals.TooLarge i) = refl
back refusals.WrongLength = refl
back refusals.WrongParts = refl
back refusals.NoSuchBlock = refl
back refusals.BlockNotPending = refl
back refusals.UnsoundNumbers = refl
back refusals.RegisterFull = refl
back refusals.NoFiniteDouble = refl
back refusals.SheetTooShort = refl
back refusals.OtherVersion = refl
back refusals.SheetTooLong = refl
back (refusals.NotAWeight i) = refl
back refusals.WrongTotal = refl
back refusals.NoSuchClock = refl
back refusals.NoOtherWeight = refl
back refusals.UnsoundSet = refl
back (refusals.UnsoundWork i) = refl
back refusals.ClaimNotFinite = refl
back refusals.OtherEnsemble = refl
back refusals.LengthsDiffer = refl
back (refusals.FactorOutside i) = refl
back refusals.TooManyCalls = refl
back refusals.NoRoom = refl

pub refusal_same : (r q : Refusal) → number r ≡ number q → place r ≡ place q → r ≡ q
refusal_same r q e f = sym (back r) ∙ (λ i. refusal_of (e i) (f i)) ∙ back q

-- its number is one of the table, and its place is told as the table says (rule A5)
pub number_below : (r : Refusal) → number r < 32
number_below refusals.TooMany = omega arith
number_below (refusals.NotFinite i) = omega arith
number_below (refusals.TooLarge i) = omega arith
number_below refusals.WrongLength = omega arith
number_below refusals.WrongParts = omega arith
number_below refusals.NoSuchBlock = omega arith
number_below refusals.BlockNotPending = omega arith
number_below refusals.UnsoundNumbers = omega arith
number_below refusals.RegisterFull = omega arith
number_below refusals.NoFiniteDouble = omega arith
number_below refusals.SheetTooShort = omega arith
number_below refusals.OtherVersion = omega arith
number_below refusals.SheetTooLong = omega arith
number_below (refusals.NotAWeight i) = omega arith
number_below refusals.WrongTotal = omega arith
number_below refusals.NoSuchClock = omega arith
number_below refusals.NoOtherWeight = omega arith
number_below refusals.UnsoundSet = omega arith
number_below (refusals.UnsoundWork i) = omega arith
number_below refusals.ClaimNotFinite = omega arith
number_below refusals.OtherEnsemble = omega arith
number_below refusals.LengthsDiffer = omega arith
number_below (refusals.FactorOutside i) = omega arith
number_below refusals.TooManyCalls = omega arith
number_below refusals.NoRoom = omega arith

pub as_told : (r : Refusal) → place_of (number r) (place r) ≡ told (number r) (place r)
as_told refusals.TooMany = refl
as_told (refusals.NotFinite zero) = refl
as_told (refusals.NotFinite (suc i)) = refl
as_told (refusals.TooLarge zero) = refl
as_told (refusals.TooLarge (suc i)) = refl
as_told refusals.WrongLength = refl
as_told refusals.WrongParts = refl
as_told refusals.NoSuchBlock = refl
as_told refusals.BlockNotPending = refl
as_told refusals.UnsoundNumbers = refl
as_told refusals.RegisterFull = refl
as_told refusals.NoFiniteDouble = refl
as_told refusals.SheetTooShort = refl
as_told refusals.OtherVersion = refl
as_told refusals.SheetTooLong = refl
as_told (refusals.NotAWeight zero) = refl
as_told (refusals.NotAWeight (suc i)) = refl
as_told refusals.WrongTotal = refl
as_told refusals.NoSuchClock = refl
as_told refusals.NoOtherWeight = refl
as_told refusals.UnsoundSet = refl
as_told (refusals.UnsoundWork zero) = refl
as_told (refusals.UnsoundWork (suc i)) = refl
as_told refusals.ClaimNotFinite = refl
as_told refusals.OtherEnsemble = refl
as_told refusals.LengthsDiffer = refl
as_told (refusals.FactorOutside zero) = refl
as_told (refusals.FactorOutside (suc i)) = refl
as_told refusals.TooManyCalls = refl
as_told refusals.NoRoom = refl

pub refusal_heard : (places : ℕ) (r : Refusal) → place r ≤ places → heard.Refusal places (number r) (place r)
refusal_heard places r h = record { number = number_below r; place = h; as_told = as_told r }

pub verdict_same : (a b : Result ⊤ Refusal) → as_verdict a ≡ as_verdict b → a ≡ b
verdict_same (Ok x) (Ok y) e = refl
verdict_same (Ok x) (Err q) e = apart (cc)
verdict_same (Err r) (Ok y) e = apart (cc)
verdict_same (Err r) (Err q) e = ap Err (refusal_same r q (cc) (cc))

pub state_same : (s t : given_state.State Float) → as_state itself s ≡ as_state itself t → s ≡ t
state_same s t e =
    λ i. record {
      sigma = (e i).sigma;
      t = (e i).t;
      tau = (e i).tau;
      n = (e i).n;
      pending = (e i).pending;
      rounds = (e i).rounds;
      ensemble = (e i).ensemble;
      largest = (e i).largest;
    }

pub given_same : (a b : given.Step Float) → as_given itself a ≡ as_given itself b → a ≡ b
given_same (gives.More s x) (gives.More t y) e =
    let f : as_state itself s ≡ as_state itself t = cc in
    let g : x ≡ y = cc in
    λ i. gives.More (state_same s t f i) (g i)
given_same (gives.More s x) (gives.Done y n) e = apart (cc)
given_same (gives.Done x m) (gives.More t y) e = apart (cc)
given_same (gives.Done x m) (gives.Done y n) e = cc

not_given : {X : Type 0} (a : given.Step Float) (k i : ℕ) → as_given itself a ≡ steps.Refused k i → X
not_given (gives.More s x) k i e = apart (cc)
not_given (gives.Done x m) k i e = apart (cc)

pub step_same : (a b : Result (given.Step Float) Refusal) → as_step itself a ≡ as_step itself b → a ≡ b
step_same (Ok s) (Ok t) e = ap Ok (given_same s t e)
step_same (Ok s) (Err q) e = not_given s (number q) (place q) e
step_same (Err r) (Ok t) e = not_given t (number r) (place r) (sym e)
step_same (Err r) (Err q) e = ap Err (refusal_same r q (cc) (cc))

pub nearest_same : (a b : Result Float Refusal) → as_nearest itself a ≡ as_nearest itself b → a ≡ b
nearest_same (Ok x) (Ok y) e = cc
nearest_same (Ok x) (Err q) e = apart (cc)
nearest_same (Err r) (Ok y) e = apart (cc)
nearest_same (Err r) (Err q) e = ap Err (refusal_same r q (cc) (cc))

pub parted_same : (a b : Result Bool Refusal) → as_parted a ≡ as_parted b → a ≡ b
parted_same (Ok x) (Ok y) e = cc
parted_same (Ok x) (Err q) e = apart (cc)
parted_same (Err r) (Ok y) e = apart (cc)
parted_same (Err r) (Err q) e = ap Err (refusal_same r q (cc) (cc))

pub entry_same : (a b : Result ⊤ Refusal) → as_entry a ≡ as_entry b → a ≡ b
entry_same (Ok x) (Ok y) e = refl
entry_same (Ok x) (Err q) e = apart (cc)
entry_same (Err r) (Ok y) e = apart (cc)
entry_same (Err r) (Err q) e = ap Err (refusal_same r q (cc) (cc))

pub sheet_same : (a b : Result ℕ Refusal) → as_sheet a ≡ as_sheet b → a ≡ b
sheet_same (Ok m) (Ok n) e = cc
sheet_same (Ok m) (Err q) e = apart (cc)
sheet_same (Err r) (Ok n) e = apart (cc)
sheet_same (Err r) (Err q) e = ap Err (refusal_same r q (cc) (cc))
