-- Rule F11: what a caller hears, for each case of each answer: a refusal's number and the place or that none is told, or the values. Definitions only.
use Rattle.std.specs.Prelude.{◌≡◌, Bool, cond, ◌||◌, ℕ, zero, suc, ◌≤◌, ◌<◌, eqb}
use Rattle.std.specs.Float.Ieee.{to_bits}
use Rattle.kinds.specs.Limits.{Width}
use Rattle.kinds.specs.Verdict.{Verdict}
use Rattle.kinds.specs.Verdict as verdicts
use Rattle.kinds.specs.Step.{Step}
use Rattle.kinds.specs.Step as steps
use Rattle.kinds.specs.Nearest.{Nearest}
use Rattle.kinds.specs.Nearest as nearests
use Rattle.kinds.specs.Parted.{Parted}
use Rattle.kinds.specs.Parted as parteds
use Rattle.kinds.specs.Entry.{Entry}
use Rattle.kinds.specs.Entry as entries
use Rattle.kinds.specs.Sheet.{Sheet}
use Rattle.kinds.specs.Sheet as sheets

pub data Place : Type 0 where
  nowhere : Place
  at : ℕ → Place

pub data Heard : Type 0 where
  refused : ℕ → Place → Heard
  -- the patterns of sigma, t and tau, then n, the pending set, the rounds closed and the ensemble, then the patterns of the largest remainder that the state
  -- keeps, and of the one that is told
  more : ℕ → ℕ → ℕ → ℕ → ℕ → ℕ → ℕ → ℕ → ℕ → Heard
  -- a pattern and the rounds; a pattern; whether the parts add up; a count
  done : ℕ → ℕ → Heard
  nearest : ℕ → Heard
  parts : Bool → Heard
  accepted : Heard
  count : ℕ → Heard
  -- of a rescue: the bytes written, the entries taken, the entries missing, the bytes lying over
  rescued : ℕ → ℕ → ℕ → ℕ → Heard

-- rule A5: 2, 3, 14, 19 and 23 tell a place
abbrev pub tells : ℕ → Bool
tells k = (((eqb k 2 || eqb k 3) || eqb k 14) || eqb k 19) || eqb k 23

-- a number that tells none is given with place 0; a place beside such a number would be heard, so that none can hide
abbrev pub place_of : ℕ → ℕ → Place
place_of k zero = cond (tells k) (at 0) nowhere
place_of k (suc p) = at (suc p)

-- the table's column "Tells": the place for 2, 3, 14, 19 and 23, and nothing more for any other number
abbrev pub told : ℕ → ℕ → Place
told k i = cond (tells k) (at i) nowhere

-- a row for the number k, heard with what it tells
abbrev pub Row : (ℕ → ℕ → Type 0) → ℕ → Place → Type 0
Row When k p = (i : ℕ) × When k i × (p ≡ told k i)

-- a refusal of the table: its number, its place among so many, and that the place is told as the table says
pub record Refusal (places k i : ℕ) : Type 0 where
  pub number : k < 32
  pub place : i ≤ places
  pub as_told : place_of k i ≡ told k i

abbrev pub verdict_heard : Verdict → Heard
verdict_heard verdicts.Good = accepted
verdict_heard (verdicts.Refused k p) = refused k (place_of k p)

-- a float is heard as its pattern
abbrev pub step_heard : Width → Step → Heard
step_heard W (steps.More s told) =
    more (to_bits W.format s.sigma) (to_bits W.format s.t) (to_bits W.format s.tau) s.n s.pending s.rounds s.ensemble
    (to_bits W.format s.largest) (to_bits W.format told)
step_heard W (steps.Done x r) = done (to_bits W.format x) r
step_heard W (steps.Refused k p) = refused k (place_of k p)

abbrev pub nearest_heard : Width → Nearest → Heard
nearest_heard W (nearests.Sum x) = nearest (to_bits W.format x)
nearest_heard W (nearests.Refused k p) = refused k (place_of k p)

abbrev pub parted_heard : Parted → Heard
parted_heard (parteds.Parts b) = parts b
parted_heard (parteds.Refused k p) = refused k (place_of k p)

abbrev pub entry_heard : Entry → Heard
entry_heard entries.Entered = accepted
entry_heard (entries.Refused k p) = refused k (place_of k p)

abbrev pub sheet_heard : Sheet → Heard
sheet_heard (sheets.Read n) = count n
sheet_heard (sheets.Refused k p) = refused k (place_of k p)
