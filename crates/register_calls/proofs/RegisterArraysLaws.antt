-- A register's words as C calls, case by case; and that each refusal of a rounding and of a merge is one of the table. Assumes nothing.
use Rattle.std.specs.Prelude.{◌≡◌, refl, List, ℕ, ◌≤◌, ⊤, Result, Ok, Err, IfErr, length}
use Rattle.std.proofs.Common.{arith, eq-eqb, ne_eqb, lit≤, lit<}
use Rattle.kinds.specs.Limits.{doubles}
use Rattle.kinds.specs.Outcome.{outcome}
use Rattle.kinds.specs.declared.refusal.Refusal as given
use Rattle.kinds.specs.Answers.{as_entry}
use Rattle.kinds.specs.Refusals.{place}
use Rattle.kinds.specs.Heard.{Refusal, nearest_heard, entry_heard}
use Rattle.kinds.proofs.Hearing.{at_place_0}
use Rattle.kinds.specs.Entry.{Entry}
use Rattle.kinds.specs.Nearest as nearests
use Rattle.register.specs.Register.{rounded}
use Rattle.register.specs.Merge.{merged, MergeWhen, merges, wrong_length, out_of_range}
use Rattle.register.proofs.MergeLaws.{merge_when}
use Rattle.demands.specs.Tables.{RoundWhen, wrong_words, beyond}
use Rattle.demands.proofs.Refusals.{round_refused}
use Rattle.calls.specs.Inner.{EntryRefusal, code}
use Rattle.arrays.specs.Arrays.{code_of, values_of}
use Rattle.arrays.proofs.ArraysLaws.{nearest_by}
use Rattle.arrays.specs.Inner.{NearestRefusal}
use Rattle.register_calls.specs.RegisterArrays.{round_arrays}

module _ (ws out : List ℕ) where
  pub round_other : (length out ≡ 1 → ⊥) → round_arrays ws out ≡ outcome 4 out
  unfolding round_arrays
  round_other h = rw (ne_eqb (length out) 1 h)

  pub round_rounded : length out ≡ 1
      → let h = nearest_heard doubles (rounded ws) in
      round_arrays ws out ≡ outcome (code_of h) (values_of h out)
  unfolding round_arrays
  round_rounded h = rw (eq-eqb (length out) 1 h)

round_row : {ws : List ℕ} {k i : ℕ} → RoundWhen ws (nearests.Refused k i) → Refusal doubles.length k i
round_row (wrong_words l) = record { number = omega arith; place = omega arith; as_told = refl }
round_row (beyond l h) = record { number = omega arith; place = omega arith; as_told = refl }

pub round_refusal : (ws : List ℕ) → NearestRefusal (rounded ws)
round_refusal ws = nearest_by doubles (lit≤ tt) (rounded ws) (λ k i e. round_row ((round_refused ws k i).0 e))

merge_row : {us vs out : List ℕ} {a : Entry} → MergeWhen us vs out a → EntryRefusal a
merge_row (merges T h) = tt
merge_row (wrong_length n) = at_place_0 (lit< tt)
merge_row (out_of_range T h) = at_place_0 (lit< tt)

pub merge_refusal : (us vs out : List ℕ) → EntryRefusal (merged us vs out).answer
merge_refusal us vs out = merge_row ((merge_when us vs out (merged us vs out).answer).0 refl)

-- ---- a result, as its answer: what it refuses is told within the table's places, and its code is that of what is heard
pub entry_told : (a : Result ⊤ given.Refusal) → EntryRefusal (as_entry a) → IfErr a (λ r. place r ≤ doubles.length)
entry_told (Ok x) h = tt
entry_told (Err r) h = h.place

pub entry_coded : (a : Result ⊤ given.Refusal) → code a ≡ code_of (entry_heard (as_entry a))
entry_coded (Ok x) = refl
entry_coded (Err r) = refl
