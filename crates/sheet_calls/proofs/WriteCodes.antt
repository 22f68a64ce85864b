-- Writing a sheet as a C call: another length of the array of values, and what the writer itself answers otherwise; exactly when each code is returned, and 0;
-- any two results that meet the contract are equal, the code and every array; and another code than 0 leaves every array as it was. Assumes nothing.
use Rattle.std.specs.Prelude.{◌≡◌, refl, List, ℕ, eqb, length}
use Rattle.std.proofs.Common.{ap, arith, eq-eqb, ne_eqb}
use Rattle.kinds.specs.Limits.{doubles}
use Rattle.kinds.specs.Heard.{Refusal}
use Rattle.sheet.specs.Written.{Refused}
use Rattle.sheet.specs.Write.{written_of, written_heard, WriteWhen, too_many, no_room}
use Rattle.sheet.proofs.WriteLaws.{write_when, write_heard, write_leaves, write_refusal, written_is}
use Rattle.arrays.specs.Arrays.{code_of, values_of, returned, too_many_or_4}
use Rattle.arrays.specs.Codes.{Coded, Left}
use Rattle.arrays.specs.CodesLaws.{code_in}
use Rattle.arrays.proofs.CodesLaws.{coded, list_nonzero, values_left, call_left, returned_determined}
use Rattle.sheet_calls.specs.SheetArrays.{write_arrays}

-- no refusal has the number 0
some : {ps area : List ℕ} {k i : ℕ} → WriteWhen doubles ps area (Refused k i) → k ≡ 0 → ⊥
some (too_many h) z = omega arith
some (no_room f s) z = omega arith

module _ (ps area out : List ℕ) where
  -- ---- case by case
  pub write_other : (length out ≡ 1 → ⊥) → write_arrays ps area out ≡ returned (too_many_or_4 ps) area out
  unfolding write_arrays
  write_other h = rw (ne_eqb (length out) 1 h)

  pub write_written : length out ≡ 1
      → let w = written_of doubles ps area in
      write_arrays ps area out ≡ returned (code_of (written_heard w.answer)) w.area (values_of (written_heard w.answer) out)
  unfolding write_arrays
  write_written h = rw (eq-eqb (length out) 1 h)

  -- ---- exactly when
  pub write_coded : Coded 1 (length out) (too_many_or_4 ps) (written_heard (written_of doubles ps area).answer) (write_arrays ps area out).code
  write_coded = coded 1 (length out) (too_many_or_4 ps) (written_heard (written_of doubles ps area).answer)
      (λ l. ap code_in (write_written l)) (λ l. ap code_in (write_other l)) (λ p e. some ((write_heard doubles ps area 0 p).0 e).1 refl)
      (list_nonzero doubles ps)

  -- ---- determined
  pub write_determined : {r q : ℕ} {xs ys us vs : List ℕ} → returned r xs us ≡ write_arrays ps area out → returned q ys vs ≡ write_arrays ps area out
      → (r ≡ q) × (xs ≡ ys) × (us ≡ vs)
  write_determined = returned_determined (write_arrays ps area out)

  -- ---- what a refusal leaves
  pub write_left : ((write_arrays ps area out).code ≡ 0 → ⊥) → Left (write_arrays ps area out) area out
  unfolding write_arrays
  write_left = call_left written_heard Refused written_is (written_of doubles ps area) area (λ k i. write_leaves doubles ps area)
      values_of out values_left (eqb (length out) 1) (too_many_or_4 ps)

-- ---- what is refused is refused with a number of the table
pub write_refused : (ps area : List ℕ) (k i : ℕ) → (written_of doubles ps area).answer ≡ Refused k i → Refusal doubles.length k i
write_refused ps area k i e = write_refusal doubles ps area ((write_when doubles ps area (Refused k i)).0 e)
