-- The nearest weighted sum as a C call, case by case: another length of the array of the value, and what the library's own call answers otherwise; when each
-- code for another length is given; and that each refusal is one of the table. Assumes nothing.
use Rattle.std.specs.Prelude.{◌≡◌, refl, ◌↔◌, List, ℕ, ◌≤◌, ltb, length}
use Rattle.std.proofs.Common.{inl, inr, arith, lt-ltb, le-ltb, eq-eqb, ne_eqb, lit≤}
use Rattle.std.proofs.Math.Bool.{or-true}
use Rattle.std.proofs.Math.Decide.{ℕ_discrete}
use Rattle.units.proofs.Powers.{le_or_lt}
use Rattle.kinds.specs.Limits.{doubles}
use Rattle.kinds.specs.Outcome.{outcome}
use Rattle.kinds.specs.Heard.{Refusal, nearest_heard}
use Rattle.kinds.proofs.Hearing.{exactly}
use Rattle.arrays.specs.Arrays.{code_of, values_of}
use Rattle.arrays.proofs.ArraysLaws.{nearest_by}
use Rattle.arrays.specs.Inner.{NearestRefusal}
use Rattle.pairs.specs.Limits.{double_pairs}
use Rattle.pairs.specs.Pairs.{weighted_of, multiplied_of}
use Rattle.pairs.proofs.JudgedLaws.{pairs_refusal}
use Rattle.pairs.proofs.TableLaws.{weighted_when, multiplied_when}
use Rattle.pairs.specs.Paired.{Refused}
use Rattle.pair_calls.specs.PairArrays.{other_length, OtherWhen, too_many, unlike, otherwise, weighted_arrays}

module _ (ps qs out : List ℕ) where
  pub weighted_other : (length out ≡ 1 → ⊥) → weighted_arrays ps qs out ≡ outcome (other_length ps qs) out
  unfolding weighted_arrays
  weighted_other h = rw (ne_eqb (length out) 1 h)

  pub weighted_called : length out ≡ 1
      → let h = nearest_heard doubles (weighted_of double_pairs ps qs) in
      weighted_arrays ps qs out ≡ outcome (code_of h) (values_of h out)
  unfolding weighted_arrays
  weighted_called h = rw (eq-eqb (length out) 1 h)

-- ---- when each code for another length is given
module _ (ps qs : List ℕ) where
  row : {c : ℕ} → OtherWhen ps qs c → other_length ps qs ≡ c
  row (too_many (inl h)) = rw (lt-ltb double_pairs.length (length ps) h)
  row (too_many (inr h)) = rw (lt-ltb double_pairs.length (length qs) h, or-true (ltb double_pairs.length (length ps)))
  row (unlike h g n) = rw (le-ltb double_pairs.length (length ps) h, le-ltb double_pairs.length (length qs) g, ne_eqb (length ps) (length qs) n)
  row (otherwise h e) =
      let g : length qs ≤ double_pairs.length = omega arith in
      rw (le-ltb double_pairs.length (length ps) h, le-ltb double_pairs.length (length qs) g, eq-eqb (length ps) (length qs) e)

  some_row : (c : ℕ) × OtherWhen ps qs c
  some_row = elim (le_or_lt (length ps) double_pairs.length) [
    | inr h ↦ (_, too_many (inl h))
    | inl h ↦ elim (le_or_lt (length qs) double_pairs.length) [
      | inr g ↦ (_, too_many (inr g))
      | inl g ↦ elim (ℕ_discrete (length ps) (length qs)) [ no n ↦ (_, unlike h g n) | yes e ↦ (_, otherwise h e) ]
    ]
  ]

  pub other_when : (c : ℕ) → (other_length ps qs ≡ c) ↔ OtherWhen ps qs c
  other_when = exactly (other_length ps qs) (OtherWhen ps qs) (λ c. row) some_row

  pub other_nonzero : other_length ps qs ≡ 0 → ⊥
  other_nonzero z = by ((other_when 0).0 z) refl
    where
      by : {c : ℕ} → OtherWhen ps qs c → c ≡ 0 → ⊥
      by (too_many h) e = omega arith
      by (unlike h g n) e = omega arith
      by (otherwise h q) e = omega arith

-- ---- what is refused is refused with a number of the table, at a place of a list
wider : {k i : ℕ} → Refusal double_pairs.length k i → Refusal doubles.length k i
wider R = record { number = R.number; place = omega (arith, R.place); as_told = R.as_told }

pub products_refusal : (ps qs out : List ℕ) (k i : ℕ) → (multiplied_of double_pairs ps qs out).answer ≡ Refused k i → Refusal doubles.length k i
products_refusal ps qs out k i e = wider (pairs_refusal ((multiplied_when double_pairs ps qs out (Refused k i)).0 e))

pub weighted_refusal : (ps qs : List ℕ) → NearestRefusal (weighted_of double_pairs ps qs)
weighted_refusal ps qs = nearest_by doubles (lit≤ tt) (weighted_of double_pairs ps qs)
    (λ k i e. wider (pairs_refusal ((weighted_when double_pairs ps qs k i).0 e)))
