-- `pairs::faults::first_fault` meets its contract: the pairs passed have no fault, so the first that has one is the lowest. Assumes nothing.
use Rattle.std.specs.Prelude.{◌≡◌, refl, Bool, true, false, cond, ℕ, eqb}
use Rattle.std.proofs.Common.{sym, ◌∙◌, add-one, arith, eqb-true}
use Rattle.std.proofs.lemmas.Result.{err_from_is_err_and}
use Rattle.std.proofs.lemmas.Bool.{eqb-false}
use Rattle.lists.proofs.Apart.{apart}
use Rattle.kinds.specs.Verdict.{Good, Refused}
use Rattle.pairs.specs.Answers.{verdict_at}
use Rattle.pairs.specs.Limits.{double_pairs}
use Rattle.pairs.proofs.JudgedLaws.{pairs_none, pairs_more, pairs_fewer, pairs_good, pairs_refused}
use Rattle.pairs.proofs.faults.first_fault.Goals as goal

-- a pair at a place is good where it has no fault, and else refused with it
good : (k i : ℕ) → Good ≡ verdict_at k i → k ≡ 0
good k i e = go (eqb k 0) refl e
  where
    go : (b : Bool) → eqb k 0 ≡ b → Good ≡ cond b Good (Refused k i) → k ≡ 0
    go true s e = eqb-true k 0 s
    go false s e = apart (cc)

refused : (k i : ℕ) {l j : ℕ} → Refused l j ≡ verdict_at k i → (verdict_at k i ≡ Refused k i) × (k ≡ 0 → ⊥)
refused k i {l} {j} e = go (eqb k 0) refl e
  where
    go : (b : Bool) → eqb k 0 ≡ b → Refused l j ≡ cond b Good (Refused k i) → (cond b Good (Refused k i) ≡ Refused k i) × (k ≡ 0 → ⊥)
    go true s e = apart (cc)
    go false s e = (refl, eqb-false k 0 s)

pub loop-place-init : goal.loop-place-init
loop-place-init c = pairs_none

pub returns-in_err-judge_pair : goal.returns-in_err-judge_pair
returns-in_err-judge_pair c =
    let q = err_from_is_err_and c.from_residual.result c.from_residual.ensures.1 in
    let s = refused _ _ c.in_err-judge_pair.ensures in
    rw (q.1, q.2)
    (c.in_err-judge_pair.ensures ∙ s.0
    ∙ sym ((pairs_refused double_pairs c.args.a.now c.args.b.now c.requires.1 _ c.loop-place.place).1
    (record { inside = omega arith; fault = refl; bad = s.1; before = c.loop-place.invariant })))

pub loop-place-preserved : goal.loop-place-preserved
loop-place-preserved c = rw add-one (pairs_more c.loop-place.invariant (good _ _ c.in_ok-judge_pair.ensures))

pub returns : goal.returns
returns c = sym ((pairs_good double_pairs c.args.a.now c.args.b.now c.requires.1).1 (pairs_fewer c.loop-place.invariant (omega arith)))
