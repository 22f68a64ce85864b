-- Both calls on pairs give each answer exactly when its row says (rule O6), and so it is heard, with a place for 2 and 23; a refusal leaves the area as it was;
-- and two results that meet a contract are equal. Assumes nothing.
use Rattle.std.specs.Prelude.{◌≡◌, ◌↔◌, true, ℕ}
use Rattle.std.proofs.Math.Path.{refl}
use Rattle.std.proofs.Common.{sym, ap, ◌∙◌}
use mathlib.Core.List.{List, zip}
use Rattle.lists.proofs.Apart.{apart}
use Rattle.kinds.specs.Heard.{Place, refused, Row, nearest_heard}
use Rattle.kinds.proofs.HeardLaws.{verdict_heard_lem}
use Rattle.kinds.proofs.Hearing.{hears, nearest_is}
use Rattle.kinds.specs.Outcome.{outcome}
use Rattle.kinds.proofs.OutcomeLaws.{same, determined}
use Rattle.kinds.specs.Verdict.{Verdict}
use Rattle.kinds.specs.Verdict as verdicts
use Rattle.kinds.specs.Nearest.{Nearest}
use Rattle.kinds.specs.Nearest as nearests
use Rattle.pairs.specs.Limits.{Pairing}
use Rattle.pairs.specs.Pairs.{nearest_product, products_of, weighted_sum, pairs_judged, two_each}
use Rattle.pairs.specs.Pairs.{multiplied_after, multiplied_of, weighted_after, weighted_of, paired_heard}
use Rattle.pairs.specs.Table.{PairsWhen, verdict_of}
use Rattle.pairs.proofs.JudgedLaws.{pairs_when, pairs_refusal}
use Rattle.pairs.specs.Paired.{Paired}
use Rattle.pairs.specs.Paired.{Multiplied, Refused}

-- ---- which answer a verdict gives, and which verdict an answer comes from
abbrev answer_for : Verdict → Paired
answer_for verdicts.Good = Multiplied
answer_for (verdicts.Refused k i) = Refused k i

abbrev nearest_verdict : Nearest → Verdict
nearest_verdict (nearests.Sum x) = verdicts.Good
nearest_verdict (nearests.Refused k i) = verdicts.Refused k i

-- two answers of which the same is heard are the same
pub answer_heard : (a b : Paired) → paired_heard a ≡ paired_heard b → a ≡ b
answer_heard Multiplied Multiplied e = refl
answer_heard Multiplied (Refused l q) e = apart (cc)
answer_heard (Refused k p) Multiplied e = apart (cc)
answer_heard (Refused k p) (Refused l q) e = ap answer_for (verdict_heard_lem (verdicts.Refused k p) (verdicts.Refused l q) e)

pub paired_is : (r : Paired) (k : ℕ) (p : Place) → paired_heard r ≡ refused k p → (i : ℕ) × (r ≡ Refused k i)
paired_is Multiplied k p e = apart (cc)
paired_is (Refused l j) k p e = (j, cc)

-- ---- the products
module _ (P : Pairing) (ps qs area : List ℕ) where
  abbrev verdict : Verdict
  verdict = pairs_judged P (two_each ps area) ps qs

  answered : (v : Verdict) → (multiplied_after P v ps qs area).answer ≡ answer_for v
  unfolding multiplied_after
  answered verdicts.Good = refl
  answered (verdicts.Refused k i) = refl

  pub multiplied_when : (r : Paired) → ((multiplied_of P ps qs area).answer ≡ r) ↔ PairsWhen P (two_each ps area) ps qs (verdict_of r)
  multiplied_when r = (
    λ e. (pairs_when P (two_each ps area) ps qs (verdict_of r)).0 (forth verdict r (sym (answered verdict) ∙ e)),
    λ W. answered verdict ∙ ap answer_for ((pairs_when P (two_each ps area) ps qs (verdict_of r)).1 W) ∙ back r,
  )
    where
      forth : (v : Verdict) (r : Paired) → answer_for v ≡ r → v ≡ verdict_of r
      forth verdicts.Good r e = ap verdict_of e
      forth (verdicts.Refused k i) r e = ap verdict_of e

      back : (r : Paired) → answer_for (verdict_of r) ≡ r
      back Multiplied = refl
      back (Refused k i) = refl

  pub good_multiplies : pairs_judged P (two_each ps area) ps qs ≡ verdicts.Good
      → multiplied_of P ps qs area ≡ outcome Multiplied (products_of P.width.format (zip ps qs))
  unfolding multiplied_after
  good_multiplies e = rw e

  pub refused_multiplies : {k i : ℕ} → pairs_judged P (two_each ps area) ps qs ≡ verdicts.Refused k i → multiplied_of P ps qs area ≡ outcome (Refused k i) area
  unfolding multiplied_after
  refused_multiplies e = rw e

  -- rule A1
  left : (v : Verdict) {k i : ℕ} → (multiplied_after P v ps qs area).answer ≡ Refused k i → (multiplied_after P v ps qs area).area ≡ area
  unfolding multiplied_after
  left verdicts.Good e = apart (cc)
  left (verdicts.Refused k i) e = refl

  pub multiplied_leaves : {k i : ℕ} → (multiplied_of P ps qs area).answer ≡ Refused k i → (multiplied_of P ps qs area).area ≡ area
  multiplied_leaves = left verdict

  pub multiplied_determined : {r q : Paired} {xs ys : List ℕ}
      → outcome r xs ≡ multiplied_of P ps qs area → outcome q ys ≡ multiplied_of P ps qs area → (r ≡ q) × (xs ≡ ys)
  multiplied_determined = determined (multiplied_of P ps qs area)

  pub multiplied_heard : (k : ℕ) (p : Place)
      → (paired_heard (multiplied_of P ps qs area).answer ≡ refused k p) ↔ Row (λ k i. PairsWhen P (two_each ps area) ps qs (verdicts.Refused k i)) k p
  multiplied_heard = hears paired_heard Refused (λ k i. refl) (multiplied_of P ps qs area).answer (paired_is (multiplied_of P ps qs area).answer)
      (λ k i. PairsWhen P (two_each ps area) ps qs (verdicts.Refused k i)) (λ k i. multiplied_when (Refused k i)) (λ k i h. (pairs_refusal h).as_told)

-- ---- the nearest weighted sum
module _ (P : Pairing) (ps qs : List ℕ) where
  weighed : (v : Verdict) → nearest_verdict (weighted_after P v ps qs) ≡ v
  unfolding weighted_after
  weighed verdicts.Good = refl
  weighed (verdicts.Refused k i) = refl

  pub good_weighs : pairs_judged P true ps qs ≡ verdicts.Good
      → weighted_of P ps qs ≡ nearests.Sum (nearest_product P.width.format (weighted_sum P.width.format (zip ps qs)))
  unfolding weighted_after
  good_weighs e = rw e

  pub refused_weighs : (k i : ℕ) → pairs_judged P true ps qs ≡ verdicts.Refused k i → weighted_of P ps qs ≡ nearests.Refused k i
  unfolding weighted_after
  refused_weighs k i e = rw e

  pub weighted_when : (k i : ℕ) → (weighted_of P ps qs ≡ nearests.Refused k i) ↔ PairsWhen P true ps qs (verdicts.Refused k i)
  weighted_when k i = (
    λ e. (pairs_when P true ps qs (verdicts.Refused k i)).0 (sym (weighed (pairs_judged P true ps qs)) ∙ ap nearest_verdict e),
    λ W. refused_weighs k i ((pairs_when P true ps qs (verdicts.Refused k i)).1 W),
  )

  pub weighted_determined : {r q : Nearest} → r ≡ weighted_of P ps qs → q ≡ weighted_of P ps qs → r ≡ q
  weighted_determined = same

  pub weighted_heard : (k : ℕ) (p : Place)
      → (nearest_heard P.width (weighted_of P ps qs) ≡ refused k p) ↔ Row (λ k i. PairsWhen P true ps qs (verdicts.Refused k i)) k p
  weighted_heard = hears (nearest_heard P.width) nearests.Refused (λ k i. refl) (weighted_of P ps qs) (nearest_is P.width (weighted_of P ps qs))
      (λ k i. PairsWhen P true ps qs (verdicts.Refused k i)) weighted_when (λ k i h. (pairs_refusal h).as_told)
