-- Handing on gives each answer exactly when its row says (rule O6), and so it is heard, with a place for 2, 3 and 14; a refusal leaves the area as it was; and
-- two results that meet the contract are equal. Assumes nothing.
use Rattle.std.specs.Prelude.{◌≡◌, ◌⊎◌, ◌↔◌, true, not, List, map, ℕ, ◌≤◌, T, eqb, length}
use Rattle.std.proofs.Math.Path.{refl}
use Rattle.std.proofs.Common.{ap, ◌∙◌, inl, inr, eq-zero-or-pos, arith, eq-eqb, ne_eqb, lit<}
use Rattle.std.proofs.Math.Decide.{ℕ_discrete}
use Rattle.units.proofs.Powers.{le_or_lt}
use Rattle.lists.proofs.Apart.{apart}
use Rattle.kinds.specs.Limits.{Width}
use Rattle.kinds.specs.Heard.{Place, refused, Row, Refusal}
use Rattle.kinds.proofs.HeardLaws.{verdict_heard_lem}
use Rattle.kinds.proofs.Hearing.{exactly, placed, at_place_0, hears}
use Rattle.kinds.specs.Outcome.{outcome}
use Rattle.kinds.proofs.OutcomeLaws.{determined}
use Rattle.kinds.specs.Verdict.{Verdict}
use Rattle.kinds.specs.Verdict as verdicts
use Rattle.judge.specs.Judge.{first_fault, judged}
use Rattle.judge.specs.Table.{Allowed}
use Rattle.judge.proofs.FirstFaultLaws as faults
use Rattle.judge.proofs.JudgeCases.{judged_1, judged_4, judged_passed}
use Rattle.weights.specs.Weights.{grains, pattern_for, total, staying, handed, bad_weight}
use Rattle.weights.specs.Weights.{weights_of, weighed, and_then, verdict_of, handed_after, handed_of, handed_heard}
use Rattle.weights.specs.Table.{Weighed, Fitting, WeightList, Accepted, HandedWhen}
use Rattle.weights.specs.Table.{too_many, wrong_length, bad_number, bad_weight_lem, other_total, no_place, nobody, shared}
use Rattle.weights.specs.WeightLaws.{Fine}
use Rattle.weights.proofs.WeightLaws.{weighed_allowed}
use Rattle.weights.proofs.LoopLaws.{found, bad_at, bad_nowhere}
use Rattle.weights.proofs.HandedLaws.{weighed_14, weighed_15, weighed_16, weighed_17, weighed_good, other_positive, positive_other}
use Rattle.weights.specs.Handed.{Handed}
use Rattle.weights.specs.Handed.{Shared, Refused}

-- what is answered for a verdict, and heard
abbrev answer_for : Verdict → Handed
answer_for verdicts.Good = Shared
answer_for (verdicts.Refused k i) = Refused k i

-- two answers of which the same is heard are the same
pub answer_heard : (a b : Handed) → handed_heard a ≡ handed_heard b → a ≡ b
answer_heard Shared Shared e = refl
answer_heard Shared (Refused l q) e = apart (cc)
answer_heard (Refused k p) Shared e = apart (cc)
answer_heard (Refused k p) (Refused l q) e = ap answer_for (verdict_heard_lem (verdicts.Refused k p) (verdicts.Refused l q) e)

pub handed_is : (r : Handed) (k : ℕ) (p : Place) → handed_heard r ≡ refused k p → (i : ℕ) × (r ≡ Refused k i)
handed_is Shared k p e = apart (cc)
handed_is (Refused l j) k p e = (j, cc)

module _ (W : Width) (F : Fine W) (ps : List ℕ) (at : ℕ) (area : List ℕ) where
  answered : (v : Verdict) → (handed_after W v ps at area).answer ≡ answer_for v
  unfolding handed_after
  answered verdicts.Good = refl
  answered (verdicts.Refused k i) = refl

  -- ---- the verdict, row by row
  module _ (G : Fitting W ps area) where
    passed : judged W (eqb (length area) (length ps)) true ps ≡ first_fault W ps 0
    passed =
        let t : T (eqb (length area) (length ps)) = rw (eq-eqb (length area) (length ps) G.room) tt in
        judged_passed W (eqb (length area) (length ps)) true ps (record { few = G.few; right_area = t; right_parts = tt })

    allowed : Allowed W ps → verdict_of W ps at area ≡ weighed W ps at
    allowed A = ap (λ (v : Verdict). and_then v (weighed W ps at)) (passed ∙ (faults.first_good W ps).1 A)

  none_bad : Weighed W ps (length ps) → length ps ≤ bad_weight W ps
  none_bad N = omega (arith, bad_nowhere W ps N)

  verdict : {r : Handed} → HandedWhen W ps at area r → (v : Verdict) × (verdict_of W ps at area ≡ v) × (answer_for v ≡ r)
  verdict (too_many h) = (
    verdicts.Refused 1 0,
    ap (λ (v : Verdict). and_then v (weighed W ps at)) (judged_1 W (eqb (length area) (length ps)) true ps h),
    refl,
  )
  verdict (wrong_length h a) =
      let t : T (not (eqb (length area) (length ps))) = rw (ne_eqb (length area) (length ps) a) tt in
      (verdicts.Refused 4 0, ap (λ (v : Verdict). and_then v (weighed W ps at)) (judged_4 W (eqb (length area) (length ps)) true ps h t), refl)
  verdict (bad_number G k i B) =
      (verdicts.Refused k i, ap (λ (v : Verdict). and_then v (weighed W ps at)) (passed G ∙ (faults.first_refused W ps k i).1 B), refl)
  verdict (bad_weight_lem G A i h e N) =
      let b : bad_weight W ps ≡ i = bad_at W ps i h N e in
      (verdicts.Refused 14 i, allowed G A ∙ weighed_14 W ps at (omega arith) ∙ ap (verdicts.Refused 14) b, refl)
  verdict (other_total G N t) = (verdicts.Refused 15 0, allowed G (weighed_allowed W F ps N) ∙ weighed_15 W ps at (none_bad N) t, refl)
  verdict (no_place G L h) =
      (verdicts.Refused 16 0, allowed G (weighed_allowed W F ps L.weights) ∙ weighed_16 W ps at (none_bad L.weights) L.sum h, refl)
  verdict (nobody G L h o) =
      let z : total (staying at (weights_of W ps)) ≡ 0 =
      elim (eq-zero-or-pos (total (staying at (weights_of W ps)))) [ inl z ↦ z | inr p ↦ absurd (o (positive_other W ps at h p)) ] in
      (verdicts.Refused 17 0, allowed G (weighed_allowed W F ps L.weights) ∙ weighed_17 W ps at (none_bad L.weights) L.sum h z, refl)
  verdict (shared A) =
      let L = A.list in
      let p = other_positive W ps at A.other in (
        verdicts.Good,
        allowed A.fitting (weighed_allowed W F ps L.weights)
            ∙ weighed_good W ps at (none_bad L.weights) L.sum A.inside (λ z. omega (arith, p, z)),
        refl,
      )

  row : {r : Handed} → HandedWhen W ps at area r → (handed_of W ps at area).answer ≡ r
  row H = let v = verdict H in answered (verdict_of W ps at area) ∙ ap answer_for v.1 ∙ v.2

  -- ---- there is a row
  weighs : Fitting W ps area → Weighed W ps (length ps) → (r : Handed) × HandedWhen W ps at area r
  weighs G N = elim (ℕ_discrete (total (weights_of W ps)) grains) [
    | no t ↦ (_, other_total G N t)
    | yes t ↦
        let L : WeightList W ps = record { weights = N; sum = t } in
        elim (le_or_lt (length ps) at) [
          | inl h ↦ (_, no_place G L h)
          | inr h ↦ elim (eq-zero-or-pos (total (staying at (weights_of W ps)))) [
            | inl z ↦ (_, nobody G L h (λ O. let p = other_positive W ps at O in omega (arith, p, z)))
            | inr p ↦ (_, shared (record { fitting = G; list = L; inside = h; other = positive_other W ps at h p }))
          ]
        ]
  ]

  fitting : Fitting W ps area → (r : Handed) × HandedWhen W ps at area r
  fitting G = elim (faults.found W ps) [
    | inr B ↦ (_, bad_number G B.0 B.1 B.2)
    | inl A ↦ elim (found W ps) [
      | inr B ↦ (_, bad_weight_lem G A B.place B.inside B.none B.before)
      | inl N ↦ weighs G N
    ]
  ]

  some_row : (r : Handed) × HandedWhen W ps at area r
  some_row = elim (le_or_lt (length ps) W.length) [
    | inr h ↦ (_, too_many h)
    | inl h ↦ elim (ℕ_discrete (length area) (length ps)) [
      | no a ↦ (_, wrong_length h a)
      | yes a ↦ fitting (record { few = h; room = a })
    ]
  ]

  pub handed_when : (r : Handed) → ((handed_of W ps at area).answer ≡ r) ↔ HandedWhen W ps at area r
  handed_when = exactly (handed_of W ps at area).answer (HandedWhen W ps at area) (λ r. row) some_row

  -- ---- an accepted call
  given : HandedWhen W ps at area Shared → Accepted W ps at area
  given (shared A) = A

  pub verdict_good : verdict_of W ps at area ≡ verdicts.Good → Accepted W ps at area
  verdict_good e = given ((handed_when Shared).0 (answered (verdict_of W ps at area) ∙ ap answer_for e))

  pub good_hands : verdict_of W ps at area ≡ verdicts.Good → handed_of W ps at area ≡ outcome Shared (map (pattern_for W) (handed at (weights_of W ps)))
  unfolding handed_after
  good_hands e = rw e

  pub refused_leaves : {k i : ℕ} → verdict_of W ps at area ≡ verdicts.Refused k i → handed_of W ps at area ≡ outcome (Refused k i) area
  unfolding handed_after
  refused_leaves e = rw e

  pub accepted_hands : Accepted W ps at area → handed_of W ps at area ≡ outcome Shared (map (pattern_for W) (handed at (weights_of W ps)))
  accepted_hands A = good_hands (good_is (verdict (shared A)).0 (verdict (shared A)).1 (verdict (shared A)).2)
    where
      good_is : (v : Verdict) → verdict_of W ps at area ≡ v → answer_for v ≡ Shared → verdict_of W ps at area ≡ verdicts.Good
      good_is verdicts.Good e s = e
      good_is (verdicts.Refused k i) e s = apart (cc)

  -- rule A1
  left : (v : Verdict) {k i : ℕ} → (handed_after W v ps at area).answer ≡ Refused k i → (handed_after W v ps at area).area ≡ area
  unfolding handed_after
  left verdicts.Good e = apart (cc)
  left (verdicts.Refused k i) e = refl

  pub handed_leaves : {k i : ℕ} → (handed_of W ps at area).answer ≡ Refused k i → (handed_of W ps at area).area ≡ area
  handed_leaves = left (verdict_of W ps at area)

  pub handed_determined : {r q : Handed} {xs ys : List ℕ} → outcome r xs ≡ handed_of W ps at area → outcome q ys ≡ handed_of W ps at area → (r ≡ q) × (xs ≡ ys)
  handed_determined = determined (handed_of W ps at area)

  -- a refusal's number is of the table, its place is one of a list, and is told as the table says
  pub handed_refusal : {k i : ℕ} → HandedWhen W ps at area (Refused k i) → Refusal W.length k i
  handed_refusal (too_many h) = at_place_0 (lit< tt)
  handed_refusal (wrong_length h a) = at_place_0 (lit< tt)
  handed_refusal (bad_number G k i B) = go (faults.first_number W ps B)
    where
      go : (k ≡ 2) ⊎ (k ≡ 3) → Refusal W.length k i
      go (inl e) = record { number = rw e (lit< tt); place = omega (arith, G.few, B.inside); as_told = placed k i (inr (rw e tt)) }
      go (inr e) = record { number = rw e (lit< tt); place = omega (arith, G.few, B.inside); as_told = placed k i (inr (rw e tt)) }
  handed_refusal (bad_weight_lem G A i h e N) = record { number = lit< tt; place = omega (arith, G.few, h); as_told = placed 14 i (inr tt) }
  handed_refusal (other_total G N t) = at_place_0 (lit< tt)
  handed_refusal (no_place G L h) = at_place_0 (lit< tt)
  handed_refusal (nobody G L h o) = at_place_0 (lit< tt)

  pub handed_heard_lem : (k : ℕ) (p : Place)
      → (handed_heard (handed_of W ps at area).answer ≡ refused k p) ↔ Row (λ k i. HandedWhen W ps at area (Refused k i)) k p
  handed_heard_lem = hears handed_heard Refused (λ k i. refl) (handed_of W ps at area).answer (handed_is (handed_of W ps at area).answer)
      (λ k i. HandedWhen W ps at area (Refused k i)) (λ k i. handed_when (Refused k i)) (λ k i h. (handed_refusal h).as_told)
