-- The scope's promises about the C sums, said of the definitions that their contracts cite: what an accepted sum is, which zero it is, with which code a bad
-- number is told, and that 0 is returned exactly when the lengths are right and every number is allowed. Assumes nothing.
use Rattle.std.specs.Prelude.{◌≡◌, refl, ◌⊎◌, ◌↔◌, true, List, [], ◌∷◌, ℕ, ◌+◌, ◌*◌, ◌/◌, ◌%◌, ◌≤◌, eqb, pos, length, get_or}
use Rattle.std.proofs.Common.{sym, ap, ◌∙◌, inl, inr, arith, eq-eqb}
use Rattle.std.proofs.Math.Decide.{ℕ_discrete}
use Rattle.std.proofs.lemmas.List.{length-replicate}
use Rattle.ieee.proofs.Zeros.{minus_bits}
use Rattle.kinds.specs.Limits.{doubles}
use Rattle.kinds.specs.Outcome.{outcome}
use Rattle.kinds.specs.Heard.{Refusal, Heard, refused, done, tells, place_of, step_heard, nearest_heard}
use Rattle.kinds.specs.Verdict.{Verdict}
use Rattle.kinds.specs.Verdict as verdicts
use Rattle.judge.specs.Judge.{judged, zero_sign}
use Rattle.judge.proofs.JudgeLaws.{list_when, list_allowed}
use Rattle.judge.specs.Table.{Allowed, First, ListWhen, MinusZeros, ZeroWhen, too_many, wrong_area, wrong_parts, bad_number, allowed}
use Rattle.judge.specs.FaultLaws.{fault_number}
use Rattle.octets.specs.Octets.{little, packed}
use Rattle.octets.proofs.EightsLaws.{eights_length}
use Rattle.sums.specs.Sums.{sum_of}
use Rattle.sums.proofs.SumLaws.{sums_doubles, sum_below_limit}
use Rattle.sums.proofs.PartsMeaning.{nearest_sign}
use Rattle.sums.proofs.Promised.{nearest_promised}
use Rattle.sums.proofs.ZeroSums as zeros
use Rattle.sums.proofs.AnswerNumbers.{nearest_refusal}
use Rattle.walk.specs.Walk.{Walked}
use Rattle.runs.specs.Instances.{Accepted}
use Rattle.runs.proofs.Instances.{faithful_64, minus_64, zero_64}
use Rattle.rounds.specs.Instances.{doubles_fit}
use Rattle.runs.proofs.AnswerNumbers.{faithful_refusal}
use Rattle.demands.proofs.Refusals.{nearest_refused, faithful_refused}
use Rattle.calls.specs.Calls.{Called, place_code, answered, length_fault, patterns_in, sum_call, own, faithful_heard, sum_heard, faithful_call, nearest_call}
use Rattle.calls.specs.Calls.{list_bytes, sum_bytes}
use Rattle.calls.proofs.CallsLaws.{fault_0, fitting, sixteen, sum_refused, sum_summed, answered_refused, answered_done, answered_nearest, code_told}
use Rattle.byte_calls.specs.SumBytes.{FaithfulBytes, NearestBytes, RightBytes}

-- the work area has the right length
fits : (ps : List ℕ) → eqb (length (own (length ps))) (length ps) ≡ true
fits ps = eq-eqb (length (own (length ps))) (length ps) (length-replicate (length ps) _)

faithful_hears : (ps : List ℕ) (k i : ℕ) → ListWhen doubles true true ps (verdicts.Refused k i) → faithful_heard ps ≡ refused k (place_of k i)
faithful_hears ps k i G = ap (step_heard doubles) ((faithful_refused ps (own (length ps)) k i).1 (rw (fits ps) G))

nearest_hears : (ps : List ℕ) (k i : ℕ) → ListWhen doubles true true ps (verdicts.Refused k i) → sum_heard ps ≡ refused k (place_of k i)
nearest_hears ps k i G = ap (nearest_heard doubles) ((nearest_refused ps k i).1 G)

-- ---- of bytes that are a list
module _ (list out : List ℕ) (l : length list ≤ list_bytes) (m : length list % 8 ≡ 0) (o : length out ≡ sum_bytes) where
  abbrev ps : List ℕ
  ps = patterns_in list

  few : length ps ≤ doubles.length
  few = rw (eights_length little (length list / 8) list) (omega (arith, l))

  is_summed : (heardOf : List ℕ → Heard) → sum_call heardOf list out ≡ answered (heardOf ps) out []
  is_summed heardOf = sum_summed heardOf list out (fault_0 (length list) (length out) l m o)

  pub faithful_call_lem : Allowed doubles ps → FaithfulBytes list (faithful_call list out)
  faithful_call_lem A =
      let F = faithful_64 ps (own (length ps)) (allowed (record { few = few; right_area = rw (fits ps) tt; right_parts = tt }) A) in
      record {
        sum = F.sum;
        rounds = F.rounds;
        is = is_summed faithful_heard ∙ ap (λ h. answered h out []) (ap (step_heard doubles) F.answer) ∙ answered_done out [] _ F.rounds;
        faithful = F.faithful;
        most = F.most;
        zero = F.zero;
      }

  pub nearest_call_lem : Allowed doubles ps → NearestBytes list (nearest_call list out)
  nearest_call_lem A =
      let P = nearest_promised sums_doubles ps (allowed (record { few = few; right_area = tt; right_parts = tt }) A) in
      record {
        sum = _;
        is = is_summed sum_heard ∙ ap (λ h. answered h out []) P.0 ∙ answered_nearest out [] _;
        nearest = P.1;
        zero = nearest_sign doubles.format (zero_sign doubles ps) (sum_of doubles.format ps) (sum_below_limit sums_doubles few A);
      }

  -- rule S3 in bytes
  module _ (A : Allowed doubles ps) where
    walked : Accepted doubles ps (own (length ps))
    walked = allowed (record { few = few; right_area = rw (fits ps) tt; right_parts = tt }) A

    pub faithful_minus : MinusZeros doubles ps → faithful_call list out ≡ outcome 0 (packed (0x8000000000000000 ∷ 0 ∷ []))
    faithful_minus M =
        is_summed faithful_heard
        ∙ ap (λ h. answered h out [])
        (ap (λ (w : Walked). step_heard doubles w.answer) (minus_64 ps (own (length ps)) walked M) ∙ ap (λ (b : ℕ). done b 0) (minus_bits doubles.format))
        ∙ answered_done out [] _ 0

    module _ (s : sum_of doubles.format ps ≡ pos 0) {p : ℕ} (Z : ZeroWhen doubles ps p) where
      pub faithful_zero : (r : ℕ) × (faithful_call list out ≡ outcome 0 (packed (p ∷ r ∷ [])))
      faithful_zero =
          let z = zero_64 ps (own (length ps)) walked s in
          (z.0, is_summed faithful_heard ∙ ap (λ h. answered h out []) ((z.1 p).1 Z) ∙ answered_done out [] p z.0)

      pub nearest_zero : nearest_call list out ≡ outcome 0 (packed (p ∷ 0 ∷ []))
      nearest_zero =
          is_summed sum_heard
          ∙ ap (λ h. answered h out []) ((zeros.nearest_zero sums_doubles ps s (allowed (record { few = few; right_area = tt; right_parts = tt }) A) p).1 Z)
          ∙ answered_nearest out [] p

  -- a bad number is told with its fault and its place
  module _ (k i : ℕ) (B : First doubles ps k i) where
    two_or_three : (k ≡ 2) ⊎ (k ≡ 3)
    two_or_three = rw B.fault at (fault_number doubles (get_or ps i 0) (λ z. B.bad (sym B.fault ∙ z)))

    tells_it : tells k ≡ true
    tells_it = by two_or_three
      where
        by : (k ≡ 2) ⊎ (k ≡ 3) → tells k ≡ true
        by (inl e) = rw e
        by (inr e) = rw e

    given : ListWhen doubles true true ps (verdicts.Refused k i)
    given = bad_number (record { few = few; right_area = tt; right_parts = tt }) k i B

    code : Refusal doubles.length k i → answered (refused k (place_of k i)) out [] ≡ outcome (k + 32 * (i + 1)) out
    code R = answered_refused out [] k i ∙ ap (λ (n : ℕ). outcome (k + n) out) (code_told R tells_it)

    pub faithful_code : faithful_call list out ≡ outcome (k + 32 * (i + 1)) out
    faithful_code =
        is_summed faithful_heard
        ∙ ap (λ h. answered h out []) (faithful_hears ps k i given)
        ∙ code (faithful_refusal doubles_fit ps (own (length ps)) k i ((faithful_refused ps (own (length ps)) k i).1 (rw (fits ps) given)))

    pub nearest_code : nearest_call list out ≡ outcome (k + 32 * (i + 1)) out
    nearest_code =
        is_summed sum_heard ∙ ap (λ h. answered h out []) (nearest_hears ps k i given)
        ∙ code (nearest_refusal doubles ps k i ((nearest_refused ps k i).1 given))

-- ---- exactly when 0 is returned

-- no refusal of a list has the number 0
some_number : (ps : List ℕ) (k i : ℕ) → ListWhen doubles true true ps (verdicts.Refused k i) → k ≡ 0 → ⊥
some_number ps k i (too_many h) z = omega arith
some_number ps k i (wrong_area h a) z = omega arith
some_number ps k i (wrong_parts h a b) z = omega arith
some_number ps k i (bad_number P l j F) z = F.bad z

module _ (heardOf : List ℕ → Heard)
    (hears : (ps : List ℕ) (k i : ℕ) → ListWhen doubles true true ps (verdicts.Refused k i) → heardOf ps ≡ refused k (place_of k i)) (list out : List ℕ) where
  right_bytes : length_fault (length list) (length out) ≡ 0 → (sum_call heardOf list out).answer ≡ 0 → RightBytes list out
  right_bytes f e =
      let F = fitting (length list) (length out) f in
      record {
        bytes = omega (arith, F.whole, F.few);
        whole = omega (arith, F.whole);
        sixteen = sixteen (length list) (length out) f;
        allowed = by (judged doubles true true (patterns_in list)) refl;
      }
    where
      by : (v : Verdict) → judged doubles true true (patterns_in list) ≡ v → Allowed doubles (patterns_in list)
      by verdicts.Good g = list_allowed ((list_when doubles true true (patterns_in list) verdicts.Good).0 g)
      by (verdicts.Refused k i) g =
          let G = (list_when doubles true true (patterns_in list) (verdicts.Refused k i)).0 g in
          let c : sum_call heardOf list out ≡ outcome (k + place_code (place_of k i)) out =
          sum_summed heardOf list out f ∙ ap (λ h. answered h out []) (hears (patterns_in list) k i G) ∙ answered_refused out [] k i in
          let z : k + place_code (place_of k i) ≡ 0 = ap (λ (x : Called). x.answer) (sym c) ∙ e in
          absurd (some_number (patterns_in list) k i G (omega (arith, z)))

  right_when : (sum_call heardOf list out).answer ≡ 0 → RightBytes list out
  right_when e = elim (ℕ_discrete (length_fault (length list) (length out)) 0) [
    | yes f ↦ right_bytes f e
    | no h ↦ absurd (h (ap (λ (x : Called). x.answer) (sym (sum_refused heardOf list out h)) ∙ e))
  ]

pub faithful_when : (list out : List ℕ) → ((faithful_call list out).answer ≡ 0) ↔ RightBytes list out
faithful_when list out = (
  right_when faithful_heard faithful_hears list out,
  λ A. ap (λ (x : Called). x.answer) (faithful_call_lem list out A.bytes A.whole A.sixteen A.allowed).is,
)

pub nearest_when : (list out : List ℕ) → ((nearest_call list out).answer ≡ 0) ↔ RightBytes list out
nearest_when list out = (
  right_when sum_heard nearest_hears list out,
  λ A. ap (λ (x : Called). x.answer) (nearest_call_lem list out A.bytes A.whole A.sixteen A.allowed).is,
)
