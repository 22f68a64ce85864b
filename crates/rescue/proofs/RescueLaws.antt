-- What a rescue answers, case by case; each answer exactly when its row says (rule O6), and so it is heard, with no place; a refusal leaves both areas as they
-- were; and two results that meet the contract are equal. Assumes nothing.
use Rattle.std.specs.Prelude.{◌≡◌, refl, ◌↔◌, List, ℕ, ◌+◌, ◌*◌, ◌≤◌, length}
use Rattle.std.proofs.Common.{sym, ap, ◌∙◌, inl, inr, arith, lit<}
use Rattle.std.proofs.Math.Decide.{ℕ_discrete}
use Rattle.units.proofs.Powers.{le_or_lt}
use Rattle.lists.proofs.Apart.{apart}
use Rattle.lists.proofs.Filter.{filter_others}
use Rattle.kinds.specs.Heard.{Place, refused, Row, Refusal}
use Rattle.kinds.proofs.HeardLaws.{verdict_heard_lem}
use Rattle.kinds.proofs.Hearing.{exactly, at_place_0, hears}
use Rattle.kinds.specs.Limits.{Width}
use Rattle.kinds.proofs.OutcomeLaws.{same}
use Rattle.kinds.specs.Verdict.{Verdict}
use Rattle.kinds.specs.Verdict as verdicts
use Rattle.judge.specs.Judge.{fault_free}
use Rattle.octets.specs.Octets.{big}
use Rattle.octets.proofs.EightsLaws.{eights_length}
use Rattle.sheet.specs.Sheet.{version_of, count_of, patterns_of}
use Rattle.sheet.specs.Table.{Begun}
use Rattle.rescue.specs.Rescue.{taken_of, entries_of, kept_of, report_of, Rescuing, rescuing, rescued_of, rescued_heard}
use Rattle.rescue.specs.Rescue.{RescueWhen, no_header, other_version, too_many, no_room, saved}
use Rattle.rescue.specs.declared.Report.{Report}
use Rattle.rescue.specs.Rescued.{Rescued}
use Rattle.rescue.specs.Rescued.{Saved, Refused}
use Rattle.rescue.specs.RescueLaws.{answer_of}
use Rattle.rescue.proofs.RescueCases.{rescue_no_header, rescue_version, rescue_many, rescue_no_room, rescue_no_marks, rescue_saved}

-- ---- what is heard: two answers of which the same is heard are the same, and one of which a refusal is heard is that refusal
abbrev refusal_of : Report → Verdict → Rescued
refusal_of r verdicts.Good = Saved r
refusal_of r (verdicts.Refused k i) = Refused k i

pub answer_heard : (a b : Rescued) → rescued_heard a ≡ rescued_heard b → a ≡ b
answer_heard (Saved r) (Saved q) e =
    let w : r.written ≡ q.written = cc in
    let t : r.taken ≡ q.taken = cc in
    let m : r.missing ≡ q.missing = cc in
    let o : r.over ≡ q.over = cc in
    λ i. Saved (record { written = w i; taken = t i; missing = m i; over = o i })
answer_heard (Saved r) (Refused l q) e = apart (cc)
answer_heard (Refused k p) (Saved q) e = apart (cc)
answer_heard (Refused k p) (Refused l q) e =
    ap (refusal_of (record { written = 0; taken = 0; missing = 0; over = 0 })) (verdict_heard_lem (verdicts.Refused k p) (verdicts.Refused l q) e)

pub rescued_is : (a : Rescued) (k : ℕ) (p : Place) → rescued_heard a ≡ refused k p → (i : ℕ) × (a ≡ Refused k i)
rescued_is (Saved r) k p e = apart (cc)
rescued_is (Refused l j) k p e = (j, cc)

-- not more than n of n entries are kept
pub kept_few : (W : Width) (n : ℕ) (bs : List ℕ) → length (kept_of W (patterns_of n bs)) ≤ n
kept_few W n bs = omega (arith, filter_others (fault_free W) (patterns_of n bs), eights_length big n bs)

module _ (W : Width) (bytes sheet marks : List ℕ) where
  abbrev size : ℕ
  size = 5 + 8 * length (kept_of W (entries_of bytes))

  -- ---- exactly when
  row : {r : Rescued} → RescueWhen W bytes sheet marks r → (rescued_of W bytes sheet marks).answer ≡ r
  row (no_header h) = ap answer_of (rescue_no_header W bytes sheet marks h)
  row (other_version h v) = ap answer_of (rescue_version W bytes sheet marks h v)
  row (too_many B m) = ap answer_of (rescue_many W bytes sheet marks B m)
  row (no_room B f (inl s)) = ap answer_of (rescue_no_room W bytes sheet marks B f s)
  row (no_room B f (inr m)) = ap answer_of (rescue_no_marks W bytes sheet marks B f m)
  row (saved B f s m) = ap answer_of (rescue_saved W bytes sheet marks B f s m)

  by_room : Begun bytes → count_of bytes ≤ W.length → (r : Rescued) × RescueWhen W bytes sheet marks r
  by_room B f = elim (le_or_lt size (length sheet)) [
    | inr s ↦ (Refused 4 0, no_room B f (inl s))
    | inl s ↦ elim (le_or_lt (taken_of bytes) (length marks)) [
      | inr m ↦ (Refused 4 0, no_room B f (inr m))
      | inl m ↦ (Saved (report_of W bytes), saved B f s m)
    ]
  ]

  some_row : (r : Rescued) × RescueWhen W bytes sheet marks r
  some_row = elim (le_or_lt 5 (length bytes)) [
    | inr h ↦ (Refused 11 0, no_header h)
    | inl h ↦ elim (ℕ_discrete (version_of bytes) 1) [
      | no v ↦ (Refused 12 0, other_version h v)
      | yes v ↦ elim (le_or_lt (count_of bytes) W.length) [
        | inr m ↦ (Refused 1 0, too_many (record { header = h; version = v }) m)
        | inl f ↦ by_room (record { header = h; version = v }) f
      ]
    ]
  ]

  pub rescue_when : (r : Rescued) → ((rescued_of W bytes sheet marks).answer ≡ r) ↔ RescueWhen W bytes sheet marks r
  rescue_when = exactly (rescued_of W bytes sheet marks).answer (RescueWhen W bytes sheet marks) (λ r. row) some_row

  -- rule A1
  left : {r : Rescued} {k i : ℕ} → RescueWhen W bytes sheet marks r → r ≡ Refused k i → rescued_of W bytes sheet marks ≡ rescuing r sheet marks
  left (no_header h) e = rescue_no_header W bytes sheet marks h
  left (other_version h v) e = rescue_version W bytes sheet marks h v
  left (too_many B m) e = rescue_many W bytes sheet marks B m
  left (no_room B f (inl s)) e = rescue_no_room W bytes sheet marks B f s
  left (no_room B f (inr m)) e = rescue_no_marks W bytes sheet marks B f m
  left (saved B f s m) e = apart (cc)

  pub rescue_leaves : {k i : ℕ} → (rescued_of W bytes sheet marks).answer ≡ Refused k i → rescued_of W bytes sheet marks ≡ rescuing (Refused k i) sheet marks
  rescue_leaves e =
      let r : some_row.0 ≡ Refused _ _ = sym (row some_row.1) ∙ e in
      left some_row.1 r ∙ ap (λ (x : Rescued). rescuing x sheet marks) r

  pub rescue_determined : {r q : Rescued} {xs ys us vs : List ℕ} → rescuing r xs us ≡ rescued_of W bytes sheet marks
      → rescuing q ys vs ≡ rescued_of W bytes sheet marks → (r ≡ q) × (xs ≡ ys) × (us ≡ vs)
  rescue_determined p q =
      (ap answer_of (same p q), ap (λ (x : Rescuing). x.sheet) (same p q), ap (λ (x : Rescuing). x.marks) (same p q))

  -- a refusal's number is of the table, and none tells a place
  pub rescue_refusal : {k i : ℕ} → RescueWhen W bytes sheet marks (Refused k i) → Refusal W.length k i
  rescue_refusal (no_header h) = at_place_0 (lit< tt)
  rescue_refusal (other_version h v) = at_place_0 (lit< tt)
  rescue_refusal (too_many B m) = at_place_0 (lit< tt)
  rescue_refusal (no_room B f s) = at_place_0 (lit< tt)

  pub rescue_heard : (k : ℕ) (p : Place)
      → (rescued_heard (rescued_of W bytes sheet marks).answer ≡ refused k p) ↔ Row (λ k i. RescueWhen W bytes sheet marks (Refused k i)) k p
  rescue_heard = hears rescued_heard Refused (λ k i. refl) (rescued_of W bytes sheet marks).answer (rescued_is (rescued_of W bytes sheet marks).answer)
      (λ k i. RescueWhen W bytes sheet marks (Refused k i)) (λ k i. rescue_when (Refused k i)) (λ k i h. (rescue_refusal h).as_told)

  -- ---- a rescue that saved something was given this
  pub given : {r : Report} → RescueWhen W bytes sheet marks (Saved r)
      → Begun bytes × (count_of bytes ≤ W.length) × (5 + 8 * length (kept_of W (entries_of bytes)) ≤ length sheet) × (taken_of bytes ≤ length marks)
  given (saved B f s m) = (B, f, s, m)
