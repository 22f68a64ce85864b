-- A rescue as a C call: another length of the report's array, and what the rescue itself answers otherwise; exactly when each code is returned, and 0; any two
-- results that meet the contract are equal, the code and every array; and another code than 0 leaves every array as it was. Assumes nothing.
use Rattle.std.specs.Prelude.{◌≡◌, refl, ◌↔◌, Bool, true, false, cond, List, ℕ, eqb, length}
use Rattle.std.proofs.Common.{sym, ap, ◌∙◌, inl, inr, arith, lt-ltb, le-ltb, eq-eqb, ne_eqb}
use Rattle.std.proofs.Math.Decide.{ℕ_discrete}
use Rattle.units.proofs.Powers.{le_or_lt}
use Rattle.kinds.specs.Limits.{doubles}
use Rattle.kinds.specs.Heard.{Refusal}
use Rattle.kinds.proofs.Hearing.{exactly}
use Rattle.kinds.proofs.OutcomeLaws.{same}
use Rattle.sheet.specs.Sheet.{version_of, count_of}
use Rattle.rescue.specs.Rescue as rows
use Rattle.rescue.specs.Rescue.{Rescuing, rescuing, rescued_of, rescued_heard, RescueWhen}
use Rattle.rescue.proofs.RescueLaws.{rescue_when, rescue_heard, rescue_leaves, rescue_refusal, rescued_is}
use Rattle.rescue.specs.Rescued.{Rescued}
use Rattle.rescue.specs.Rescued.{Refused}
use Rattle.arrays.specs.Arrays.{code_of, values_of}
use Rattle.arrays.specs.Codes.{Coded}
use Rattle.arrays.proofs.CodesLaws.{coded, refused_code, values_left}
use Rattle.sheet_calls.specs.RescueArrays.{RescueReturned, rescue_returned, unrescued_code, rescue_arrays, RescueLeft}
use Rattle.sheet_calls.specs.RescueArrays.{RescueOther, no_header, other_version, too_many, otherwise}

-- no refusal has the number 0
some : {bytes sheet marks : List ℕ} {k i : ℕ} → RescueWhen doubles bytes sheet marks (Refused k i) → k ≡ 0 → ⊥
some (rows.no_header h) z = omega arith
some (rows.other_version h v) z = omega arith
some (rows.too_many B m) z = omega arith
some (rows.no_room B f s) z = omega arith

-- ---- another length of the report's array
module _ (bytes : List ℕ) where
  unrescued_row : {c : ℕ} → RescueOther bytes c → unrescued_code bytes ≡ c
  unrescued_row (no_header h) = rw (lt-ltb (length bytes) 5 h)
  unrescued_row (other_version h v) = rw (le-ltb (length bytes) 5 h, ne_eqb (version_of bytes) 1 v)
  unrescued_row (too_many B m) =
      rw (le-ltb (length bytes) 5 B.header, eq-eqb (version_of bytes) 1 B.version, lt-ltb doubles.length (count_of bytes) m)
  unrescued_row (otherwise B f) =
      rw (le-ltb (length bytes) 5 B.header, eq-eqb (version_of bytes) 1 B.version, le-ltb doubles.length (count_of bytes) f)

  some_unrescued : (c : ℕ) × RescueOther bytes c
  some_unrescued = elim (le_or_lt 5 (length bytes)) [
    | inr h ↦ (11, no_header h)
    | inl h ↦ elim (ℕ_discrete (version_of bytes) 1) [
      | no v ↦ (12, other_version h v)
      | yes v ↦ elim (le_or_lt (count_of bytes) doubles.length) [
        | inr m ↦ (1, too_many (record { header = h; version = v }) m)
        | inl f ↦ (4, otherwise (record { header = h; version = v }) f)
      ]
    ]
  ]

  pub rescue_other : (c : ℕ) → (unrescued_code bytes ≡ c) ↔ RescueOther bytes c
  rescue_other = exactly (unrescued_code bytes) (RescueOther bytes) (λ c. unrescued_row) some_unrescued

  nonzero : unrescued_code bytes ≡ 0 → ⊥
  nonzero z = by ((rescue_other 0).0 z) refl
    where
      by : {c : ℕ} → RescueOther bytes c → c ≡ 0 → ⊥
      by (no_header h) e = omega arith
      by (other_version h v) e = omega arith
      by (too_many B m) e = omega arith
      by (otherwise B f) e = omega arith

  -- over areas without a byte the rescue itself is refused so
  module _ (sheet marks : List ℕ) (none : length sheet ≡ 0) where
    row : {c : ℕ} → RescueOther bytes c → (rescued_of doubles bytes sheet marks).answer ≡ Refused c 0
    row (no_header h) = (rescue_when doubles bytes sheet marks _).1 (rows.no_header h)
    row (other_version h v) = (rescue_when doubles bytes sheet marks _).1 (rows.other_version h v)
    row (too_many B m) = (rescue_when doubles bytes sheet marks _).1 (rows.too_many B m)
    row (otherwise B f) = (rescue_when doubles bytes sheet marks _).1 (rows.no_room B f (inl (omega arith)))

    pub unrescued_is : {r : Rescued} → (rescued_of doubles bytes sheet marks).answer ≡ r → r ≡ Refused (unrescued_code bytes) 0
    unrescued_is e = sym e ∙ row ((rescue_other (unrescued_code bytes)).0 refl)

module _ (bytes sheet marks report : List ℕ) where
  -- ---- case by case
  pub rescue_unreported : (length report ≡ 4 → ⊥) → rescue_arrays bytes sheet marks report ≡ rescue_returned (unrescued_code bytes) sheet marks report
  unfolding rescue_arrays
  rescue_unreported h = rw (ne_eqb (length report) 4 h)

  pub rescue_rescued : length report ≡ 4
      → let r = rescued_of doubles bytes sheet marks in
      rescue_arrays bytes sheet marks report
      ≡ rescue_returned (code_of (rescued_heard r.answer)) r.sheet r.marks (values_of (rescued_heard r.answer) report)
  unfolding rescue_arrays
  rescue_rescued h = rw (eq-eqb (length report) 4 h)

  -- ---- exactly when
  pub rescue_coded : Coded 4 (length report) (unrescued_code bytes) (rescued_heard (rescued_of doubles bytes sheet marks).answer)
      (rescue_arrays bytes sheet marks report).code
  rescue_coded = coded 4 (length report) (unrescued_code bytes) (rescued_heard (rescued_of doubles bytes sheet marks).answer)
      (λ l. ap (λ (w : RescueReturned). w.code) (rescue_rescued l)) (λ l. ap (λ (w : RescueReturned). w.code) (rescue_unreported l))
      (λ p e. some ((rescue_heard doubles bytes sheet marks 0 p).0 e).1 refl) (nonzero bytes)

  -- ---- determined
  pub rescue_determined : {r q : ℕ} {xs ys us vs ms ns : List ℕ} → rescue_returned r xs us ms ≡ rescue_arrays bytes sheet marks report
      → rescue_returned q ys vs ns ≡ rescue_arrays bytes sheet marks report → (r ≡ q) × (xs ≡ ys) × (us ≡ vs) × (ms ≡ ns)
  rescue_determined p q = (
    ap (λ (w : RescueReturned). w.code) (same p q),
    ap (λ (w : RescueReturned). w.sheet) (same p q),
    ap (λ (w : RescueReturned). w.marks) (same p q),
    ap (λ (w : RescueReturned). w.report) (same p q),
  )

  -- ---- what a refusal leaves
  pub rescue_left : ((rescue_arrays bytes sheet marks report).code ≡ 0 → ⊥) → RescueLeft (rescue_arrays bytes sheet marks report) sheet marks report
  unfolding rescue_arrays
  rescue_left = by (eqb (length report) 4)
    where
      w : Rescuing
      w = rescued_of doubles bytes sheet marks

      by : (b : Bool) → let h = rescued_heard w.answer in
          let c = cond b (rescue_returned (code_of h) w.sheet w.marks (values_of h report)) (rescue_returned (unrescued_code bytes) sheet marks report) in
          (c.code ≡ 0 → ⊥) → RescueLeft c sheet marks report
      by true n =
          let r = refused_code (rescued_heard w.answer) n in
          let i = rescued_is w.answer r.0 r.1 r.2 in
          let l = rescue_leaves doubles bytes sheet marks i.1 in
          record {
            sheet = ap (λ (x : Rescuing). x.sheet) l;
            marks = ap (λ (x : Rescuing). x.marks) l;
            report = values_left (rescued_heard w.answer) report n;
          }
      by false n = record { sheet = refl; marks = refl; report = refl }

-- ---- what is refused is refused with a number of the table
pub rescue_refused : (bytes sheet marks : List ℕ) (k i : ℕ) → (rescued_of doubles bytes sheet marks).answer ≡ Refused k i → Refusal doubles.length k i
rescue_refused bytes sheet marks k i e = rescue_refusal doubles bytes sheet marks ((rescue_when doubles bytes sheet marks (Refused k i)).0 e)

-- ---- what the rescue answers, as the call returns it
pub heard_rescued : (values : List ℕ) (b : Rescued) {r : ℕ} {vs : List ℕ} {w : Rescuing} {a : Rescued} {xs us : List ℕ}
    → r ≡ code_of (rescued_heard b) → vs ≡ values_of (rescued_heard b) values → rescuing a xs us ≡ w → a ≡ b
    → rescue_returned r xs us vs ≡ rescue_returned (code_of (rescued_heard w.answer)) w.sheet w.marks (values_of (rescued_heard w.answer) values)
heard_rescued values b {xs = xs} {us = us} c v e q =
    (λ i. rescue_returned (c i) xs us (v i))
    ∙ ap (λ (x : Rescued). rescue_returned (code_of (rescued_heard x)) xs us (values_of (rescued_heard x) values)) (sym q)
    ∙ ap (λ (x : Rescuing). rescue_returned (code_of (rescued_heard x.answer)) x.sheet x.marks (values_of (rescued_heard x.answer) values)) e
