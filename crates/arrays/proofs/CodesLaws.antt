-- What is heard of a library's call, as a code and as values: each code exactly when, 0 exactly when nothing is refused, and what a refusal leaves.
-- Assumes nothing.
use Rattle.std.specs.Prelude.{◌≡◌, refl, ◌↔◌, Bool, true, false, cond, List, ℕ, length}
use Rattle.std.proofs.Common.{sym, ap, ◌∙◌, inl, inr, arith, lt-ltb, le-ltb}
use Rattle.std.proofs.Math.Decide.{ℕ_discrete}
use Rattle.lists.proofs.Apart.{apart}
use Rattle.units.proofs.Powers.{le_or_lt}
use Rattle.kinds.specs.Limits.{Width}
use Rattle.kinds.specs.Outcome.{Outcome, outcome}
use Rattle.kinds.specs.Heard.{Place, Heard, refused, more, done, nearest, parts, accepted, count, rescued}
use Rattle.kinds.proofs.Hearing.{exactly}
use Rattle.kinds.proofs.OutcomeLaws.{same}
use Rattle.kinds.specs.Verdict as verdicts
use Rattle.judge.specs.Table as list-rows
use Rattle.judge.specs.Table.{ListWhen}
use Rattle.arrays.specs.Arrays.{code_of, values_of, Returned, returned, too_many_of}
use Rattle.arrays.specs.Codes.{Accepts, HeardWhen, accepts, refuses, CodeWhen, right_length, other_length, Coded, Left, ListOther, too_many, otherwise}

-- ---- each code exactly when
heard_row : (h : Heard) {c : ℕ} → HeardWhen h c → code_of h ≡ c
heard_row h (refuses k p e) = ap code_of e
heard_row h (accepts A) = by h A
  where
    by : (h : Heard) → Accepts h → code_of h ≡ 0
    by (refused k p) A = absurd (A k p refl)
    by (more a b c d e f g h i) A = refl
    by (done x r) A = refl
    by (nearest x) A = refl
    by (parts b) A = refl
    by accepted A = refl
    by (count n) A = refl
    by (rescued w t m o) A = refl

heard_some : (h : Heard) → (c : ℕ) × HeardWhen h c
heard_some (refused k p) = (_, refuses k p refl)
heard_some (more a b c d e f g h i) = (_, accepts (λ k p e. apart (cc)))
heard_some (done x r) = (_, accepts (λ k p e. apart (cc)))
heard_some (nearest x) = (_, accepts (λ k p e. apart (cc)))
heard_some (parts b) = (_, accepts (λ k p e. apart (cc)))
heard_some accepted = (_, accepts (λ k p e. apart (cc)))
heard_some (count n) = (_, accepts (λ k p e. apart (cc)))
heard_some (rescued w t m o) = (_, accepts (λ k p e. apart (cc)))

pub heard_code : (h : Heard) (c : ℕ) → (code_of h ≡ c) ↔ HeardWhen h c
heard_code h = exactly (code_of h) (HeardWhen h) (λ c. heard_row h) (heard_some h)

-- no refusal has the number 0
heard_accepts : (h : Heard) → ((p : Place) → h ≡ refused 0 p → ⊥) → {c : ℕ} → c ≡ 0 → HeardWhen h c → Accepts h
heard_accepts h numbered z (accepts A) = A
heard_accepts h numbered z (refuses k p e) = let k0 : k ≡ 0 = omega arith in absurd (numbered p (rw k0 at e))

pub heard_zero : (h : Heard) → ((p : Place) → h ≡ refused 0 p → ⊥) → (code_of h ≡ 0) ↔ Accepts h
heard_zero h numbered = (λ e. heard_accepts h numbered refl ((heard_code h 0).0 e), λ A. heard_row h (accepts A))

-- of a call that asks for n of L values
module _ (n L other : ℕ) (h : Heard) {code : ℕ} (right : L ≡ n → code ≡ code_of h) (wrong : (L ≡ n → ⊥) → code ≡ other) where
  row : {c : ℕ} → CodeWhen n L other h c → code ≡ c
  row (right_length l H) = right l ∙ heard_row h H
  row (other_length l e) = wrong l ∙ sym e

  some_row : (c : ℕ) × CodeWhen n L other h c
  some_row = elim (ℕ_discrete L n) [
    | yes l ↦ (_, right_length l (heard_some h).1)
    | no l ↦ (_, other_length l refl)
  ]

  code_when : (c : ℕ) → (code ≡ c) ↔ CodeWhen n L other h c
  code_when = exactly code (CodeWhen n L other h) (λ c. row) some_row

  -- of a table without the number 0, and another code than 0 for the array
  module _ (numbered : (p : Place) → h ≡ refused 0 p → ⊥) (nonzero : other ≡ 0 → ⊥) where
    zero_row : CodeWhen n L other h 0 → (L ≡ n) × Accepts h
    zero_row (right_length l H) = (l, heard_accepts h numbered refl H)
    zero_row (other_length l e) = absurd (nonzero (sym e))

    pub coded : Coded n L other h code
    coded = record { each = code_when; zero = (λ e. zero_row ((code_when 0).0 e), λ A. row (right_length A.0 (accepts A.1))) }

-- ---- what a refusal leaves
pub refused_code : (h : Heard) → (code_of h ≡ 0 → ⊥) → (k : ℕ) × (p : Place) × (h ≡ refused k p)
refused_code (refused k p) n = (k, p, refl)
refused_code (more a b c d e f g h i) n = absurd (n refl)
refused_code (done x r) n = absurd (n refl)
refused_code (nearest x) n = absurd (n refl)
refused_code (parts b) n = absurd (n refl)
refused_code accepted n = absurd (n refl)
refused_code (count m) n = absurd (n refl)
refused_code (rescued w t m o) n = absurd (n refl)

pub values_left : (h : Heard) (before : List ℕ) → (code_of h ≡ 0 → ⊥) → values_of h before ≡ before
values_left h before n = let r = refused_code h n in ap (λ (x : Heard). values_of x before) r.2

module _ {A X : Type 0} (heard : A → Heard) (refusal : ℕ → ℕ → A) (is : (a : A) (k : ℕ) (p : Place) → heard a ≡ refused k p → (i : ℕ) × (a ≡ refusal k i))
    (w : Outcome A X) (area : List X) (leaves : (k i : ℕ) → w.answer ≡ refusal k i → w.area ≡ area) where
  pub area_left : (code_of (heard w.answer) ≡ 0 → ⊥) → w.area ≡ area
  area_left n =
      let r = refused_code (heard w.answer) n in
      let i = is w.answer r.0 r.1 r.2 in
      leaves r.0 i.0 i.1

  -- of a call: as the library's own, or a refusal of the array of values
  pub call_left : (written : Heard → List ℕ → List ℕ) (values : List ℕ)
      → ((h : Heard) (before : List ℕ) → (code_of h ≡ 0 → ⊥) → written h before ≡ before) → (b : Bool) (k : ℕ)
      → let h = heard w.answer in
      let c = cond b (returned (code_of h) w.area (written h values)) (returned k area values) in
      (c.code ≡ 0 → ⊥) → Left c area values
  call_left written values keeps true k n = record { area = area_left n; values = keeps (heard w.answer) values n }
  call_left written values keeps false k n = record { area = refl; values = refl }

-- and where there is no other array
pub values_call_left : (h : Heard) (values : List ℕ) (b : Bool) (k : ℕ)
    → let c = cond b (outcome (code_of h) (values_of h values)) (outcome k values) in
    (c.answer ≡ 0 → ⊥) → c.area ≡ values
values_call_left h values true k n = values_left h values n
values_call_left h values false k n = refl

-- ---- a list: no refusal has the number 0
pub list_some : {W : Width} {area parts : Bool} {ps : List ℕ} {k i : ℕ} → ListWhen W area parts ps (verdicts.Refused k i) → k ≡ 0 → ⊥
list_some (list-rows.too_many h) z = omega arith
list_some (list-rows.wrong_area h a) z = omega arith
list_some (list-rows.wrong_parts h a b) z = omega arith
list_some (list-rows.bad_number P k i F) z = F.bad z

-- the code for another length of the array of values
module _ (W : Width) where
  other_row : {ps : List ℕ} {c : ℕ} → ListOther W ps c → too_many_of W ps ≡ c
  other_row {ps} (too_many h) = rw (lt-ltb W.length (length ps) h)
  other_row {ps} (otherwise h) = rw (le-ltb W.length (length ps) h)

  some_other : (ps : List ℕ) → (c : ℕ) × ListOther W ps c
  some_other ps = elim (le_or_lt (length ps) W.length) [ inl h ↦ (4, otherwise h) | inr h ↦ (1, too_many h) ]

  pub list_other : (ps : List ℕ) (c : ℕ) → (too_many_of W ps ≡ c) ↔ ListOther W ps c
  list_other ps = exactly (too_many_of W ps) (ListOther W ps) (λ c. other_row) (some_other ps)

  pub list_nonzero : (ps : List ℕ) → too_many_of W ps ≡ 0 → ⊥
  list_nonzero ps z = by ((list_other ps 0).0 z) refl
    where
      by : {c : ℕ} → ListOther W ps c → c ≡ 0 → ⊥
      by (too_many h) e = omega arith
      by (otherwise h) e = omega arith

-- ---- any two results that meet a contract are equal
pub returned_determined : {X : Type 0} {r q : ℕ} {xs ys : List X} {us vs : List ℕ} (w : Returned X) → returned r xs us ≡ w → returned q ys vs ≡ w
    → (r ≡ q) × (xs ≡ ys) × (us ≡ vs)
returned_determined {X} w p q =
    (ap (λ (w : Returned X). w.code) (same p q), ap (λ (w : Returned X). w.area) (same p q), ap (λ (w : Returned X). w.values) (same p q))
