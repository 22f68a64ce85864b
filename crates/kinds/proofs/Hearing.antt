-- A table of refusals is read both ways; a refusal is heard exactly when its row says; and its place is told as the table says. Assumes nothing.
use Rattle.std.specs.Prelude.{◌≡◌, refl, ◌⊎◌, ◌↔◌, ℕ, zero, suc, ◌<◌, T}
use Rattle.std.proofs.Common.{sym, ap, subst, ◌∙◌, inl, inr, arith}
use Rattle.std.specs.Float.Ieee.Bits.{is_true}
use Rattle.lists.proofs.Apart.{apart}
use Rattle.kinds.specs.Limits.{Width}
use Rattle.kinds.specs.Heard.{Place, Heard, refused, tells, place_of, told, Row, Refusal, step_heard, nearest_heard, parted_heard, entry_heard, sheet_heard}
use Rattle.kinds.specs.Step.{Step}
use Rattle.kinds.specs.Step as steps
use Rattle.kinds.specs.Nearest.{Nearest}
use Rattle.kinds.specs.Nearest as nearests
use Rattle.kinds.specs.Parted.{Parted}
use Rattle.kinds.specs.Parted as parteds
use Rattle.kinds.specs.Entry.{Entry}
use Rattle.kinds.specs.Entry as entries
use Rattle.kinds.specs.Sheet.{Sheet}
use Rattle.kinds.specs.Sheet as sheets

-- a table with a row for what is given, of which each row gives one thing, is read both ways
pub exactly : {A : Type 0} (a : A) (When : A → Type 0) → ((b : A) → When b → a ≡ b) → (b : A) × When b → (b : A) → (a ≡ b) ↔ When b
exactly a When row some b = (λ e. subst When (sym (row some.0 some.1) ∙ e) some.1, row b)

-- an answer's place is what the table tells, where it is 0 or the number is one that tells a place
pub placed : (k i : ℕ) → (i ≡ 0) ⊎ T (tells k) → place_of k i ≡ told k i
placed k zero h = refl
placed k (suc i) (inl e) = apart (cc)
placed k (suc i) (inr t) = rw (is_true (tells k) t)

-- a number of the table at place 0 is a refusal of the table
pub at_place_0 : {places k : ℕ} → k < 32 → Refusal places k 0
at_place_0 {places} {k} h = record { number = h; place = omega arith; as_told = placed k 0 (inl refl) }

-- ---- an answer of which a refusal is heard is that refusal
pub step_is : (W : Width) (a : Step) (k : ℕ) (p : Place) → step_heard W a ≡ refused k p → (i : ℕ) × (a ≡ steps.Refused k i)
step_is W (steps.More s m) k p e = apart (cc)
step_is W (steps.Done x r) k p e = apart (cc)
step_is W (steps.Refused l j) k p e = (j, cc)

pub nearest_is : (W : Width) (a : Nearest) (k : ℕ) (p : Place) → nearest_heard W a ≡ refused k p → (i : ℕ) × (a ≡ nearests.Refused k i)
nearest_is W (nearests.Sum x) k p e = apart (cc)
nearest_is W (nearests.Refused l j) k p e = (j, cc)

pub parted_is : (a : Parted) (k : ℕ) (p : Place) → parted_heard a ≡ refused k p → (i : ℕ) × (a ≡ parteds.Refused k i)
parted_is (parteds.Parts b) k p e = apart (cc)
parted_is (parteds.Refused l j) k p e = (j, cc)

pub entry_is : (a : Entry) (k : ℕ) (p : Place) → entry_heard a ≡ refused k p → (i : ℕ) × (a ≡ entries.Refused k i)
entry_is entries.Entered k p e = apart (cc)
entry_is (entries.Refused l j) k p e = (j, cc)

pub sheet_is : (a : Sheet) (k : ℕ) (p : Place) → sheet_heard a ≡ refused k p → (i : ℕ) × (a ≡ sheets.Refused k i)
sheet_is (sheets.Read n) k p e = apart (cc)
sheet_is (sheets.Refused l j) k p e = (j, cc)

-- ---- for any kind of answer: a refusal is heard exactly when its row says, with what it tells
module _ {A : Type 0} (heard : A → Heard) (refusal : ℕ → ℕ → A) (said : (k i : ℕ) → heard (refusal k i) ≡ refused k (place_of k i))
    (a : A) (is : (k : ℕ) (p : Place) → heard a ≡ refused k p → (i : ℕ) × (a ≡ refusal k i))
    (When : ℕ → ℕ → Type 0) (when : (k i : ℕ) → (a ≡ refusal k i) ↔ When k i) (place : (k i : ℕ) → When k i → place_of k i ≡ told k i) where
  pub hears : (k : ℕ) (p : Place) → (heard a ≡ refused k p) ↔ Row When k p
  hears k p = (there, back)
    where
      there : heard a ≡ refused k p → Row When k p
      there e =
          let r = is k p e in
          let h = (when k r.0).0 r.1 in
          let s : refused k p ≡ refused k (place_of k r.0) = sym e ∙ ap heard r.1 ∙ said k r.0 in
          let q : p ≡ place_of k r.0 = cc in
          (r.0, h, q ∙ place k r.0 h)

      back : Row When k p → heard a ≡ refused k p
      back r =
          let i = r.0 in
          ap heard ((when k i).1 r.1) ∙ said k i ∙ ap (refused k) (place k i r.1 ∙ sym r.2)
