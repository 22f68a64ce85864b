-- Two answers of which the same is heard are the same answer. A float is one that its format holds, as every 64-bit float is. Assumes nothing.
use Rattle.std.specs.Prelude.{◌≡◌, refl, Bool, true, false, cond, ℕ, zero, suc, T, Float}
use Rattle.std.proofs.Common.{sym, ap, ◌∙◌}
use Rattle.std.specs.Float.{Format}
use Rattle.std.specs.Float.Ieee.{of_bits, to_bits, fits}
use Rattle.std.specs.Float.Ieee.Bits.{of_bits-to_bits}
use Rattle.lists.proofs.Apart.{apart}
use Rattle.kinds.specs.Limits.{Width}
use Rattle.kinds.specs.Step.{Step}
use Rattle.kinds.specs.Step.{More, Done, Refused}
use Rattle.kinds.specs.Nearest.{Nearest}
use Rattle.kinds.specs.Nearest as nearests
use Rattle.kinds.specs.Parted.{Parted}
use Rattle.kinds.specs.Parted as parteds
use Rattle.kinds.specs.Entry.{Entry}
use Rattle.kinds.specs.Entry as entries
use Rattle.kinds.specs.Sheet.{Sheet}
use Rattle.kinds.specs.Sheet as sheets
use Rattle.kinds.specs.Verdict.{Verdict}
use Rattle.kinds.specs.Verdict as verdicts
use Rattle.kinds.specs.Heard.{nowhere, at, refused, tells, place_of, step_heard, nearest_heard, parted_heard, entry_heard, sheet_heard, verdict_heard}
use Rattle.kinds.specs.HeardLaws.{NearestFits, StepFits}

place_same : (k p q : ℕ) → place_of k p ≡ place_of k q → p ≡ q
place_same k zero zero e = refl
place_same k zero (suc q) e = go (tells k) e
  where
    go : (b : Bool) → cond b (at 0) nowhere ≡ at (suc q) → 0 ≡ suc q
    go true e = cc
    go false e = apart (cc)
place_same k (suc p) zero e = go (tells k) e
  where
    go : (b : Bool) → at (suc p) ≡ cond b (at 0) nowhere → suc p ≡ 0
    go true e = cc
    go false e = apart (cc)
place_same k (suc p) (suc q) e = cc

-- a refusal is its number and its place
refusal : {X : Type 0} (answer : ℕ → ℕ → X) (k l p q : ℕ) → refused k (place_of k p) ≡ refused l (place_of l q) → answer k p ≡ answer l q
refusal answer k l p q e =
    let number : k ≡ l = cc in
    let places : place_of k p ≡ place_of l q = cc in
    let place : p ≡ q = place_same l p q (rw number at places) in
    λ i. answer (number i) (place i)

-- a float is its pattern
pattern_same : (f : Format) {x y : Float} → T (fits f x) → T (fits f y) → to_bits f x ≡ to_bits f y → x ≡ y
pattern_same f {x} {y} X Y e = sym (of_bits-to_bits f x X) ∙ ap (of_bits f) e ∙ of_bits-to_bits f y Y

-- ---- the answers without floats

pub verdict_heard_lem : (a b : Verdict) → verdict_heard a ≡ verdict_heard b → a ≡ b
verdict_heard_lem verdicts.Good verdicts.Good e = refl
verdict_heard_lem verdicts.Good (verdicts.Refused l q) e = apart (cc)
verdict_heard_lem (verdicts.Refused k p) verdicts.Good e = apart (cc)
verdict_heard_lem (verdicts.Refused k p) (verdicts.Refused l q) e = refusal verdicts.Refused k l p q e

pub parted_heard_lem : (a b : Parted) → parted_heard a ≡ parted_heard b → a ≡ b
parted_heard_lem (parteds.Parts x) (parteds.Parts y) e = cc
parted_heard_lem (parteds.Parts x) (parteds.Refused l q) e = apart (cc)
parted_heard_lem (parteds.Refused k p) (parteds.Parts y) e = apart (cc)
parted_heard_lem (parteds.Refused k p) (parteds.Refused l q) e = refusal parteds.Refused k l p q e

pub entry_heard_lem : (a b : Entry) → entry_heard a ≡ entry_heard b → a ≡ b
entry_heard_lem entries.Entered entries.Entered e = refl
entry_heard_lem entries.Entered (entries.Refused l q) e = apart (cc)
entry_heard_lem (entries.Refused k p) entries.Entered e = apart (cc)
entry_heard_lem (entries.Refused k p) (entries.Refused l q) e = refusal entries.Refused k l p q e

pub sheet_heard_lem : (a b : Sheet) → sheet_heard a ≡ sheet_heard b → a ≡ b
sheet_heard_lem (sheets.Read m) (sheets.Read n) e = cc
sheet_heard_lem (sheets.Read m) (sheets.Refused l q) e = apart (cc)
sheet_heard_lem (sheets.Refused k p) (sheets.Read n) e = apart (cc)
sheet_heard_lem (sheets.Refused k p) (sheets.Refused l q) e = refusal sheets.Refused k l p q e

module _ (W : Width) where
  pub nearest_heard_lem : (a b : Nearest) → NearestFits W a → NearestFits W b → nearest_heard W a ≡ nearest_heard W b → a ≡ b
  nearest_heard_lem (nearests.Sum x) (nearests.Sum y) A B e = ap nearests.Sum (pattern_same W.format A B (cc))
  nearest_heard_lem (nearests.Sum x) (nearests.Refused l q) A B e = apart (cc)
  nearest_heard_lem (nearests.Refused k p) (nearests.Sum y) A B e = apart (cc)
  nearest_heard_lem (nearests.Refused k p) (nearests.Refused l q) A B e = refusal nearests.Refused k l p q e

  pub step_heard_lem : (a b : Step) → StepFits W a → StepFits W b → step_heard W a ≡ step_heard W b → a ≡ b
  step_heard_lem (More s l) (More t m) A B e =
      let x : s.sigma ≡ t.sigma = pattern_same W.format A.0 B.0 (cc) in
      let y : s.t ≡ t.t = pattern_same W.format A.1 B.1 (cc) in
      let z : s.tau ≡ t.tau = pattern_same W.format A.2 B.2 (cc) in
      let n : s.n ≡ t.n = cc in
      let b : s.pending ≡ t.pending = cc in
      let r : s.rounds ≡ t.rounds = cc in
      let k : s.ensemble ≡ t.ensemble = cc in
      let kept : s.largest ≡ t.largest = pattern_same W.format A.3 B.3 (cc) in
      let told : l ≡ m = pattern_same W.format A.4 B.4 (cc) in
      λ i. More (record { sigma = x i; t = y i; tau = z i; n = n i; pending = b i; rounds = r i; ensemble = k i; largest = kept i }) (told i)
  step_heard_lem (More s l) (Done y r) A B e = apart (cc)
  step_heard_lem (More s m) (Refused l q) A B e = apart (cc)
  step_heard_lem (Done x r) (More t m) A B e = apart (cc)
  step_heard_lem (Done x r) (Done y u) A B e = let z : x ≡ y = pattern_same W.format A B (cc) in cc
  step_heard_lem (Done x r) (Refused l q) A B e = apart (cc)
  step_heard_lem (Refused k p) (More t m) A B e = apart (cc)
  step_heard_lem (Refused k p) (Done y u) A B e = apart (cc)
  step_heard_lem (Refused k p) (Refused l q) A B e = refusal Refused k l p q e
