-- What pairs are refused for, case by case, and that each verdict is given exactly when rule O6 says. Assumes nothing.
use Rattle.std.specs.Prelude.{◌≡◌, refl, ◌⊎◌, ◌↔◌, Bool, true, false, not, ◌||◌, ℕ, suc, ◌≤◌, ◌<◌, T, ltb, length, get_or}
use Rattle.std.proofs.Common.{sym, ap, ◌∙◌, inl, inr, eq-or-lt_of_le, le_of_suc-le-suc, arith, lit<}
use Rattle.std.proofs.Math.Bool.{or-true}
use mathlib.Core.List.{List, zip}
use Rattle.std.proofs.Math.Decide.{ℕ_discrete}
use borrow.Author.Tests.{ltb-true, ltb-false, lt-ltb, le-ltb, eq-eqb, ne_eqb}
use Rattle.std.specs.Float.Ieee.Bits.{is_true, is_false}
use Rattle.units.proofs.Powers.{le_or_lt}
use Rattle.lists.proofs.Apart.{apart}
use Rattle.kinds.specs.Heard.{Refusal}
use Rattle.kinds.proofs.Hearing.{exactly, placed, at_place_0}
use Rattle.kinds.specs.Verdict.{Verdict}
use Rattle.kinds.specs.Verdict.{Good, Refused}
use Rattle.judge.specs.Judge.{first_bad}
use Rattle.judge.specs.Table.{CleanBy, FirstBy}
use Rattle.judge.proofs.FirstBadLaws.{found_by, good_by, refused_by}
use Rattle.pairs.specs.Limits.{Pairing}
use Rattle.pairs.specs.Pairs.{Pair, pair_fault, pairs_judged}
use Rattle.pairs.specs.Table.{pair_at, CleanPairs, AllowedPairs, FirstPair, Matching, PairsWhen, too_many, unlike, wrong_area, bad_pair, allowed}
use Rattle.pairs.proofs.FaultLaws.{pair_number}
use Rattle.pairs.proofs.ZipLaws.{zip_length, zip_at}

-- ---- place after place
module _ {P : Pairing} {ps qs : List ℕ} where
  pub pairs_none : CleanPairs P ps qs 0
  pairs_none = record { none = λ j h. absurd (omega arith) }

  pub pairs_more : {i : ℕ} → CleanPairs P ps qs i → pair_fault P (pair_at ps qs i) ≡ 0 → CleanPairs P ps qs (suc i)
  pairs_more {i} C e = record { none = λ j h. go j (eq-or-lt_of_le (le_of_suc-le-suc h)) }
    where
      go : (j : ℕ) → (j ≡ i) ⊎ (j < i) → pair_fault P (pair_at ps qs j) ≡ 0
      go j (inl s) = rw s e
      go j (inr l) = C.none j l

  pub pairs_fewer : {i n : ℕ} → CleanPairs P ps qs n → i ≤ n → CleanPairs P ps qs i
  pairs_fewer C h = record { none = λ j l. C.none j (omega arith) }

-- ---- the first fault of two lists taken together
module _ (P : Pairing) (ps qs : List ℕ) (e : length ps ≡ length qs) where
  abbrev cs : List Pair
  cs = zip ps qs

  abbrev d : Pair
  d = (0, 0)

  same : (j : ℕ) → j < length ps → pair_fault P (get_or cs j d) ≡ pair_fault P (pair_at ps qs j)
  same j h = ap (pair_fault P) (zip_at ps qs e 0 0 j h)

  clean_there : {n : ℕ} → n ≤ length ps → CleanPairs P ps qs n → CleanBy (pair_fault P) d cs n
  clean_there l C = record { none = λ j h. same j (omega arith) ∙ C.none j h }

  clean_back : {n : ℕ} → n ≤ length ps → CleanBy (pair_fault P) d cs n → CleanPairs P ps qs n
  clean_back l C = record { none = λ j h. sym (same j (omega arith)) ∙ C.none j h }

  first_there : {k i : ℕ} → FirstPair P ps qs k i → FirstBy (pair_fault P) d cs k i
  first_there {k} {i} F =
      let h : i < length ps = F.inside in
      record { inside = rw (zip_length ps qs e) h; fault = same i h ∙ F.fault; bad = F.bad; before = clean_there (omega arith) F.before }

  first_back : {k i : ℕ} → FirstBy (pair_fault P) d cs k i → FirstPair P ps qs k i
  first_back {k} {i} F =
      let h : i < length ps = rw (zip_length ps qs e) at F.inside in
      record { inside = h; fault = sym (same i h) ∙ F.fault; bad = F.bad; before = clean_back (omega arith) F.before }

  pub found_pair : AllowedPairs P ps qs ⊎ ((k : ℕ) × (i : ℕ) × FirstPair P ps qs k i)
  found_pair = elim (found_by (pair_fault P) d cs) [
    | inl C ↦ inl (clean_back (omega arith) (rw (zip_length ps qs e) at C))
    | inr F ↦ inr (F.0, F.1, first_back F.2)
  ]

  pub pairs_good : (first_bad (pair_fault P) cs 0 ≡ Good) ↔ AllowedPairs P ps qs
  pairs_good =
      let g = good_by (pair_fault P) d cs in (
        λ q. clean_back (omega arith) (rw (zip_length ps qs e) at (g.0 q)),
        λ A. g.1 (rw (zip_length ps qs e) (clean_there (omega arith) A)),
      )

  pub pairs_refused : (k i : ℕ) → (first_bad (pair_fault P) cs 0 ≡ Refused k i) ↔ FirstPair P ps qs k i
  pairs_refused k i = let r = refused_by (pair_fault P) d cs k i in (λ q. first_back (r.0 q), λ F. r.1 (first_there F))

pub first_pair_number : {P : Pairing} {ps qs : List ℕ} {k i : ℕ} → FirstPair P ps qs k i → (k ≡ 2) ⊎ (k ≡ 23)
first_pair_number {P} {ps} {qs} {i = i} F = rw F.fault at (pair_number P (pair_at ps qs i) (λ e. F.bad (sym F.fault ∙ e)))

-- ---- either list is too long, or neither
module _ (n l m : ℕ) where
  pub either_above : (ltb n l || ltb n m) ≡ true → (n < l) ⊎ (n < m)
  either_above = go (ltb n l) (ltb n m) (ltb-true n l) (ltb-true n m)
    where
      go : (a b : Bool) → (a ≡ true → n < l) → (b ≡ true → n < m) → (a || b) ≡ true → (n < l) ⊎ (n < m)
      go true b f g e = inl (f refl)
      go false true f g e = inr (g refl)
      go false false f g e = apart (cc)

  pub neither_above : (ltb n l || ltb n m) ≡ false → (l ≤ n) × (m ≤ n)
  neither_above = go (ltb n l) (ltb n m) (ltb-false n l) (ltb-false n m)
    where
      go : (a b : Bool) → (a ≡ false → l ≤ n) → (b ≡ false → m ≤ n) → (a || b) ≡ false → (l ≤ n) × (m ≤ n)
      go true b f g e = apart (cc)
      go false true f g e = apart (cc)
      go false false f g e = (f refl, g refl)

-- ---- case by case
module _ (P : Pairing) (area : Bool) (ps qs : List ℕ) where
  pub judged_1 : (P.length < length ps) ⊎ (P.length < length qs) → pairs_judged P area ps qs ≡ Refused 1 0
  unfolding pairs_judged
  judged_1 (inl h) = rw (lt-ltb P.length (length ps) h)
  judged_1 (inr h) = rw (lt-ltb P.length (length qs) h, or-true (ltb P.length (length ps)))

  module _ (h : length ps ≤ P.length) (g : length qs ≤ P.length) where
    pub judged_22 : (length ps ≡ length qs → ⊥) → pairs_judged P area ps qs ≡ Refused 22 0
    unfolding pairs_judged
    judged_22 n = rw (le-ltb P.length (length ps) h, le-ltb P.length (length qs) g, ne_eqb (length ps) (length qs) n)

    module _ (e : length ps ≡ length qs) where
      pub judged_4 : T (not area) → pairs_judged P area ps qs ≡ Refused 4 0
      unfolding pairs_judged
      judged_4 a = rw (le-ltb P.length (length ps) h, le-ltb P.length (length qs) g, eq-eqb (length ps) (length qs) e, is_false area a)

      pub judged_passed : T area → pairs_judged P area ps qs ≡ first_bad (pair_fault P) (zip ps qs) 0
      unfolding pairs_judged
      judged_passed a = rw (le-ltb P.length (length ps) h, le-ltb P.length (length qs) g, eq-eqb (length ps) (length qs) e, is_true area a)

-- ---- exactly when
module _ (P : Pairing) (area : Bool) (ps qs : List ℕ) where
  fewer : Matching P ps qs → length qs ≤ P.length
  fewer M = omega (arith, M.few, M.alike)

  row : {v : Verdict} → PairsWhen P area ps qs v → pairs_judged P area ps qs ≡ v
  row (too_many h) = judged_1 P area ps qs h
  row (unlike h g n) = judged_22 P area ps qs h g n
  row (wrong_area M a) = judged_4 P area ps qs M.few (fewer M) M.alike a
  row (bad_pair M a k i F) = judged_passed P area ps qs M.few (fewer M) M.alike a ∙ (pairs_refused P ps qs M.alike k i).1 F
  row (allowed M a A) = judged_passed P area ps qs M.few (fewer M) M.alike a ∙ (pairs_good P ps qs M.alike).1 A

  some_row : (v : Verdict) × PairsWhen P area ps qs v
  some_row = elim (le_or_lt (length ps) P.length) [
    | inr h ↦ (_, too_many (inl h))
    | inl h ↦ elim (le_or_lt (length qs) P.length) [
      | inr g ↦ (_, too_many (inr g))
      | inl g ↦ elim (ℕ_discrete (length ps) (length qs)) [
        | no n ↦ (_, unlike h g n)
        | yes e ↦ by_area (record { few = h; alike = e }) area refl
      ]
    ]
  ]
    where
      by_area : Matching P ps qs → (a : Bool) → area ≡ a → (v : Verdict) × PairsWhen P area ps qs v
      by_area M false e = (_, wrong_area M (rw e tt))
      by_area M true e = elim (found_pair P ps qs M.alike) [
        | inl A ↦ (_, allowed M (rw e tt) A)
        | inr F ↦ (_, bad_pair M (rw e tt) F.0 F.1 F.2)
      ]

  pub pairs_when : (v : Verdict) → (pairs_judged P area ps qs ≡ v) ↔ PairsWhen P area ps qs v
  pairs_when = exactly (pairs_judged P area ps qs) (PairsWhen P area ps qs) (λ v. row) some_row

-- ---- what a verdict says
module _ {P : Pairing} {area : Bool} {ps qs : List ℕ} where
  pub when_matching : PairsWhen P area ps qs Good → Matching P ps qs
  when_matching (allowed M a A) = M

  pub when_area : PairsWhen P area ps qs Good → T area
  when_area (allowed M a A) = a

  pub when_allowed : PairsWhen P area ps qs Good → AllowedPairs P ps qs
  when_allowed (allowed M a A) = A

  -- a refusal's number is of the table, its place is one of the pairs', and is told as the table says
  pub pairs_refusal : {k i : ℕ} → PairsWhen P area ps qs (Refused k i) → Refusal P.length k i
  pairs_refusal (too_many h) = at_place_0 (lit< tt)
  pairs_refusal (unlike h g n) = at_place_0 (lit< tt)
  pairs_refusal (wrong_area M a) = at_place_0 (lit< tt)
  pairs_refusal (bad_pair M a k i F) = go (first_pair_number F)
    where
      go : (k ≡ 2) ⊎ (k ≡ 23) → Refusal P.length k i
      go (inl e) = record { number = rw e (lit< tt); place = omega (arith, M.few, F.inside); as_told = placed k i (inr (rw e tt)) }
      go (inr e) = record { number = rw e (lit< tt); place = omega (arith, M.few, F.inside); as_told = placed k i (inr (rw e tt)) }

  -- and is none of them 0
  pub pairs_some : {k i : ℕ} → PairsWhen P area ps qs (Refused k i) → k ≡ 0 → ⊥
  pairs_some (too_many h) z = omega arith
  pairs_some (unlike h g n) z = omega arith
  pairs_some (wrong_area M a) z = omega arith
  pairs_some (bad_pair M a k i F) z = F.bad z
