-- The first fault of a list whose members may have one: it is given exactly at the lowest bad place, with that place's fault, and none exactly where no place
-- has one. Assumes nothing.
use Rattle.std.specs.Prelude.{◌≡◌, ◌⊎◌, ◌↔◌, Bool, true, false, List, eqb, get_or, drop}
use Rattle.std.proofs.Math.Path.{refl}
use Rattle.std.proofs.Common.{sym, ap, ◌∙◌, inl, inr, eq-or-lt_of_le, le_of_suc-le-suc, add-one, arith, drop_of_length-le, drop-cons}
use Prim.Native.Nat.{ℕ, zero, suc, ◌≤◌, ◌<◌}
use borrow.Author.Tests.{eq-eqb, ne_eqb, eqb-true, eqb-false}
use Rattle.std.proofs.Math.ListN.{length}
use Rattle.kinds.specs.Verdict.{Verdict}
use Rattle.kinds.specs.Verdict.{Good, Refused}
use Rattle.judge.specs.Judge.{first_bad}
use Rattle.judge.specs.Table.{CleanBy, FirstBy, FaultyBy}

module _ {A : Type 0} (faults : A → ℕ) (d : A) (xs : List A) where
  pub none_by : CleanBy faults d xs 0
  none_by = record { none = λ j h. absurd (omega arith) }

  pub more_by : {i : ℕ} → CleanBy faults d xs i → faults (get_or xs i d) ≡ 0 → CleanBy faults d xs (suc i)
  more_by {i} C e = record { none = λ j h. go j (eq-or-lt_of_le (le_of_suc-le-suc h)) }
    where
      go : (j : ℕ) → (j ≡ i) ⊎ (j < i) → faults (get_or xs j d) ≡ 0
      go j (inl s) = rw s e
      go j (inr l) = C.none j l

  pub fewer_by : {i n : ℕ} → CleanBy faults d xs n → i ≤ n → CleanBy faults d xs i
  fewer_by C h = record { none = λ j l. C.none j (omega arith) }

  -- ---- the search from place i on

  from : ℕ → Verdict
  from i = first_bad faults (drop i xs) i

  passes : (i : ℕ) → i < length xs → faults (get_or xs i d) ≡ 0 → from i ≡ from (suc i)
  unfolding first_bad from
  passes i h e = rw (drop-cons xs i d, eq-eqb (faults (get_or xs i d)) 0 e, add-one)

  stops : (i : ℕ) → i < length xs → (faults (get_or xs i d) ≡ 0 → ⊥) → from i ≡ Refused (faults (get_or xs i d)) i
  unfolding first_bad from
  stops i h e = rw (drop-cons xs i d, ne_eqb (faults (get_or xs i d)) 0 e)

  skips : (i : ℕ) → i ≤ length xs → CleanBy faults d xs i → first_bad faults xs 0 ≡ from i
  unfolding from
  skips zero h C = refl
  skips (suc i) h C = skips i (omega arith) (fewer_by C (omega arith)) ∙ passes i h (C.none i (omega arith))

  refuses : {k i : ℕ} → FirstBy faults d xs k i → first_bad faults xs 0 ≡ Refused k i
  refuses {k} {i} F =
      skips i (omega arith) F.before
      ∙ stops i F.inside (λ e. F.bad (sym F.fault ∙ e))
      ∙ ap (λ (n : ℕ). Refused n i) F.fault

  allows : CleanBy faults d xs (length xs) → first_bad faults xs 0 ≡ Good
  unfolding from first_bad
  allows C = skips (length xs) (omega arith) C ∙ rw (drop_of_length-le xs {i = length xs} (omega arith))

  -- the places below n have no fault, or one is the first
  finds : (n : ℕ) → n ≤ length xs → CleanBy faults d xs n ⊎ FaultyBy faults d xs
  finds zero h = inl none_by
  finds (suc n) h = go (finds n (omega arith)) (eqb (faults (get_or xs n d)) 0) refl
    where
      go : CleanBy faults d xs n ⊎ FaultyBy faults d xs → (t : Bool) → eqb (faults (get_or xs n d)) 0 ≡ t → CleanBy faults d xs (suc n) ⊎ FaultyBy faults d xs
      go (inr F) t e = inr F
      go (inl C) true e = inl (more_by C (eqb-true _ _ e))
      go (inl C) false e = inr (faults (get_or xs n d), n, record { inside = h; fault = refl; bad = eqb-false _ _ e; before = C })

  -- ---- the first fault

  pub found_by : CleanBy faults d xs (length xs) ⊎ FaultyBy faults d xs
  found_by = finds (length xs) (omega arith)

  pub good_by : (first_bad faults xs 0 ≡ Good) ↔ CleanBy faults d xs (length xs)
  good_by = (λ e. go e found_by, allows)
    where
      go : first_bad faults xs 0 ≡ Good → CleanBy faults d xs (length xs) ⊎ FaultyBy faults d xs → CleanBy faults d xs (length xs)
      go e (inl C) = C
      go e (inr F) = let z : ◌≡◌ {A = ℕ} 0 1 = cc (refuses F.2) in absurd (omega arith)

  pub refused_by : (k i : ℕ) → (first_bad faults xs 0 ≡ Refused k i) ↔ FirstBy faults d xs k i
  refused_by k i = (λ e. go e found_by, refuses)
    where
      go : first_bad faults xs 0 ≡ Refused k i → CleanBy faults d xs (length xs) ⊎ FaultyBy faults d xs → FirstBy faults d xs k i
      go e (inl C) = let z : ◌≡◌ {A = ℕ} 0 1 = cc (allows C) in absurd (omega arith)
      go e (inr F) =
          let a : F.0 ≡ k = cc (refuses F.2) in
          let b : F.1 ≡ i = cc (refuses F.2) in
          rw (a, b) at F.2
