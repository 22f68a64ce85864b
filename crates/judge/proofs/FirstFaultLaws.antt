-- The first fault of a list of patterns: it is given exactly at the lowest bad place, with that place's fault, and none exactly where no place has one.
-- Assumes nothing.
use Rattle.std.specs.Prelude.{◌≡◌, ◌⊎◌, ◌↔◌, List, ℕ, suc, ◌≤◌, ◌<◌, length, get_or}
use Rattle.std.proofs.Common.{sym, ◌∙◌, inl, inr}
use Rattle.std.specs.Float.{nan}
use Rattle.std.specs.Float.Ieee.{of_bits}
use Rattle.ieee.specs.Units.{Number, magnitude}
use Rattle.lists.proofs.Front.{map_at}
use Rattle.kinds.specs.Limits.{Width}
use Rattle.kinds.specs.Verdict.{Good, Refused}
use Rattle.judge.specs.Judge.{fault_of, first_fault, floats}
use Rattle.judge.specs.Table.{CleanBy, FirstBy, most, Clean, Allowed, First, Faulty}
use Rattle.judge.specs.FaultLaws.{fault_0, fault_number, allowed_number}
use Rattle.judge.proofs.FirstBadLaws.{none_by, more_by, fewer_by, found_by, good_by, refused_by}

-- ---- what is shown of members of any kind
clean_there : {W : Width} {ps : List ℕ} {n : ℕ} → Clean W ps n → CleanBy (fault_of W) 0 ps n
clean_there C = record { none = C.none }

clean_back : (W : Width) {ps : List ℕ} {n : ℕ} → CleanBy (fault_of W) 0 ps n → Clean W ps n
clean_back W C = record { none = C.none }

first_there : {W : Width} {ps : List ℕ} {k i : ℕ} → First W ps k i → FirstBy (fault_of W) 0 ps k i
first_there F = record { inside = F.inside; fault = F.fault; bad = F.bad; before = clean_there F.before }

first_back : (W : Width) {ps : List ℕ} {k i : ℕ} → FirstBy (fault_of W) 0 ps k i → First W ps k i
first_back W F = record { inside = F.inside; fault = F.fault; bad = F.bad; before = clean_back W F.before }

module _ {W : Width} {ps : List ℕ} where
  pub clean_none : Clean W ps 0
  clean_none = clean_back W (none_by (fault_of W) 0 ps)

  pub clean_more : {i : ℕ} → Clean W ps i → fault_of W (get_or ps i 0) ≡ 0 → Clean W ps (suc i)
  clean_more C e = clean_back W (more_by (fault_of W) 0 ps (clean_there C) e)

  pub clean_fewer : {i n : ℕ} → Clean W ps n → i ≤ n → Clean W ps i
  clean_fewer C h = clean_back W (fewer_by (fault_of W) 0 ps (clean_there C) h)

module _ (W : Width) (ps : List ℕ) where
  pub found : Allowed W ps ⊎ Faulty W ps
  found = elim (found_by (fault_of W) 0 ps) [
    | inl C ↦ inl (clean_back W C)
    | inr F ↦ inr (F.0, F.1, first_back W F.2)
  ]

  pub first_good : (first_fault W ps 0 ≡ Good) ↔ Allowed W ps
  unfolding first_fault
  first_good = let g = good_by (fault_of W) 0 ps in (λ e. clean_back W (g.0 e), λ A. g.1 (clean_there A))

  pub first_refused : (k i : ℕ) → (first_fault W ps 0 ≡ Refused k i) ↔ First W ps k i
  unfolding first_fault
  first_refused k i = let r = refused_by (fault_of W) 0 ps k i in (λ e. first_back W (r.0 e), λ F. r.1 (first_there F))

  pub first_number : {k i : ℕ} → First W ps k i → (k ≡ 2) ⊎ (k ≡ 3)
  first_number {i = i} F = rw F.fault at (fault_number W (get_or ps i 0) (λ e. F.bad (sym F.fault ∙ e)))

-- ---- the numbers of an allowed list are of the format, and at most the limit
module _ {W : Width} {ps : List ℕ} (C : Allowed W ps) (i : ℕ) (h : i < length ps) where
  pub allowed_float : Number W.format (get_or (floats W ps) i nan)
  allowed_float = rw (map_at (of_bits W.format) ps i 0 nan) (allowed_number W (get_or ps i 0) (C.none i h))

  pub allowed_size : magnitude W.format (get_or (floats W ps) i nan) ≤ most W
  allowed_size = rw (map_at (of_bits W.format) ps i 0 nan) ((fault_0 W (get_or ps i 0)).0 (C.none i h)).1
