-- Rule H9: a mark is 0, 1 or 2 exactly as the number is allowed, not finite, or finite and too large; and the entries marked 0 are those that are kept, in
-- their order. Assumes nothing.
use Rattle.std.specs.Prelude.{◌≡◌, ◌⊎◌, ◌↔◌, Bool, not, ◌&&◌, ℕ, ◌+◌, ◌≤◌, ◌<◌, T, eqb, length}
use Rattle.std.proofs.Math.Path.{refl, ap}
use Rattle.std.proofs.Common.{sym, ◌∙◌, inl, inr}
use Rattle.std.proofs.Math.Bool.{true, false, cond}
use mathlib.Core.List.{List, [], ◌∷◌, map}
use Rattle.std.proofs.Math.Decide.{ℕ_discrete}
use Rattle.std.specs.Float.Ieee.Scale.{finite}
use Rattle.std.proofs.Math.ListN.{replicate}
use Rattle.lists.proofs.Apart.{apart}
use Rattle.lists.specs.Every.{every}
use Rattle.lists.specs.Filter.{filter}
use Rattle.kinds.specs.Limits.{Width}
use Rattle.judge.specs.Judge.{fault_of}
use Rattle.judge.specs.Table.{float_of, size_of, most}
use Rattle.judge.specs.FaultLaws.{fault_0, fault_2, fault_3, fault_number}
use Rattle.judge.specs.FaultlessLaws.{faultless}
use Rattle.rescue.specs.Rescue.{kept_of, fault_mark, mark_of, marked_kept}

-- the fault that a mark tells
unmarked : ℕ → ℕ
unmarked m = cond (eqb m 0) 0 (m + 1)

back : (k : ℕ) → (k ≡ 0) ⊎ ((k ≡ 2) ⊎ (k ≡ 3)) → unmarked (fault_mark k) ≡ k
unfolding unmarked
back k (inl e) = rw e
back k (inr (inl e)) = rw e
back k (inr (inr e)) = rw e

module _ (W : Width) (p : ℕ) where
  fault_back : unmarked (mark_of W p) ≡ fault_of W p
  fault_back = back (fault_of W p) (elim (ℕ_discrete (fault_of W p) 0) [ yes e ↦ inl e | no n ↦ inr (fault_number W p n) ])

  pub mark_0 : (mark_of W p ≡ 0) ↔ (T (finite (float_of W p)) × (size_of W p ≤ most W))
  unfolding unmarked
  mark_0 = (λ e. (fault_0 W p).0 (sym fault_back ∙ ap unmarked e), λ h. rw ((fault_0 W p).1 h))

  pub mark_1 : (mark_of W p ≡ 1) ↔ T (not (finite (float_of W p)))
  unfolding unmarked
  mark_1 = (λ e. (fault_2 W p).0 (sym fault_back ∙ ap unmarked e), λ h. rw ((fault_2 W p).1 h))

  pub mark_2 : (mark_of W p ≡ 2) ↔ (T (finite (float_of W p)) × (most W < size_of W p))
  unfolding unmarked
  mark_2 = (λ e. (fault_3 W p).0 (sym fault_back ∙ ap unmarked e), λ h. rw ((fault_3 W p).1 h))

-- ---- the marks of a list
module _ (W : Width) where
  pub kept_marked : (ps : List ℕ) → kept_of W ps ≡ marked_kept (map (mark_of W) ps) ps
  unfolding filter marked_kept
  kept_marked [] = refl
  kept_marked (p ∷ ps) = go (fault_of W p) (kept_marked ps)
    where
      go : (k : ℕ) {xs ys : List ℕ} → xs ≡ ys → cond (eqb k 0) (p ∷ xs) xs ≡ cond (eqb (fault_mark k) 0) (p ∷ ys) ys
      go k {xs} {ys} e = by (eqb k 0) (eqb k 2)
        where
          by : (a b : Bool) → cond a (p ∷ xs) xs ≡ cond (eqb (cond a 0 (cond b 1 2)) 0) (p ∷ ys) ys
          by true b = ap (λ (l : List ℕ). p ∷ l) e
          by false true = e
          by false false = e

  pub allowed_marks : (ps : List ℕ) → faultless W ps ≡ true → map (mark_of W) ps ≡ replicate (length ps) 0
  unfolding every
  allowed_marks [] h = refl
  allowed_marks (p ∷ ps) h = go (eqb (fault_of W p) 0) (eqb (fault_of W p) 2) h (allowed_marks ps)
    where
      go : (a b : Bool) → (a && faultless W ps) ≡ true → (faultless W ps ≡ true → map (mark_of W) ps ≡ replicate (length ps) 0)
          → cond a 0 (cond b 1 2) ∷ map (mark_of W) ps ≡ 0 ∷ replicate (length ps) 0
      go true b h f = ap (λ (l : List ℕ). 0 ∷ l) (f h)
      go false b h f = apart (cc)
