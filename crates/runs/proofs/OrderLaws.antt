-- The blocks of a round, each once: so in rising order, and in every permutation of it. Assumes nothing.
use Rattle.std.specs.Prelude.{◌≡◌, refl, Bool, true, false, ◌&&◌, ℕ, zero, suc, ◌-◌, ◌/◌, ◌%◌, ◌^◌, ◌≤◌, T}
use Rattle.std.proofs.Common.{sym, ap, ◌∙◌, one-mul, arith, eq-eqb, eqb-true}
use Rattle.std.proofs.Math.Logic.{∥∥₁_elim}
use mathlib.Core.List.Permᴰ
use mathlib.Core.List.{List, [], ◌∷◌, ◌++◌, append_assoc, append-nil, Perm}
use mathlib.Core.List.{Permᴰ}
use Rattle.std.proofs.Math.Nat.{sub_self}
use Rattle.std.proofs.Math.Dec.{T_prop}
use Rattle.std.specs.Float.Ieee.Fits.{and_i, and_l, and_r}
use Rattle.std.specs.Float.Ieee.Bits.{is_true}
use Rattle.lists.specs.Bitset.{has, without, full}
use Rattle.lists.proofs.BitsetLaws.{has_from, without_from, has_without, has_other}
use Rattle.walk.specs.Walk.{rising}
use Rattle.runs.specs.OrderLaws.{once}

-- ---- the rising order
front : (B j : ℕ) → j ≤ B → (rest : List ℕ) → once (2 ^ B - 2 ^ 0) (rising j ++ rest) ≡ once (2 ^ B - 2 ^ j) rest
unfolding rising once
front B zero h rest = refl
front B (suc j) h rest =
    ap (once (2 ^ B - 2 ^ 0)) (append_assoc (rising j) (j ∷ []) rest) ∙ front B j (omega arith) (j ∷ rest) ∙ rw (has_from h, without_from h)

pub once_rising : (B : ℕ) → T (once (full B) (rising B))
unfolding once
once_rising B =
    let e : once (full B) (rising B) ≡ true =
    ap (once (full B)) (sym (append-nil (rising B))) ∙ front B B (omega arith) [] ∙ eq-eqb (2 ^ B - 2 ^ B) 0 (sub_self (2 ^ B)) in
    rw e tt

-- ---- two members in either order
without_is : (P b : ℕ) → has P b ≡ true → without P b ≡ P - 2 ^ b
without_is P b h = rw (eqb-true (P / 2 ^ b % 2) 1 h, one-mul (2 ^ b))

module _ (P a b : ℕ) (h : has P a ≡ true) (k : has (without P a) b ≡ true) where
  apart : b ≡ a → ⊥
  apart e = let z : ◌≡◌ {A = Bool} true false = sym k ∙ rw e (has_without P a) in let c : ◌≡◌ {A = ℕ} 0 1 = cc in omega arith

  other : has P b ≡ true
  other = sym (has_other P a b apart) ∙ k

  pub back : has (without P b) a ≡ true
  back = has_other P b a (λ e. apart (sym e)) ∙ h

  pub commutes : without (without P a) b ≡ without (without P b) a
  commutes =
      without_is (without P a) b k
      ∙ ap (λ (s : ℕ). s - 2 ^ b) (without_is P a h)
      ∙ swapped (2 ^ a) (2 ^ b)
      ∙ sym (ap (λ (s : ℕ). s - 2 ^ a) (without_is P b other))
      ∙ sym (without_is (without P b) a back)
    where
      swapped : (u v : ℕ) → P - u - v ≡ P - v - u
      swapped u v = omega arith

-- ---- a permutation
pub once_same : {bs cs : List ℕ} → Permᴰ bs cs → (P : ℕ) → T (once P bs) → T (once P cs)
unfolding once
once_same Permᴰ.nil P t = t
once_same (Permᴰ.cons {a = a} {b = b} {l₁ = bs} {l₂ = cs} e d) P t =
    rw (← e) (and_i (has P a) (once (without P a) cs) (and_l (has P a) (once (without P a) bs) t)
    (once_same d (without P a) (and_r (has P a) (once (without P a) bs) t)))
once_same (Permᴰ.swap {a = a} {b = b} {l = l} e i) P t = rw (← e, ← i) (and_i (has P b) _ (rw (other P a b h k) tt)
    (and_i (has (without P b) a) _ (rw (back P a b h k) tt) (rw (commutes P a b h k) at rest)))
  where
    h : has P a ≡ true
    h = is_true (has P a) (and_l (has P a) _ t)

    after : T (has (without P a) b && once (without (without P a) b) l)
    after = and_r (has P a) _ t

    k : has (without P a) b ≡ true
    k = is_true (has (without P a) b) (and_l (has (without P a) b) _ after)

    rest : T (once (without (without P a) b) l)
    rest = and_r (has (without P a) b) _ after
once_same (Permᴰ.trans d c) P t = once_same c P (once_same d P t)

pub once_permuted : (B : ℕ) {bs : List ℕ} → Perm bs (rising B) → T (once (full B) bs)
once_permuted B {bs} π = ∥∥₁_elim π (T_prop (once (full B) bs)) (λ d. once_same (Permᴰ.symm d) (full B) (once_rising B))
