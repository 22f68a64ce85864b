-- The greatest pattern of a list, the sign taken off: of a list in pieces, and that no pattern has a fault where it is at most the limit's. Assumes nothing.
use Rattle.std.specs.Prelude.{◌≡◌, ℕ, ◌+◌, ◌*◌, ◌%◌, ◌≤◌, ◌<◌, max, take, drop}
use Rattle.std.proofs.Math.Path.{refl}
use Rattle.std.proofs.Common.{ap, sym, ◌∙◌, eq-eqb, take-append-drop, drop-drop}
use mathlib.Core.List.{List, [], ◌∷◌, ◌++◌, foldr}
use native.Mathlib.Omega.{arith}
use Rattle.std.specs.Float.Ieee.{ones, hid, top}
use Rattle.kinds.specs.Limits.{Width}
use Rattle.kinds.specs.Verdict.{Good}
use Rattle.judge.specs.Judge.{fault_of, first_fault}
use Rattle.judge.specs.FaultLaws.{pattern_0}

-- 0 of no pattern
unfoldable pub greatest : Width → List ℕ → ℕ
greatest W ps = foldr (λ p m. max (p % top W.format) m) 0 ps

-- of four lists
abbrev pub greatest_of_four : Width → List ℕ → List ℕ → List ℕ → List ℕ → ℕ
greatest_of_four W a b c d = max (max (greatest W a) (greatest W b)) (max (greatest W c) (greatest W d))

max_assoc : (a b c : ℕ) → max (max a b) c ≡ max a (max b c)
max_assoc a b c = omega arith

max_chain : (a b c d e : ℕ) → max (max (max a b) (max c d)) e ≡ max a (max b (max c (max d e)))
max_chain a b c d e =
    max_assoc (max a b) (max c d) e ∙ max_assoc a b (max (max c d) e) ∙ ap (λ (x : ℕ). max a (max b x)) (max_assoc c d e)

max_swap : (a b c d : ℕ) → max (max a b) (max c d) ≡ max (max a c) (max b d)
max_swap a b c d = omega arith

module _ (W : Width) where
  pub greatest_none : greatest W [] ≡ 0
  unfolding greatest
  greatest_none = refl

  greatest_join : (ps qs : List ℕ) → greatest W (ps ++ qs) ≡ max (greatest W ps) (greatest W qs)
  unfolding greatest
  greatest_join [] qs = omega arith
  greatest_join (p ∷ ps) qs = rw (greatest_join ps qs) (omega arith)

  pub greatest_next : (ps : List ℕ) (p : ℕ) → greatest W (ps ++ (p ∷ [])) ≡ max (greatest W ps) (p % top W.format)
  unfolding greatest
  greatest_next ps p = greatest_join ps (p ∷ []) ∙ omega arith

  -- the first k and the others
  greatest_cut : (k : ℕ) (ps : List ℕ) → greatest W ps ≡ max (greatest W (take k ps)) (greatest W (drop k ps))
  greatest_cut k ps = ap (greatest W) (sym (take-append-drop k ps)) ∙ greatest_join (take k ps) (drop k ps)

  -- four pieces of k, and what is left
  pub greatest_quarters : (k : ℕ) (ps : List ℕ)
      → max (greatest_of_four W (take k ps) (take k (drop k ps)) (take k (drop (2 * k) ps)) (take k (drop (3 * k) ps))) (greatest W (drop (4 * k) ps))
      ≡ greatest W ps
  greatest_quarters k ps =
      max_chain _ _ _ _ _
      ∙ (λ i. max (greatest W (take k ps)) (max (greatest W (take k (drop k ps))) (max (greatest W (take k (drop (2 * k) ps))) (sym (next 3) i))))
      ∙ (λ i. max (greatest W (take k ps)) (max (greatest W (take k (drop k ps))) (sym (next 2) i)))
      ∙ (λ i. max (greatest W (take k ps)) (sym first i))
      ∙ sym (greatest_cut k ps)
    where
      next : (j : ℕ) → greatest W (drop (j * k) ps) ≡ max (greatest W (take k (drop (j * k) ps))) (greatest W (drop ((j + 1) * k) ps))
      next j = let e : j * k + k ≡ (j + 1) * k = omega arith in greatest_cut k (drop (j * k) ps) ∙ rw (drop-drop, e)

      first : greatest W (drop k ps) ≡ max (greatest W (take k (drop k ps))) (greatest W (drop (2 * k) ps))
      first = let e : k + k ≡ 2 * k = omega arith in greatest_cut k (drop k ps) ∙ rw (drop-drop, e)

  -- a turn of the loop over four
  pub four_next : (a b c d : List ℕ) (p q r s : ℕ)
      → max (greatest_of_four W a b c d) (max (max (p % top W.format) (q % top W.format)) (max (r % top W.format) (s % top W.format)))
      ≡ greatest_of_four W (a ++ (p ∷ [])) (b ++ (q ∷ [])) (c ++ (r ∷ [])) (d ++ (s ∷ []))
  four_next a b c d p q r s = rw (greatest_next a p, greatest_next b q, greatest_next c r, greatest_next d s)
      (max_swap _ _ _ _ ∙ (λ i. max (max_swap (greatest W a) (greatest W b) (p % top W.format) (q % top W.format) i)
      (max_swap (greatest W c) (greatest W d) (r % top W.format) (s % top W.format) i)))

  -- none is above the limit's
  pub greatest_good : W.magnitude < ones W.format * hid W.format → (ps : List ℕ) (k : ℕ) → greatest W ps ≤ W.magnitude → first_fault W ps k ≡ Good
  unfolding greatest first_fault
  greatest_good proper [] k h = refl
  greatest_good proper (p ∷ ps) k h =
      rw (eq-eqb (fault_of W p) 0 (pattern_0 W proper p (omega arith))) (greatest_good proper ps (k + 1) (omega arith))
