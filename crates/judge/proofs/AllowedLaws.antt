-- Allowed lists by their members: one number more, and two lists joined. Assumes nothing.
use Rattle.std.specs.Prelude.{◌≡◌, List, [], ◌∷◌, ◌++◌, ℕ, zero, suc, ◌<◌, length, get_or}
use Rattle.std.proofs.Common.{arith}
use Rattle.kinds.specs.Limits.{Width}
use Rattle.judge.specs.Judge.{fault_of}
use Rattle.judge.specs.Table.{Allowed}

module _ {W : Width} where
  pub allowed_none : Allowed W []
  allowed_none = record { none = λ j h. absurd (omega arith) }

  pub allowed_first : {p : ℕ} {ps : List ℕ} → Allowed W (p ∷ ps) → fault_of W p ≡ 0
  allowed_first A = A.none 0 (omega arith)

  pub allowed_rest : {p : ℕ} {ps : List ℕ} → Allowed W (p ∷ ps) → Allowed W ps
  allowed_rest A = record { none = λ j h. A.none (suc j) (omega arith) }

  pub allowed_more : {p : ℕ} {ps : List ℕ} → fault_of W p ≡ 0 → Allowed W ps → Allowed W (p ∷ ps)
  allowed_more {p} {ps} e A = record { none = at }
    where
      at : (j : ℕ) → j < length (p ∷ ps) → fault_of W (get_or (p ∷ ps) j 0) ≡ 0
      at zero h = e
      at (suc j) h = A.none j (omega arith)

  -- ---- two lists joined
  pub allowed_join : (ps : List ℕ) {qs : List ℕ} → Allowed W ps → Allowed W qs → Allowed W (ps ++ qs)
  allowed_join [] A B = B
  allowed_join (p ∷ ps) A B = allowed_more (allowed_first A) (allowed_join ps (allowed_rest A) B)

  pub allowed_left : (ps qs : List ℕ) → Allowed W (ps ++ qs) → Allowed W ps
  allowed_left [] qs A = allowed_none
  allowed_left (p ∷ ps) qs A = allowed_more (allowed_first A) (allowed_left ps qs (allowed_rest A))

  pub allowed_right : (ps qs : List ℕ) → Allowed W (ps ++ qs) → Allowed W qs
  allowed_right [] qs A = A
  allowed_right (p ∷ ps) qs A = allowed_right ps qs (allowed_rest A)
