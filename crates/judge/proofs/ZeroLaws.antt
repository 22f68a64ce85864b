-- Rule S3's zero: its sign is negative exactly where the list is nothing but -0, its pattern is each exactly then, and what a look at one pattern after the
-- other ends with. Assumes nothing.
use Rattle.std.specs.Prelude.{◌≡◌, refl, ◌↔◌, Bool, true, false, ℕ, ◌≤◌, ◌<◌, pos, length, get_or}
use Rattle.std.proofs.Math.Path.{sym}
use Rattle.std.proofs.Common.{◌∙◌}
use Rattle.std.proofs.Math.Bool.{and-true, and-false, and-eq-true_iff}
use mathlib.Core.List.{List, [], ◌∷◌}
use borrow.Author.Tests.{ltb-true, lt-ltb, eqb-true, eq-eqb, ne_eqb}
use Rattle.std.proofs.Math.Dec.{ltb, eqb}
use Rattle.std.proofs.Math.Seq.{drop-cons}
use Rattle.std.specs.List.{list_all}
use Rattle.std.proofs.Common.{arith}
use Rattle.std.proofs.lemmas.Bool.Decides.{nat_tests}
use Rattle.std.specs.Float.Ieee.{to_bits}
use Rattle.ieee.specs.Units.{nearest_float}
use Rattle.ieee.proofs.Zeros.{zero_bits}
use Rattle.lists.proofs.Apart.{apart}
use Rattle.lists.specs.Each.{Each}
use Rattle.lists.specs.Every.{every, Looked, looked_all}
use Rattle.kinds.specs.Limits.{Width}
use Rattle.kinds.proofs.Hearing.{exactly}
use Rattle.judge.specs.Judge.{minus_pattern, zero_sign}
use Rattle.judge.specs.Table.{MinusZeros, ZeroWhen, minus, plus}

module _ (W : Width) where
  -- ---- exactly when
  every_minus : (ps : List ℕ) → (every (eqb (minus_pattern W)) ps ≡ true) ↔ Each (λ p. p ≡ minus_pattern W) ps
  unfolding every
  every_minus [] = (λ e. tt, λ h. refl)
  every_minus (p ∷ ps) =
      let here = eqb (minus_pattern W) p in
      let rest = every (eqb (minus_pattern W)) ps in (
        λ e. let h = (and-eq-true_iff here rest).0 e in (sym (eqb-true (minus_pattern W) p h.0), (every_minus ps).0 h.1),
        λ h. (and-eq-true_iff here rest).1 (eq-eqb (minus_pattern W) p (sym h.0), (every_minus ps).1 h.1),
      )

  pub zero_sign_lem : (ps : List ℕ) → (zero_sign W ps ≡ true) ↔ MinusZeros W ps
  unfolding zero_sign
  zero_sign_lem ps =
      let some = ltb 0 (length ps) in
      let all = every (eqb (minus_pattern W)) ps in (
        λ e.
            let h = (and-eq-true_iff some all).0 e in
            record { some = ltb-true 0 (length ps) h.0; each = (every_minus ps).0 h.1 },
        λ h. (and-eq-true_iff some all).1 (lt-ltb 0 (length ps) h.some, (every_minus ps).1 h.each),
      )

  pub zero_plus : (ps : List ℕ) → (zero_sign W ps ≡ false) ↔ (MinusZeros W ps → ⊥)
  zero_plus ps = (
    λ e h. let z : true ≡ false = sym ((zero_sign_lem ps).1 h) ∙ e in apart (cc),
    λ h. otherwise (zero_sign W ps) (λ e. h ((zero_sign_lem ps).0 e)),
  )
    where
      otherwise : (b : Bool) → (b ≡ true → ⊥) → b ≡ false
      otherwise true h = absurd (h refl)
      otherwise false h = refl

  -- the zero's pattern
  pub zero_when : (ps : List ℕ) (p : ℕ) → (to_bits W.format (nearest_float W.format (zero_sign W ps) (pos 0)) ≡ p) ↔ ZeroWhen W ps p
  zero_when ps = exactly (to_bits W.format (nearest_float W.format (zero_sign W ps) (pos 0))) (ZeroWhen W ps) (λ p. row) (some (zero_sign W ps) refl)
    where
      row : {p : ℕ} → ZeroWhen W ps p → to_bits W.format (nearest_float W.format (zero_sign W ps) (pos 0)) ≡ p
      row (minus h) = rw ((zero_sign_lem ps).1 h) (zero_bits W.format true)
      row (plus h) = rw ((zero_plus ps).1 h) (zero_bits W.format false)

      some : (z : Bool) → zero_sign W ps ≡ z → (p : ℕ) × ZeroWhen W ps p
      some true e = (_, minus ((zero_sign_lem ps).0 e))
      some false e = (_, plus ((zero_plus ps).0 e))

  -- ---- every pattern looked at for the sign alone
  pub all_minus : (ps : List ℕ) → list_all (λ p. eqb p (minus_pattern W)) ps ≡ every (eqb (minus_pattern W)) ps
  unfolding every
  all_minus [] = refl
  all_minus (p ∷ ps) = rw (turned p (minus_pattern W), all_minus ps) refl
    where
      turned : (a b : ℕ) → eqb a b ≡ eqb b a
      turned a b = grind (arith, nat_tests)

  pub sign_of_all : (ps : List ℕ) → list_all (λ p. eqb p (minus_pattern W)) ps ≡ true → (some : Bool) → some ≡ ltb 0 (length ps) → some ≡ zero_sign W ps
  unfolding zero_sign
  sign_of_all ps h some e = e ∙ rw (← (all_minus ps), h) (sym (and-true (ltb 0 (length ps))))

  pub sign_of_other : (ps : List ℕ) → list_all (λ p. eqb p (minus_pattern W)) ps ≡ false → false ≡ zero_sign W ps
  unfolding zero_sign
  sign_of_other ps h = rw (← (all_minus ps), h) (sym (and-false (ltb 0 (length ps))))

  -- ---- the patterns before place i were looked at, and each is that of -0
  module _ (ps : List ℕ) (i : ℕ) (L : Looked (eqb (minus_pattern W)) ps true i) where
    pub sign_stops : i < length ps → (get_or ps i 0 ≡ minus_pattern W → ⊥) → false ≡ zero_sign W ps
    unfolding zero_sign every
    sign_stops l h =
        sym (rw (L.rest, drop-cons ps i 0 l, ne_eqb (minus_pattern W) (get_or ps i 0) (λ e. h (sym e))) (and-false (ltb 0 (length ps))))

    pub sign_ends : length ps ≤ i → ltb 0 (length ps) ≡ zero_sign W ps
    unfolding zero_sign
    sign_ends l = rw (← (looked_all L l)) (sym (and-true (ltb 0 (length ps))))
