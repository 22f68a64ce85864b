-- What the theorems of proofs/Filter.antt speak of. Definitions only.
use Rattle.std.specs.Prelude.{◌≡◌, Bool, not, drop}
use Rattle.std.proofs.Math.Bool.{cond}
use mathlib.Core.List.{List, [], ◌∷◌}
use Prim.Native.Nat.{ℕ, ◌≤◌}
use Rattle.std.proofs.Math.ListN.{length}

unfoldable pub filter : {A : Type 0} → (A → Bool) → List A → List A
filter test [] = []
filter test (x ∷ xs) = cond (test x) (x ∷ filter test xs) (filter test xs)

-- those that don't pass
abbrev pub others : {A : Type 0} → (A → Bool) → List A → List A
others {A} test xs = filter (λ (x : A). not (test x)) xs

-- ---- the places before i have been looked at, and k of them passed
pub record Sifted {A : Type 0} (test : A → Bool) (xs : List A) (k i : ℕ) : Type 0 where
  pub inside : k ≤ length (filter test xs)
  pub rest : drop k (filter test xs) ≡ filter test (drop i xs)
