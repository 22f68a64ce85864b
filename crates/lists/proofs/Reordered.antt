-- What a list in another order keeps: its length, and whether every member passes a test. Assumes nothing.
use Rattle.std.specs.Prelude.{◌≡◌, refl, Bool, true, false, ◌&&◌, suc, length}
use Rattle.std.proofs.Common.{sym, ap, ◌∙◌}
use Rattle.std.proofs.Math.Bool.{Bool-set}
use mathlib.Core.List.Perm
use mathlib.Core.List.{List, [], ◌∷◌, foldr, Perm}
use Rattle.std.proofs.Math.Nat.{ℕ_set}
use Rattle.lists.specs.Every.{every}

pub length_reordered : {A : Type 0} {xs ys : List A} → Perm xs ys → length xs ≡ length ys
length_reordered {A} {xs} {ys} π = sym (counted xs) ∙ Perm.foldr-eq ℕ_set (λ (x : A). suc) (λ a b n. refl) π 0 ∙ counted ys
  where
    counted : (zs : List A) → foldr (λ (x : A). suc) 0 zs ≡ length zs
    counted [] = refl
    counted (z ∷ zs) = ap suc (counted zs)

pub every_reordered : {A : Type 0} (test : A → Bool) {xs ys : List A} → Perm xs ys → every test xs ≡ every test ys
unfolding every
every_reordered {A} test {xs} {ys} π = sym (joined xs) ∙ Perm.foldr-eq Bool-set step (λ a b c. swap (test a) (test b) c) π true ∙ joined ys
  where
    step : A → Bool → Bool
    step x good = test x && good

    joined : (zs : List A) → foldr step true zs ≡ every test zs
    joined [] = refl
    joined (z ∷ zs) = ap (λ (good : Bool). test z && good) (joined zs)

    swap : (a b c : Bool) → (a && (b && c)) ≡ (b && (a && c))
    swap true b c = refl
    swap false true c = refl
    swap false false c = refl
