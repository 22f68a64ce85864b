-- At either width a float is one of the definitions, and a pattern a number: a list of them is as it was. Assumes nothing.
use Rattle.std.specs.Prelude.{◌≡◌, refl, List, [], ◌∷◌, map}
use Rattle.std.proofs.Common.{ap}

pub each_itself : {A : Type 0} (xs : List A) → xs ≡ map (λ x. x) xs
each_itself [] = refl
each_itself (x ∷ xs) = ap (λ (ys : List _). x ∷ ys) (each_itself xs)
