-- Tau in eight sums: what each of them gathers, and what they are added up to. Definitions only.
use Rattle.std.specs.Prelude.{List, [], ◌∷◌, ℕ, zero, suc, ◌*◌, ◌/◌, length, take, drop, get_or, Float}
use Rattle.std.specs.Float.{Format, nan}
use Rattle.std.specs.Float.Ieee.{add}
use Rattle.extract.specs.Extract.{plus_zero, high_part, gathered}

-- the high part of each number, added to a sum of its own
unfoldable pub spread : Format → Float → List Float → List Float → List Float
spread f sigma [] xs = []
spread f sigma (t ∷ ts) [] = t ∷ ts
spread f sigma (t ∷ ts) (x ∷ xs) = add f t (high_part f sigma x) ∷ spread f sigma ts xs

-- +0 in each of the eight, and then eight numbers at a time
abbrev pub no_sums : Format → List Float
no_sums f = let z = plus_zero f in z ∷ z ∷ z ∷ z ∷ z ∷ z ∷ z ∷ z ∷ []

unfoldable pub spreads : Format → Float → List Float → ℕ → List Float
spreads f sigma xs zero = no_sums f
spreads f sigma xs (suc i) = spread f sigma (spreads f sigma xs i) (take 8 (drop (8 * i) xs))

-- the eight sums in one
unfoldable pub joined : Format → List Float → Float
joined f ts =
    let t : ℕ → Float = λ k. get_or ts k nan in
    add f (add f (add f (t 0) (t 1)) (add f (t 2) (t 3))) (add f (add f (t 4) (t 5)) (add f (t 6) (t 7)))

-- all of xs: what is behind the last eight is gathered in one sum
abbrev pub grouped : Format → Float → List Float → Float
grouped f sigma xs = gathered f sigma (joined f (spreads f sigma xs (length xs / 8))) (drop (8 * (length xs / 8)) xs)
