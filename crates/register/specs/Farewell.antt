-- What the theorems of proofs/Farewell.antt speak of. Definitions only.
use Rattle.std.specs.Prelude.{List, ◌∷◌, ◌++◌, ℕ}
use Rattle.register.specs.Entries.{Change, add, withdraw}

-- p joins after xs, leaves after ys, and zs follow; the same history without p
abbrev pub history : List Change → List Change → List Change → ℕ → List Change
history xs ys zs p = xs ++ (add p ∷ (ys ++ (withdraw p ∷ zs)))

abbrev pub stayed : List Change → List Change → List Change → List Change
stayed xs ys zs = xs ++ (ys ++ zs)
