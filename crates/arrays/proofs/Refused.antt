-- What a refused call is asked for, of each refusal that it may be. Assumes nothing.
use Rattle.std.specs.Prelude.{◌≡◌, refl, ℕ, ◌≤◌, Result, Ok, Err, IfErr}
use Rattle.kinds.specs.declared.refusal.Refusal.{Refusal}
use Rattle.kinds.specs.Refusals.{place}

pub if_refused : {A : Type 0} {n : ℕ} (r : Result A Refusal) → ((q : Refusal) → r ≡ Err q → place q ≤ n) → IfErr r (λ q. place q ≤ n)
if_refused (Ok x) h = tt
if_refused (Err q) h = h q refl
