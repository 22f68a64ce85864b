-- What the theorems of proofs/Readable.antt speak of. Definitions only.
use Rattle.std.specs.Prelude.{◌≡◌, true, List, ℕ, ◌^◌, ◌<◌, get_or}
use Rattle.std.specs.Float.{Format}
use Rattle.step_calls.specs.Inner.{number}

pub record Fields (f : Format) (ns : List ℕ) : Type 0 where
  pub rounds : get_or ns 6 0 < 2 ^ 32
  pub ensemble : get_or ns 7 0 < 2 ^ 32
  pub sigma : number f (get_or ns 1 0) ≡ true
  pub t : number f (get_or ns 2 0) ≡ true
  pub tau : number f (get_or ns 3 0) ≡ true
  pub largest : number f (get_or ns 8 0) ≡ true
