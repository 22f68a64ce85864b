-- What the theorems of proofs/AdmittedLaws.antt speak of. Definitions only.
use Rattle.std.specs.Prelude.{◌≡◌, true, List, ℕ, ◌+◌, ◌^◌, ◌≤◌, ◌<◌, length, Float}
use Rattle.lists.specs.Bitset.{has}
use Rattle.lists.specs.Each.{Each}
use Rattle.exponent.specs.Power.{power_of}
use Rattle.kinds.specs.Limits.{Width, exponent_of, blocks_of}
use Rattle.kinds.specs.State.{State}
use Rattle.sound.specs.Numbers.{FiniteWithin, Numbers}

pub record Admitted (W : Width) (top : ℕ) (s : State) (b : ℕ) (xs : List Float) : Type 0 where
  pub long : length xs ≡ s.n
  pub numbers : Numbers W s
  pub e : ℕ
  pub low : e ≤ top
  pub sigma : s.sigma ≡ power_of W.format (exponent_of s.n + e)
  pub work : Each (FiniteWithin W.format (2 ^ e)) xs
  pub below : s.pending < 2 ^ blocks_of W s.n
  pub inside : b < blocks_of W s.n
  pub pending : has s.pending b ≡ true
