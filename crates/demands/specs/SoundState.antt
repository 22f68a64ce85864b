-- A sound state in propositions, clause by clause: rules WS3 to WS8 and WS15; and the lowest place whose number isn't sound. Definitions only.
use Rattle.std.specs.Prelude.{◌≡◌, true, false, List, ℕ, ◌*◌, ◌^◌, ◌≤◌, ◌<◌, T, length, get_or, Float}
use Rattle.std.specs.Float.{nan, Format}
use Rattle.std.specs.Float.Ieee.Scale.{finite}
use Rattle.ieee.specs.Units.{magnitude}
use Rattle.lists.specs.Bitset.{has}
use Rattle.lists.specs.Each.{Each}
use Rattle.kinds.specs.Limits.{Width, exponent_of, blocks_of}
use Rattle.kinds.specs.State.{State}
use Rattle.sound.specs.Numbers.{Numbers}

-- rule WS8 for one number
pub record WorkNumber (f : Format) (M : ℕ) (sigma x : Float) : Type 0 where
  pub fini : T (finite x)
  pub small : 2 ^ M * magnitude f x ≤ magnitude f sigma

abbrev pub SoundPlace : Width → State → Float → Type 0
SoundPlace W s x = WorkNumber W.format (exponent_of s.n) s.sigma x

-- rule WS5
pub record SoundSet (W : Width) (s : State) : Type 0 where
  pub some : (b : ℕ) × (has s.pending b ≡ true)
  pub inside : (b : ℕ) → blocks_of W s.n ≤ b → has s.pending b ≡ false

pub record SoundState (W : Width) (s : State) (xs : List Float) : Type 0 where
  -- rules WS3, WS4, WS6, WS7 and WS15: each is a field of `sound/Numbers`
  pub numbers : Numbers W s
  pub set : SoundSet W s
  -- rule WS8
  pub work : Each (SoundPlace W s) xs

-- rule R19: i is the lowest place whose number isn't sound
pub record FirstUnsound (W : Width) (s : State) (xs : List Float) (i : ℕ) : Type 0 where
  pub inside : i < length xs
  pub bad : SoundPlace W s (get_or xs i nan) → ⊥
  pub before : (j : ℕ) → j < i → SoundPlace W s (get_or xs j nan)
