-- When each code of a C call on arrays is returned, and what is left where it isn't 0. Definitions only.
use Rattle.std.specs.Prelude.{◌≡◌, ◌↔◌, List, ℕ, ◌+◌, ◌≤◌, ◌<◌, length}
use Rattle.kinds.specs.Limits.{Width}
use Rattle.kinds.specs.Heard.{Place, Heard, refused}
use Rattle.calls.specs.Calls.{place_code}
use Rattle.arrays.specs.Arrays.{Returned}

-- what is heard is no refusal
abbrev pub Accepts : Heard → Type 0
Accepts h = (k : ℕ) (p : Place) → h ≡ refused k p → ⊥

-- of a call of the library: 0 where it accepts, else its refusal's number with the place that it tells
pub data HeardWhen (h : Heard) : ℕ → Type 0 where
  accepts : Accepts h → HeardWhen h 0
  refuses : (k : ℕ) (p : Place) → h ≡ refused k p → HeardWhen h (k + place_code p)

-- of a call that writes values to an array of L numbers and asks for n of them: as the library's own where they are n, and `other` where they aren't
pub data CodeWhen (n L other : ℕ) (h : Heard) (c : ℕ) : Type 0 where
  right_length : L ≡ n → HeardWhen h c → CodeWhen n L other h c
  other_length : (L ≡ n → ⊥) → c ≡ other → CodeWhen n L other h c

-- each code exactly when, and 0 exactly when the library's own call accepts and the array has its length
pub record Coded (n L other : ℕ) (h : Heard) (code : ℕ) : Type 0 where
  pub each : (c : ℕ) → (code ≡ c) ↔ CodeWhen n L other h c
  pub zero : (code ≡ 0) ↔ ((L ≡ n) × Accepts h)

-- `other` for a list: 1 for a list that is too long, and 4 for the array itself
pub data ListOther (W : Width) (ps : List ℕ) : ℕ → Type 0 where
  too_many : W.length < length ps → ListOther W ps 1
  otherwise : length ps ≤ W.length → ListOther W ps 4

-- every array is as it was
pub record Left {X : Type 0} (w : Returned X) (xs : List X) (vs : List ℕ) : Type 0 where
  pub area : w.area ≡ xs
  pub values : w.values ≡ vs
