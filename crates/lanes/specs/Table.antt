-- Lanes with room; and when each answer to an addition or a withdrawal is given, and what it leaves. Definitions only.
use Rattle.std.specs.Prelude.{◌≡◌, List, ℕ, ◌+◌, ◌^◌, ◌≤◌, ◌<◌, ℤ, pos, nat_abs, length, get_or}
use Rattle.lists.specs.Each.{Each}
use Rattle.kinds.specs.Limits.{doubles}
use Rattle.judge.specs.Judge.{fault_of}
use Rattle.lanes.specs.Laid.{Laid}
use Rattle.lanes.specs.Laid.{Counted, Refused}
use Rattle.lanes.specs.Lanes.{lane_bits, lane_count, most_calls, lane_limit, digits_of, plus_lanes}

-- what one call puts into a lane
abbrev pub Small : ℤ → Type 0
Small d = nat_abs d < 2 ^ lane_bits

-- rule N4: no more calls than lanes can take, and in each lane no more than so many calls may have left
abbrev pub WithinLimit : ℕ → ℤ → Type 0
WithinLimit calls z = nat_abs z ≤ lane_limit calls

pub record Roomy (calls : ℕ) (zs : List ℤ) : Type 0 where
  pub few : calls ≤ most_calls
  pub lanes : Each (WithinLimit calls) zs

-- ---- rule O13: the table of an addition and of a withdrawal, a row for each answer, 2 and 3 at place 0, the others without a place
pub data LayWhen (zs : List ℤ) (calls p : ℕ) : Laid → Type 0 where
  counted : length zs ≡ lane_count → Roomy calls zs → fault_of doubles p ≡ 0 → calls < most_calls → LayWhen zs calls p (Counted (calls + 1))
  -- rule R4
  wrong_length : (length zs ≡ lane_count → ⊥) → LayWhen zs calls p (Refused 4 0)
  -- rule R25
  no_room : length zs ≡ lane_count → (Roomy calls zs → ⊥) → LayWhen zs calls p (Refused 25 0)
  -- rules R2 and R3
  bad_number : length zs ≡ lane_count → Roomy calls zs → (fault_of doubles p ≡ 0 → ⊥) → LayWhen zs calls p (Refused (fault_of doubles p) 0)
  -- rule R24
  too_many : length zs ≡ lane_count → Roomy calls zs → fault_of doubles p ≡ 0 → calls ≡ most_calls → LayWhen zs calls p (Refused 24 0)

-- rule A1: the lanes afterwards, z what their whole number changes by
abbrev pub lanes_after : List ℤ → ℤ → Laid → List ℤ
lanes_after zs z (Counted n) = plus_lanes zs (digits_of z)
lanes_after zs z (Refused k i) = zs

-- rule N3: ys are the lanes zs in every place but k and the next two
pub record ButThree (k : ℕ) (zs ys : List ℤ) : Type 0 where
  pub within : k + 2 < lane_count
  pub below : (i : ℕ) → i < k → get_or ys i (pos 0) ≡ get_or zs i (pos 0)
  pub above : (i : ℕ) → k + 2 < i → get_or ys i (pos 0) ≡ get_or zs i (pos 0)
