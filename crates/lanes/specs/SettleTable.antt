-- When each answer to a settling is given, and what it leaves. Definitions only.
use Rattle.std.specs.Prelude.{◌≡◌, true, false, List, ℕ, ℤ, length}
use Rattle.lists.specs.Digits.{inside}
use Rattle.kinds.specs.Heard.{count}
use Rattle.words.specs.Words.{word_count, register_bits, words_of}
use Rattle.lanes.specs.Laid.{Laid}
use Rattle.lanes.specs.Laid.{Counted, Refused}
use Rattle.lanes.specs.Lanes.{lane_count, lane_sum, settled_lanes, Settling, laid_heard}
use Rattle.lanes.specs.Table.{Roomy}

-- rule O14: the table, a row for each answer. None tells a place.
pub record TwoAreas (zs : List ℤ) (ws : List ℕ) : Type 0 where
  pub first : length zs ≡ lane_count
  pub second : length ws ≡ word_count

pub data SettleWhen (zs : List ℤ) (calls : ℕ) (ws : List ℕ) : Laid → Type 0 where
  settles : TwoAreas zs ws → Roomy calls zs → inside register_bits (lane_sum zs) ≡ true → SettleWhen zs calls ws (Counted 0)
  -- rule R4
  wrong_length : (TwoAreas zs ws → ⊥) → SettleWhen zs calls ws (Refused 4 0)
  -- rule R25
  no_room : TwoAreas zs ws → (Roomy calls zs → ⊥) → SettleWhen zs calls ws (Refused 25 0)
  -- rule R9
  out_of_range : TwoAreas zs ws → Roomy calls zs → inside register_bits (lane_sum zs) ≡ false → SettleWhen zs calls ws (Refused 9 0)

-- the lanes and the words afterwards
abbrev pub lanes_settled : List ℤ → Laid → List ℤ
lanes_settled zs (Counted n) = settled_lanes (lane_sum zs)
lanes_settled zs (Refused k i) = zs

abbrev pub words_settled : List ℤ → List ℕ → Laid → List ℕ
words_settled zs ws (Counted n) = words_of (lane_sum zs)
words_settled zs ws (Refused k i) = ws

-- what is heard of a settling that is accepted, and that it leaves these lanes and words
pub record SettledTo (s : Settling) (zs : List ℤ) (ws : List ℕ) : Type 0 where
  pub heard : laid_heard s.answer ≡ count 0
  pub lanes : s.lanes ≡ zs
  pub words : s.words ≡ ws
