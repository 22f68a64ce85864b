-- Runs of additions, withdrawals and settlings on lanes. Definitions only.
use Rattle.std.specs.Prelude.{◌≡◌, List, [], ◌∷◌, ℕ, ◌+◌, ℤ}
use Rattle.kinds.specs.Heard.{nowhere, refused, count}
use Rattle.register.specs.Entries.{Change, pattern_of, change_of}
use Rattle.lanes.specs.Laid.{Laid}
use Rattle.lanes.specs.Laid.{Counted, Refused}
use Rattle.lanes.specs.Lanes.{no_lanes, digits_of, plus_lanes, Laying, lay, settled, laid_heard}

-- one call: `lane_added` or `lane_withdrawn`, of its pattern
abbrev pub lane_changed : List ℤ → ℕ → Change → Laying
lane_changed zs calls c = lay zs calls (pattern_of c) (change_of c)

-- what a caller keeps: the lanes, how many calls they took since they were settled, and the area for the words
pub record LaneRegister : Type 0 where
  pub lanes : List ℤ
  pub calls : ℕ
  pub words : List ℕ

-- rule N6: before the first call
abbrev pub begun : List ℕ → LaneRegister
begun ws = record { lanes = no_lanes; calls = 0; words = ws }

-- the count that comes back, or the one that was handed in where the call is refused
abbrev pub count_after : ℕ → Laid → ℕ
count_after calls (Counted n) = n
count_after calls (Refused k i) = calls

-- an addition or a withdrawal, or a settling
pub data Act : Type 0 where
  change : Change → Act
  settle : Act

abbrev pub acted : LaneRegister → Act → LaneRegister
acted r (change c) =
    let o = lane_changed r.lanes r.calls c in record { lanes = o.area; calls = count_after r.calls o.answer; words = r.words }
acted r settle =
    let s = settled r.lanes r.calls r.words in record { lanes = s.lanes; calls = count_after r.calls s.answer; words = s.words }

-- and what is kept after all of them, each given what the one before has left
unfoldable pub lane_run : LaneRegister → List Act → LaneRegister
lane_run r [] = r
lane_run r (a ∷ hs) = lane_run (acted r a) hs

-- the additions and withdrawals among them: the calls of the first form
unfoldable pub changes_of : List Act → List Change
changes_of [] = []
changes_of (change c ∷ hs) = c ∷ changes_of hs
changes_of (settle ∷ hs) = changes_of hs

-- ---- rule N8: none of the additions and withdrawals is refused, and the lanes that they leave: each lane with the digit of each of them
unfoldable pub AllCounted : LaneRegister → List Change → Type 0
AllCounted r [] = Unit {0}
AllCounted r (c ∷ cs) = (laid_heard (lane_changed r.lanes r.calls c).answer ≡ count (r.calls + 1)) × AllCounted (acted r (change c)) cs

unfoldable pub plus_all : List ℤ → List Change → List ℤ
plus_all zs [] = zs
plus_all zs (c ∷ cs) = plus_all (plus_lanes zs (digits_of (change_of c))) cs

-- ---- rule N7: no addition or withdrawal is one too many since the last settling
abbrev pub NotFull : LaneRegister → Act → Type 0
NotFull r (change c) = laid_heard (lane_changed r.lanes r.calls c).answer ≡ refused 24 nowhere → ⊥
NotFull r settle = Unit {0}

unfoldable pub NeverFull : LaneRegister → List Act → Type 0
NeverFull r [] = Unit {0}
NeverFull r (a ∷ hs) = NotFull r a × NeverFull (acted r a) hs
