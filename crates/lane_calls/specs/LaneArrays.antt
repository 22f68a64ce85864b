-- A register that carries later, as C calls: what each returns, and what it leaves in every array that it is lent. Definitions only.
use Rattle.std.specs.Prelude.{◌≡◌, cond, List, ℕ, eqb, ℤ, length}
use Rattle.kinds.specs.Limits.{doubles}
use Rattle.kinds.specs.Heard.{Refusal}
use Rattle.lanes.specs.Lanes.{Laying, lane_added, lane_withdrawn, settled, laid_heard}
use Rattle.lanes.specs.Laid.{Laid}
use Rattle.lanes.specs.Laid.{Counted, Refused}
use Rattle.arrays.specs.Arrays.{code_of, values_of, Returned, returned}

-- a refusal, if it is one, is of the table
abbrev pub LaidRefusal : Laid → Type 0
LaidRefusal (Counted n) = Unit {0}
LaidRefusal (Refused k i) = Refusal doubles.length k i

-- ---- rules C9 and C10: w is what the library's own call answers and leaves of the lanes zs; 4 for the array of values is in 4's place, which is first
unfoldable pub laid_returned : Laying → List ℤ → List ℕ → Returned ℤ
laid_returned w zs out =
    let h = laid_heard w.answer in
    cond (eqb (length out) 1) (returned (code_of h) w.area (values_of h out)) (returned 4 zs out)

abbrev pub add_lanes : List ℤ → ℕ → ℕ → List ℕ → Returned ℤ
add_lanes zs calls p out = laid_returned (lane_added zs calls p) zs out

abbrev pub withdraw_lanes : List ℤ → ℕ → ℕ → List ℕ → Returned ℤ
withdraw_lanes zs calls p out = laid_returned (lane_withdrawn zs calls p) zs out

-- ---- of a settling: what is returned, both areas and the values afterwards
pub record SettleReturned : Type 0 where
  pub code : ℕ
  pub lanes : List ℤ
  pub words : List ℕ
  pub values : List ℕ

abbrev pub settle_returned : ℕ → List ℤ → List ℕ → List ℕ → SettleReturned
settle_returned c zs ws vs = record { code = c; lanes = zs; words = ws; values = vs }

unfoldable pub settle_lanes : List ℤ → ℕ → List ℕ → List ℕ → SettleReturned
settle_lanes zs calls ws out =
    let s = settled zs calls ws in
    let h = laid_heard s.answer in
    cond (eqb (length out) 1) (settle_returned (code_of h) s.lanes s.words (values_of h out)) (settle_returned 4 zs ws out)

-- every array is as it was
pub record SettleLeft (w : SettleReturned) (zs : List ℤ) (ws vs : List ℕ) : Type 0 where
  pub lanes : w.lanes ≡ zs
  pub words : w.words ≡ ws
  pub values : w.values ≡ vs
