-- Rescuing what a damaged sheet still holds: which entries are taken, kept and marked, what the call answers and leaves, what is heard of it, and what each
-- answer is given exactly for. Definitions only.
use Rattle.std.specs.Prelude.{◌≡◌, ◌⊎◌, cond, not, ◌||◌, List, [], ◌∷◌, ◌++◌, map, ℕ, ◌+◌, ◌-◌, ◌*◌, ◌/◌, ◌≤◌, ◌<◌, min, ltb, eqb, length, drop}
use Rattle.lists.specs.Filter.{filter, others}
use Rattle.kinds.specs.Limits.{Width}
use Rattle.kinds.specs.Heard.{Heard, refused, rescued, place_of}
use Rattle.judge.specs.Judge.{fault_of, fault_free}
use Rattle.sheet.specs.Sheet.{sheet_of, version_of, count_of, patterns_of}
use Rattle.sheet.specs.Table.{Begun}
use Rattle.rescue.specs.declared.Report.{Report}
use Rattle.rescue.specs.Rescued.{Rescued}
use Rattle.rescue.specs.Rescued.{Saved, Refused}

-- ---- rule H7: how many entries are taken, those that are there whole and at most the count; and their patterns
abbrev pub taken_of : List ℕ → ℕ
taken_of bytes = min (count_of bytes) ((length bytes - 5) / 8)

abbrev pub entries_of : List ℕ → List ℕ
entries_of bytes = patterns_of (taken_of bytes) (drop 5 bytes)

-- ---- rule H8: of entries those that are kept, in their order, and those that are dropped
abbrev pub kept_of : Width → List ℕ → List ℕ
kept_of W ps = filter (fault_free W) ps

abbrev pub dropped_of : Width → List ℕ → List ℕ
dropped_of W ps = others (fault_free W) ps

-- ---- rule H9: the mark of an entry, by its fault; and of entries those that are marked 0
abbrev pub fault_mark : ℕ → ℕ
fault_mark k = cond (eqb k 0) 0 (cond (eqb k 2) 1 2)

abbrev pub mark_of : Width → ℕ → ℕ
mark_of W p = fault_mark (fault_of W p)

unfoldable pub marked_kept : List ℕ → List ℕ → List ℕ
marked_kept [] ps = []
marked_kept (m ∷ ms) [] = []
marked_kept (m ∷ ms) (p ∷ ps) = cond (eqb m 0) (p ∷ marked_kept ms ps) (marked_kept ms ps)

-- ---- rule H10
abbrev pub report_of : Width → List ℕ → Report
report_of W bytes =
    record {
      written = 5 + 8 * length (kept_of W (entries_of bytes));
      taken = taken_of bytes;
      missing = count_of bytes - taken_of bytes;
      over = length bytes - 5 - 8 * taken_of bytes;
    }

-- the answer, and both areas afterwards
pub record Rescuing : Type 0 where
  pub answer : Rescued
  pub sheet : List ℕ
  pub marks : List ℕ

abbrev pub rescuing : Rescued → List ℕ → List ℕ → Rescuing
rescuing r sheet marks = record { answer = r; sheet = sheet; marks = marks }

-- ---- rule O11; rule H11: what stays
unfoldable pub rescued_of : Width → List ℕ → List ℕ → List ℕ → Rescuing
rescued_of W bytes sheet marks =
    let ps = entries_of bytes in
    let kept = kept_of W ps in
    let size = 5 + 8 * length kept in
    cond (ltb (length bytes) 5) (rescuing (Refused 11 0) sheet marks)
    (cond (not (eqb (version_of bytes) 1)) (rescuing (Refused 12 0) sheet marks)
    (cond (ltb W.length (count_of bytes)) (rescuing (Refused 1 0) sheet marks)
    (cond (ltb (length sheet) size || ltb (length marks) (taken_of bytes)) (rescuing (Refused 4 0) sheet marks)
    (rescuing (Saved (report_of W bytes)) (sheet_of kept ++ drop size sheet) (map (mark_of W) ps ++ drop (taken_of bytes) marks)))))

-- ---- what a caller hears
abbrev pub rescued_heard : Rescued → Heard
rescued_heard (Saved r) = rescued r.written r.taken r.missing r.over
rescued_heard (Refused k i) = refused k (place_of k i)

-- ---- rule O6 for rescuing, in rule O11's order, each row where none before it holds. None tells a place
pub data RescueWhen (W : Width) (bytes sheet marks : List ℕ) : Rescued → Type 0 where
  -- rule R11, of the header alone
  no_header : length bytes < 5 → RescueWhen W bytes sheet marks (Refused 11 0)
  -- rule R12
  other_version : 5 ≤ length bytes → (version_of bytes ≡ 1 → ⊥) → RescueWhen W bytes sheet marks (Refused 12 0)
  -- rule R1, of the count that the sheet tells
  too_many : Begun bytes → W.length < count_of bytes → RescueWhen W bytes sheet marks (Refused 1 0)
  -- rules R4 and A2, of either area
  no_room : Begun bytes → count_of bytes ≤ W.length → (length sheet < 5 + 8 * length (kept_of W (entries_of bytes))) ⊎ (length marks < taken_of bytes)
      → RescueWhen W bytes sheet marks (Refused 4 0)
  saved : Begun bytes → count_of bytes ≤ W.length → 5 + 8 * length (kept_of W (entries_of bytes)) ≤ length sheet → taken_of bytes ≤ length marks
      → RescueWhen W bytes sheet marks (Saved (report_of W bytes))
