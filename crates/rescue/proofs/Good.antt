-- What a rescue makes is good: the reader accepts its sheet, and its list is refused with none of 1, 2 and 3. A good sheet comes out byte for byte, with every
-- mark 0, nothing missing and nothing lying over; and so does what was rescued. At a width whose limit is told in 4 bytes. Assumes nothing.
use Rattle.std.specs.Prelude.{◌≡◌, Bool, true, List, ◌++◌, map, ℕ, ◌+◌, ◌*◌, ◌^◌, ◌≤◌, ◌<◌, T, length, take, drop, replicate}
use Rattle.std.proofs.Common.{sym, ap, ◌∙◌, arith, lit<, length-drop}
use Rattle.lists.specs.Digits.{Digits}
use Rattle.lists.specs.DigitLaws.{digits_drop}
use Rattle.lists.proofs.Filter.{filter_passes, filter_all, filter_digits}
use Rattle.kinds.specs.Limits.{Width, doubles}
use Rattle.kinds.specs.Outcome.{outcome}
use Rattle.kinds.specs.Sheet.{Read}
use Rattle.kinds.specs.Verdict.{Good}
use Rattle.judge.specs.Judge.{fault_free, judged}
use Rattle.judge.specs.Table.{Allowed, allowed}
use Rattle.judge.proofs.FirstFaultLaws.{first_good}
use Rattle.judge.specs.FaultlessLaws.{faultless}
use Rattle.judge.proofs.FaultlessLaws.{faultless_good}
use Rattle.judge.proofs.JudgeLaws.{list_when, list_allowed, list_passed}
use Rattle.octets.specs.Octets.{big}
use Rattle.octets.proofs.OctetsLaws.{big_below}
use Rattle.octets.proofs.EightsLaws.{eights_below}
use Rattle.sheet.specs.Sheet.{sheet_of, count_of, patterns_of, read_of}
use Rattle.sheet.specs.SheetLaws.{Readable}
use Rattle.sheet.proofs.SheetLaws.{readable, read_patterns, read_is_sheet}
use Rattle.sheet.proofs.SheetLaws.{patterns_body, sheet_count, sheet_body, sheet_version, sheet_length, sheet_read}
use Rattle.rescue.specs.Rescue.{taken_of, entries_of, kept_of, mark_of, report_of, rescuing, rescued_of}
use Rattle.rescue.proofs.RescueLaws.{kept_few}
use Rattle.rescue.proofs.RescueCases.{rescue_saved}
use Rattle.rescue.proofs.Marks.{allowed_marks}
use Rattle.rescue.proofs.Saved.{written_kept, saved_sheet}
use Rattle.rescue.proofs.SavedWhole.{was_given}
use Rattle.rescue.specs.declared.Report.{Report}
use Rattle.rescue.specs.Rescued.{Saved}

-- ---- what is kept
pub kept_allowed : (W : Width) (ps : List ℕ) → Allowed W (kept_of W ps)
kept_allowed W ps = (first_good W (kept_of W ps)).0 ((faultless_good W (kept_of W ps) 0).0 (filter_passes (fault_free W) ps))

allowed_faultless : (W : Width) (ps : List ℕ) → Allowed W ps → faultless W ps ≡ true
allowed_faultless W ps A = (faultless_good W ps 0).1 ((first_good W ps).1 A)

patterns_below : (n : ℕ) (bytes : List ℕ) → Digits 8 bytes → 5 + 8 * n ≤ length bytes → Digits 64 (patterns_of n (drop 5 bytes))
patterns_below n bytes B l = eights_below big big_below n (drop 5 bytes) (digits_drop 8 5 bytes B) (omega (arith, length-drop 5 bytes))

-- ---- a good sheet comes out as it went in
module _ (W : Width) (w : W.length < 2 ^ 32) where
  module _ (ps : List ℕ) (few : length ps ≤ W.length) (D : Digits 64 ps) (A : Allowed W ps) where
    taken_all : taken_of (sheet_of ps) ≡ length ps
    taken_all = omega (arith, sheet_count ps (omega arith), sheet_length ps)

    entries_all : entries_of (sheet_of ps) ≡ ps
    entries_all =
        ap (λ (n : ℕ). patterns_of n (drop 5 (sheet_of ps))) taken_all ∙ ap (patterns_of (length ps)) (sheet_body ps) ∙ patterns_body ps D

    kept_all : kept_of W (entries_of (sheet_of ps)) ≡ ps
    kept_all = ap (kept_of W) entries_all ∙ filter_all (fault_free W) ps (allowed_faultless W ps A)

    unmarked : map (mark_of W) (entries_of (sheet_of ps)) ≡ replicate (length ps) 0
    unmarked = ap (map (mark_of W)) entries_all ∙ allowed_marks W ps (allowed_faultless W ps A)

    pub sheet_rescued : (sheet marks : List ℕ) → 5 + 8 * length ps ≤ length sheet → length ps ≤ length marks
        → rescued_of W (sheet_of ps) sheet marks
        ≡ rescuing (Saved (record { written = 5 + 8 * length ps; taken = length ps; missing = 0; over = 0 }))
        (sheet_of ps ++ drop (5 + 8 * length ps) sheet) (replicate (length ps) 0 ++ drop (length ps) marks)
    sheet_rescued sheet marks s m =
        let c : count_of (sheet_of ps) ≡ length ps = sheet_count ps (omega arith) in
        let l : length (sheet_of ps) ≡ 5 + 8 * length ps = sheet_length ps in
        let k : length (kept_of W (entries_of (sheet_of ps))) ≡ length ps = ap length kept_all in
        let missing : (report_of W (sheet_of ps)).missing ≡ 0 = omega (arith, c, taken_all) in
        let over : (report_of W (sheet_of ps)).over ≡ 0 = omega (arith, l, taken_all) in
        rescue_saved W (sheet_of ps) sheet marks (record { header = omega arith; version = sheet_version ps }) (omega arith) (omega arith)
        (omega (arith, taken_all))
        ∙ (λ i. rescuing (Saved (record { written = 5 + 8 * k i; taken = taken_all i; missing = missing i; over = over i }))
        (sheet_of (kept_all i) ++ drop (5 + 8 * k i) sheet) (unmarked i ++ drop (taken_all i) marks))

  -- rule H12: nothing was wrong with the bytes
  pub accepted_rescued : (bytes area : List ℕ) (right_area right_parts : Bool) {n : ℕ} {after : List ℕ} → Digits 8 bytes
      → read_of W bytes area ≡ outcome (Read n) after → judged W right_area right_parts (take n after) ≡ Good
      → (sheet marks : List ℕ) → length bytes ≤ length sheet → n ≤ length marks
      → rescued_of W bytes sheet marks
      ≡ rescuing (Saved (record { written = length bytes; taken = n; missing = 0; over = 0 }))
      (bytes ++ drop (length bytes) sheet) (replicate n 0 ++ drop n marks)
  accepted_rescued bytes area right_area right_parts {n} {after} B e g sheet marks s m =
      let ps = take n after in
      let R : Readable W bytes area = readable W bytes area e in
      let G = (list_when W right_area right_parts ps Good).0 g in
      let is : bytes ≡ sheet_of ps = (read_is_sheet W bytes area B e).0 in
      let k : length ps ≡ n = sym (read_is_sheet W bytes area B e).1 in
      let l : 5 + 8 * length ps ≡ length bytes = sym (ap length is ∙ sheet_length ps) in
      let D : Digits 64 ps = rw (read_patterns W bytes area e).1 (patterns_below (count_of bytes) bytes B (omega (arith, R.exact))) in
      ap (λ (b : List ℕ). rescued_of W b sheet marks) is
      ∙ sheet_rescued ps (list_passed G).few D (list_allowed G) sheet marks (omega (arith, l, s)) (omega (arith, k, m))
      ∙ (λ i. rescuing (Saved (record { written = l i; taken = k i; missing = 0; over = 0 }))
      (sym is i ++ drop (l i) sheet) (replicate (k i) 0 ++ drop (k i) marks))

  -- ---- what was rescued is good
  module _ (bytes sheet marks : List ℕ) {r : Report} {out ms : List ℕ} (e : rescued_of W bytes sheet marks ≡ rescuing (Saved r) out ms) where
    abbrev kept : List ℕ
    kept = kept_of W (entries_of bytes)

    kept_fits : length kept ≤ W.length
    kept_fits = omega (arith, kept_few W (taken_of bytes) (drop 5 bytes), (was_given W bytes sheet marks e).1)

    kept_below : Digits 8 bytes → Digits 64 kept
    kept_below B =
        filter_digits 64 (fault_free W) (entries_of bytes)
        (patterns_below (taken_of bytes) bytes B (omega (arith, (was_given W bytes sheet marks e).0.header)))

    -- the reader accepts the sheet, to any area that suffices
    pub rescued_read : let ps = kept_of W (entries_of bytes) in
        Digits 8 bytes → (area : List ℕ) → length ps ≤ length area
        → read_of W (take r.written out) area ≡ outcome (Read (length ps)) (ps ++ drop (length ps) area)
    rescued_read B area room = rw (saved_sheet W bytes sheet marks e) (sheet_read W kept area w kept_fits (kept_below B) room)

    -- its list is refused for nothing but what else is lent
    pub rescued_good : (right_area right_parts : Bool) → T right_area → T right_parts
        → judged W right_area right_parts (kept_of W (entries_of bytes)) ≡ Good
    rescued_good right_area right_parts a b =
        (list_when W right_area right_parts kept Good).1
        (allowed (record { few = kept_fits; right_area = a; right_parts = b }) (kept_allowed W (entries_of bytes)))

    -- and rescued again it is the same
    pub rescued_again : let n = length (kept_of W (entries_of bytes)) in
        let again = take r.written out in
        Digits 8 bytes → (area spots : List ℕ) → r.written ≤ length area → n ≤ length spots
        → rescued_of W again area spots
        ≡ rescuing (Saved (record { written = r.written; taken = n; missing = 0; over = 0 }))
        (again ++ drop r.written area) (replicate n 0 ++ drop n spots)
    rescued_again B area spots s m =
        let z : r.written ≡ 5 + 8 * length kept = written_kept W bytes sheet marks e in
        rw (saved_sheet W bytes sheet marks e, z)
        (sheet_rescued kept kept_fits (kept_below B) (kept_allowed W (entries_of bytes)) area spots (omega arith) m)

-- ---- at the scope's width
pub doubles_rescued_read : (bytes sheet marks : List ℕ) {r : Report} {out ms : List ℕ} → rescued_of doubles bytes sheet marks ≡ rescuing (Saved r) out ms
    → let ps = kept_of doubles (entries_of bytes) in
    Digits 8 bytes → (area : List ℕ) → length ps ≤ length area
    → read_of doubles (take r.written out) area ≡ outcome (Read (length ps)) (ps ++ drop (length ps) area)
doubles_rescued_read bytes sheet marks e = rescued_read doubles (lit< tt) bytes sheet marks e

pub doubles_rescued_again : (bytes sheet marks : List ℕ) {r : Report} {out ms : List ℕ} → rescued_of doubles bytes sheet marks ≡ rescuing (Saved r) out ms
    → let n = length (kept_of doubles (entries_of bytes)) in
    let again = take r.written out in
    Digits 8 bytes → (area spots : List ℕ) → r.written ≤ length area → n ≤ length spots
    → rescued_of doubles again area spots
    ≡ rescuing (Saved (record { written = r.written; taken = n; missing = 0; over = 0 }))
    (again ++ drop r.written area) (replicate n 0 ++ drop n spots)
doubles_rescued_again bytes sheet marks e = rescued_again doubles (lit< tt) bytes sheet marks e

pub doubles_accepted_rescued : (bytes area : List ℕ) (right_area right_parts : Bool) {n : ℕ} {after : List ℕ} → Digits 8 bytes
    → read_of doubles bytes area ≡ outcome (Read n) after → judged doubles right_area right_parts (take n after) ≡ Good
    → (sheet marks : List ℕ) → length bytes ≤ length sheet → n ≤ length marks
    → rescued_of doubles bytes sheet marks
    ≡ rescuing (Saved (record { written = length bytes; taken = n; missing = 0; over = 0 }))
    (bytes ++ drop (length bytes) sheet) (replicate n 0 ++ drop n marks)
doubles_accepted_rescued = accepted_rescued doubles (lit< tt)
