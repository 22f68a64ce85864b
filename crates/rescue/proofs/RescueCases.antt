-- What a rescue answers, case by case. Assumes nothing.
use Rattle.std.specs.Prelude.{◌≡◌, refl, Bool, true, false, ◌||◌, List, ◌++◌, map, ℕ, ◌+◌, ◌*◌, ◌≤◌, ◌<◌, ltb, length, drop}
use borrow.Author.Tests.{lt-ltb, le-ltb, eq-eqb, ne_eqb}
use Rattle.kinds.specs.Limits.{Width}
use Rattle.sheet.specs.Sheet.{sheet_of, version_of, count_of}
use Rattle.sheet.specs.Table.{Begun}
use Rattle.rescue.specs.Rescue.{taken_of, entries_of, kept_of, mark_of, report_of, rescuing, rescued_of}
use Rattle.rescue.specs.Rescued.{Saved, Refused}

either : (b : Bool) → (b || true) ≡ true
either true = refl
either false = refl

module _ (W : Width) (bytes sheet marks : List ℕ) where
  abbrev size : ℕ
  size = 5 + 8 * length (kept_of W (entries_of bytes))

  pub rescue_no_header : length bytes < 5 → rescued_of W bytes sheet marks ≡ rescuing (Refused 11 0) sheet marks
  unfolding rescued_of
  rescue_no_header h = rw (lt-ltb (length bytes) 5 h)

  pub rescue_version : 5 ≤ length bytes → (version_of bytes ≡ 1 → ⊥) → rescued_of W bytes sheet marks ≡ rescuing (Refused 12 0) sheet marks
  unfolding rescued_of
  rescue_version h v = rw (le-ltb (length bytes) 5 h, ne_eqb (version_of bytes) 1 v)

  module _ (B : Begun bytes) where
    pub rescue_many : W.length < count_of bytes → rescued_of W bytes sheet marks ≡ rescuing (Refused 1 0) sheet marks
    unfolding rescued_of
    rescue_many m = rw (le-ltb (length bytes) 5 B.header, eq-eqb (version_of bytes) 1 B.version, lt-ltb W.length (count_of bytes) m)

    module _ (few : count_of bytes ≤ W.length) where
      pub rescue_no_room : length sheet < 5 + 8 * length (kept_of W (entries_of bytes)) → rescued_of W bytes sheet marks ≡ rescuing (Refused 4 0) sheet marks
      unfolding rescued_of
      rescue_no_room s =
          rw (
            le-ltb (length bytes) 5 B.header,
            eq-eqb (version_of bytes) 1 B.version,
            le-ltb W.length (count_of bytes) few,
            lt-ltb (length sheet) size s,
          )

      pub rescue_no_marks : length marks < taken_of bytes → rescued_of W bytes sheet marks ≡ rescuing (Refused 4 0) sheet marks
      unfolding rescued_of
      rescue_no_marks s =
          rw (
            le-ltb (length bytes) 5 B.header,
            eq-eqb (version_of bytes) 1 B.version,
            le-ltb W.length (count_of bytes) few,
            lt-ltb (length marks) (taken_of bytes) s,
            either (ltb (length sheet) size),
          )

      pub rescue_saved : 5 + 8 * length (kept_of W (entries_of bytes)) ≤ length sheet → taken_of bytes ≤ length marks
          → let kept = kept_of W (entries_of bytes) in
          rescued_of W bytes sheet marks
          ≡ rescuing (Saved (report_of W bytes)) (sheet_of kept ++ drop (5 + 8 * length kept) sheet)
          (map (mark_of W) (entries_of bytes) ++ drop (taken_of bytes) marks)
      unfolding rescued_of
      rescue_saved s m =
          rw (
            le-ltb (length bytes) 5 B.header,
            eq-eqb (version_of bytes) 1 B.version,
            le-ltb W.length (count_of bytes) few,
            le-ltb (length sheet) size s,
            le-ltb (length marks) (taken_of bytes) m,
          )
