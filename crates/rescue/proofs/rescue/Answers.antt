-- `rescue::rescue` meets its contract: each return is a case of the definition, and a count above the limit is never multiplied. Assumes nothing.
use mathlib.Core.Path.{◌≡◌, sym, ap, ◌∙◌}
use mathlib.Core.List.{List, ◌∷◌, ◌++◌, map}
use Prim.Native.Nat.{ℕ, ◌+◌, ◌-◌, ◌*◌, ◌/◌, min}
use native.Mathlib.Omega.{arith}
use lib.ListN.{length, drop}
use Rattle.kinds.specs.Limits.{doubles}
use Rattle.octets.specs.Octets.{big_endian}
use Rattle.sheet.proofs.LayoutLaws.{sheet_laid}
use Rattle.sheet.specs.Sheet.{sheet_of, version_of, count_of, patterns_of}
use Rattle.sheet.specs.Table.{Begun}
use Rattle.rescue.specs.Rescue.{taken_of, entries_of, kept_of, mark_of, Rescuing, rescuing}
use Rattle.rescue.specs.Rescued.{Saved}
use Rattle.rescue.proofs.RescueLaws.{kept_few}
use Rattle.rescue.proofs.RescueCases.{rescue_no_header, rescue_version, rescue_many, rescue_no_room, rescue_no_marks, rescue_saved}
use Rattle.rescue.proofs.rescue.Goals as goal
use Rattle.rescue.proofs.rescue.Goals.{After-count_kept-kept}

pub returns-then-damaged-lt-HEADER : goal.returns-then-damaged-lt-HEADER
returns-then-damaged-lt-HEADER c =
    let a = c.args in
    sym (rescue_no_header doubles a.damaged.now a.sheet.now a.marks.now (omega arith))

pub returns-then-h-ne-VERSION : goal.returns-then-h-ne-VERSION
returns-then-h-ne-VERSION c =
    let a = c.args in
    sym (rescue_version doubles a.damaged.now a.sheet.now a.marks.now (omega arith) (λ e. c.if-h-ne-VERSION.true (c.read_header-h.ensures.0 ∙ e)))

pub returns-then-count-gt-LENGTH : goal.returns-then-count-gt-LENGTH
returns-then-count-gt-LENGTH c =
    let a = c.args in
    let n : c.read_header-h.result.count ≡ count_of a.damaged.now = c.read_header-h.ensures.1 in
    let v : version_of a.damaged.now ≡ 1 = sym c.read_header-h.ensures.0 ∙ c.if-h-ne-VERSION.false in
    sym (rescue_many doubles a.damaged.now a.sheet.now a.marks.now (record { header = omega arith; version = v }) (omega arith))

-- ---- what is known once the kept entries are counted: the header, the entries taken, the entries kept
abbrev bytes : After-count_kept-kept → List ℕ
bytes q = let r = q.before.before.before.before.before in r.before.before.before.before.before.args.damaged.now

-- ---- the answer and both areas, as the code has them and as they are defined
saving : (bs s m : List ℕ) (n t : ℕ) → Rescuing
saving bs s m n t =
    let ps = patterns_of t (drop 5 bs) in
    let kept = kept_of doubles ps in
    rescuing (Saved (record { written = 5 + 8 * length kept; taken = t; missing = n - t; over = length bs - 5 - 8 * t }))
    (sheet_of kept ++ drop (5 + 8 * length kept) s) (map (mark_of doubles) ps ++ drop t m)

pub overflow_mul-written : goal.overflow_mul-written
overflow_mul-written c =
    let bytes : List ℕ = c.args.damaged.now in
    omega (arith, c.count_kept-kept.ensures, kept_few doubles c.taken_of-taken.result (drop 5 bytes), c.taken_of-taken.ensures)

pub overflow_add-written : goal.overflow_add-written
overflow_add-written c =
    let bytes : List ℕ = c.args.damaged.now in
    omega (arith, c.count_kept-kept.ensures, kept_few doubles c.taken_of-taken.result (drop 5 bytes), c.taken_of-taken.ensures)

pub returns-then-sheet-written : goal.returns-then-sheet-written
returns-then-sheet-written c =
    let bytes : List ℕ = c.args.damaged.now in
    let begun : Begun bytes = record { header = omega arith; version = sym c.read_header-h.ensures.0 ∙ c.if-h-ne-VERSION.false } in
    let count : c.read_header-h.result.count ≡ count_of bytes = c.read_header-h.ensures.1 in
    let taken : c.taken_of-taken.result ≡ taken_of bytes = c.taken_of-taken.ensures ∙ ap (λ (n : ℕ). min n ((length bytes - 5) / 8)) count in
    let kept : c.count_kept-kept.result ≡ length (kept_of doubles (entries_of bytes)) =
    c.count_kept-kept.ensures ∙ ap (λ (n : ℕ). length (kept_of doubles (patterns_of n (drop 5 bytes)))) taken in
    let a = c.args in
    sym (rescue_no_room doubles bytes a.sheet.now a.marks.now begun (omega (arith, count)) (omega (arith, kept)))

pub returns-then-marks-taken : goal.returns-then-marks-taken
returns-then-marks-taken c =
    let bytes : List ℕ = c.args.damaged.now in
    let begun : Begun bytes = record { header = omega arith; version = sym c.read_header-h.ensures.0 ∙ c.if-h-ne-VERSION.false } in
    let count : c.read_header-h.result.count ≡ count_of bytes = c.read_header-h.ensures.1 in
    let taken : c.taken_of-taken.result ≡ taken_of bytes = c.taken_of-taken.ensures ∙ ap (λ (n : ℕ). min n ((length bytes - 5) / 8)) count in
    let a = c.args in
    sym (rescue_no_marks doubles bytes a.sheet.now a.marks.now begun (omega (arith, count)) (omega (arith, taken)))

pub returns : goal.returns
unfolding saving
returns c =
    let bytes : List ℕ = c.args.damaged.now in
    let begun : Begun bytes = record { header = omega arith; version = sym c.read_header-h.ensures.0 ∙ c.if-h-ne-VERSION.false } in
    let count : c.read_header-h.result.count ≡ count_of bytes = c.read_header-h.ensures.1 in
    let taken : c.taken_of-taken.result ≡ taken_of bytes = c.taken_of-taken.ensures ∙ ap (λ (n : ℕ). min n ((length bytes - 5) / 8)) count in
    let kept : c.count_kept-kept.result ≡ length (kept_of doubles (entries_of bytes)) =
    c.count_kept-kept.ensures ∙ ap (λ (n : ℕ). length (kept_of doubles (patterns_of n (drop 5 bytes)))) taken in
    let a = c.args in
    let t = c.taken_of-taken.result in
    let n = c.read_header-h.result.count in
    let ps = kept_of doubles (patterns_of t (drop 5 bytes)) in
    let over = length bytes - 5 - 8 * t in
    let size = c.count_kept-kept.ensures in
    let headed = c.header.ensures ∙ ap (λ (k : ℕ). 1 ∷ (big_endian 4 k ++ drop 5 a.sheet.now)) size in
    let laid : c.write_kept.new.sheet ≡ sheet_of ps ++ drop (5 + 8 * length ps) a.sheet.now =
    c.write_kept.ensures ∙ rw headed (sheet_laid ps a.sheet.now) in
    let marked = c.write_marks.ensures in
    (λ i. rescuing (Saved (record { written = 5 + 8 * size i; taken = t; missing = n - t; over = over })) (laid i) (marked i))
    ∙ (λ i. saving bytes a.sheet.now a.marks.now (count i) (taken i))
    ∙ sym (rescue_saved doubles bytes a.sheet.now a.marks.now begun (omega (arith, count)) (omega (arith, kept)) (omega (arith, taken)))
