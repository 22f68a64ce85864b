-- Rule H6, the writer and the reader together: what was written is read back, whatever the patterns; a sheet that was read, written again, is the same bytes;
-- and bytes behind a written sheet stay. Wherever the areas suffice neither refuses what the other made. Assumes nothing.
use Rattle.std.specs.Prelude.{◌≡◌, List, ◌++◌, ℕ, ◌+◌, ◌-◌, ◌*◌, ◌^◌, ◌≤◌, ◌<◌, length, take, drop}
use Rattle.std.proofs.Common.{sym, ap, ◌∙◌, arith, lit<, take-append-drop, length-append, length-drop, take_at, drop_at}
use Rattle.lists.specs.Digits.{Digits}
use Rattle.kinds.specs.Limits.{Width, doubles}
use Rattle.kinds.specs.Outcome.{outcome}
use Rattle.kinds.specs.Sheet.{Read}
use Rattle.sheet.specs.Sheet.{Reading, sheet_of, read_of}
use Rattle.sheet.proofs.SheetLaws.{read_is_sheet, sheet_length, sheet_read}
use Rattle.sheet.specs.Table.{SheetWhen, all_read}
use Rattle.sheet.proofs.TableLaws.{sheet_when}
use Rattle.sheet.specs.Write.{Writing, written_of, WriteWhen, all_written}
use Rattle.sheet.proofs.WriteLaws.{write_when}
use Rattle.sheet.proofs.WriteCases.{write_all}
use Rattle.sheet.specs.Written.{Wrote}

-- ---- a call that wrote size bytes, and left the area as `after`
module _ (W : Width) (ps area : List ℕ) {size : ℕ} {after : List ℕ} (e : written_of W ps area ≡ outcome (Wrote size) after) where
  fitted : {n : ℕ} → WriteWhen W ps area (Wrote n) → (length ps ≤ W.length) × (5 + 8 * length ps ≤ length area)
  fitted (all_written f s) = (f, s)

  given : (length ps ≤ W.length) × (5 + 8 * length ps ≤ length area)
  given = fitted ((write_when W ps area (Wrote size)).0 (ap (λ (x : Writing). x.answer) e))

  -- the bytes told are the sheet's
  pub written_size : length (sheet_of ps) ≡ size
  written_size =
      let told : Wrote (5 + 8 * length ps) ≡ Wrote size = ap (λ (x : Writing). x.answer) (sym (write_all W ps area given.0 given.1) ∙ e) in
      let bytes : 5 + 8 * length ps ≡ size = cc in
      sheet_length ps ∙ bytes

  -- rule H4
  pub written_sheet : take size after ≡ sheet_of ps
  written_sheet =
      ap (λ (x : Writing). take size x.area) (sym e ∙ write_all W ps area given.0 given.1) ∙ take_at (sheet_of ps) _ size written_size

  -- rule H5
  pub written_behind : drop size after ≡ drop size area
  written_behind =
      ap (λ (x : Writing). drop size x.area) (sym e ∙ write_all W ps area given.0 given.1) ∙ drop_at (sheet_of ps) _ size written_size
      ∙ ap (λ (n : ℕ). drop n area) (sym (sheet_length ps) ∙ written_size)

  pub written_length : length after ≡ length area
  written_length =
      let t : length (take size after) ≡ size = ap length written_sheet ∙ written_size in
      let l : length after ≡ length (take size after) + length (drop size after) =
      ap length (sym (take-append-drop size after)) ∙ length-append (take size after) (drop size after) in
      let d : length (drop size after) ≡ length area - size = ap length written_behind ∙ length-drop size area in
      omega (arith, given.1, sheet_length ps, written_size, t, l, d)

  -- ---- what was written is read back, to any area that suffices, at a width whose limit is told in 4 bytes
  pub written_read : W.length < 2 ^ 32 → Digits 64 ps → (out : List ℕ) → length ps ≤ length out
      → read_of W (take size after) out ≡ outcome (Read (length ps)) (ps ++ drop (length ps) out)
  written_read w D out room = rw written_sheet (sheet_read W ps out w given.0 D room)

-- ---- what was read is written again, to any area that suffices: the same bytes
few : {W : Width} {bytes out : List ℕ} {n : ℕ} → SheetWhen W bytes out (Read n) → n ≤ W.length
few (all_read B f x s) = f

pub read_written : (W : Width) (bytes out : List ℕ) {n : ℕ} {after : List ℕ} → Digits 8 bytes → read_of W bytes out ≡ outcome (Read n) after
    → (area : List ℕ) → length bytes ≤ length area → written_of W (take n after) area ≡ outcome (Wrote (length bytes)) (bytes ++ drop (length bytes) area)
read_written W bytes out {n} {after} B e area room =
    let ps = take n after in
    let s = read_is_sheet W bytes out B e in
    let f = few ((sheet_when W bytes out (Read n)).0 (ap (λ (x : Reading). x.answer) e)) in
    let l : length bytes ≡ 5 + 8 * length ps = ap length s.0 ∙ sheet_length ps in
    write_all W ps area (omega (arith, f, s.1)) (omega (arith, l, room))
    ∙ (λ i. outcome (Wrote (sym l i)) (sym s.0 i ++ drop (sym l i) area))

-- ---- at the scope's width
pub doubles_written_read : (ps area : List ℕ) {size : ℕ} {after : List ℕ} → written_of doubles ps area ≡ outcome (Wrote size) after → Digits 64 ps
    → (out : List ℕ) → length ps ≤ length out → read_of doubles (take size after) out ≡ outcome (Read (length ps)) (ps ++ drop (length ps) out)
doubles_written_read ps area e = written_read doubles ps area e (lit< tt)
