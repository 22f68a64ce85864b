-- A sheet's bytes as the writer lays them: the version and the count over the first five, and the patterns behind those make the sheet. Assumes nothing.
use Rattle.std.specs.Prelude.{◌≡◌, refl, ℕ, suc, ◌+◌, ◌*◌, ◌≤◌, length, take, drop, set}
use Rattle.std.proofs.Common.{sym, ◌∙◌, arith, length-append, length-drop, take_at, drop_at, drop-drop}
use Rattle.std.proofs.Math.Path.{ap}
use mathlib.Core.List.{List, [], ◌∷◌, ◌++◌, append_assoc}
use Rattle.octets.specs.Octets.{big_endian}
use Rattle.octets.proofs.OctetsLaws.{big_length}
use Rattle.sheet.specs.Sheet.{body, sheet_of}

pub header_laid : (bs count : List ℕ) (v : ℕ) → 5 ≤ length bs → take 1 (set bs 0 v) ++ (count ++ drop 5 (set bs 0 v)) ≡ v ∷ (count ++ drop 5 bs)
header_laid [] count v h = absurd (omega arith)
header_laid (b ∷ bs) count v h = refl

pub header_length : (bs : List ℕ) (n : ℕ) → 5 ≤ length bs → suc (length (big_endian 4 n ++ drop 5 bs)) ≡ length bs
header_length bs n h = omega (arith, length-append (big_endian 4 n) (drop 5 bs), big_length 4 n, length-drop 5 bs)

module _ (ps bs : List ℕ) where
  abbrev n : ℕ
  n = length ps

  abbrev begun : List ℕ
  begun = 1 ∷ (big_endian 4 n ++ drop 5 bs)

  front : take 5 begun ≡ 1 ∷ big_endian 4 n
  front = ap (λ (l : List ℕ). 1 ∷ l) (take_at (big_endian 4 n) (drop 5 bs) 4 (big_length 4 n))

  behind : drop (5 + 8 * n) begun ≡ drop (5 + 8 * n) bs
  behind =
      sym (drop-drop (8 * n) 5 begun) ∙ ap (drop (8 * n)) (drop_at (big_endian 4 n) (drop 5 bs) 4 (big_length 4 n)) ∙ drop-drop (8 * n) 5 bs

  pub sheet_laid : take 5 begun ++ (body ps ++ drop (5 + 8 * n) begun) ≡ sheet_of ps ++ drop (5 + 8 * n) bs
  unfolding sheet_of
  sheet_laid =
      (λ i. front i ++ (body ps ++ behind i))
      ∙ ap (λ (l : List ℕ). 1 ∷ l) (sym (append_assoc (big_endian 4 n) (body ps) (drop (5 + 8 * n) bs)))
