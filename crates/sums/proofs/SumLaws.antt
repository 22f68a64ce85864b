-- The exact sum of a list in a register's words, number by number; and that the sum of an allowed list is whole in them and below the format's limit.
-- Assumes nothing.
use Rattle.std.specs.Prelude.{◌≡◌, Bool, ◌&&◌, List, [], ◌∷◌, map, ℕ, ◌+◌, ◌-◌, ◌*◌, ◌^◌, ◌≤◌, ◌<◌, T, ℤ, pos, negsuc, ◌+ℤ◌, nat_abs, eqb}
use Rattle.std.specs.Prelude.{length, take, get_or, replicate}
use Rattle.std.proofs.Common.{sym, ap, ◌∙◌, le_trans, lt_of_le_of_lt, lt_of_lt_of_le, mul-le-mul_right, arith, lit<, lit≤, lt→ltb}
use Rattle.std.proofs.lemmas.Bool.Decides.{nat_tests}
use Rattle.std.proofs.lemmas.List.{map-append, length-map}
use Rattle.std.proofs.Math.Nat.{le_of_suc-le}
use Rattle.std.proofs.Math.IntN.{+ℤ_assoc, +ℤ_idl, +ℤ_idr}
use Rattle.std.specs.List.{list_all}
use Rattle.std.specs.Float.{Format, binary32, binary64}
use Rattle.std.specs.Float.Ieee.{of_bits}
use Rattle.std.specs.Float.Ieee.Bits.{is_true}
use Rattle.units.proofs.ExactSum.{sum_append, sum_bound}
use Rattle.ieee.specs.Units.{value, limit}
use Rattle.ieee.proofs.Sum.{value_mag}
use Rattle.lists.specs.Digits.{number, signed, inside}
use Rattle.lists.specs.DigitLaws.{number_nil, number_cons}
use Rattle.lists.proofs.Front.{take_next, map_at}
use Rattle.lists.proofs.SignedDigits.{cut_whole, whole_cut, cut_plus}
use Rattle.kinds.specs.Known.{Known, is_doubles, is_singles}
use Rattle.kinds.specs.Limits.{Width, doubles, singles}
use Rattle.judge.specs.Table.{Allowed, most}
use Rattle.judge.specs.FaultLaws.{fault_0, most_doubles, most_singles}
use Rattle.words.specs.Words.{word_bits, word_count, register_bits, whole_of, words_of}
use Rattle.addend.specs.Addend.{units_of, Held}
use Rattle.sums.specs.Sums.{sum_of, Summing}

-- one number more
pub sum_next : (f : Format) (ps : List ℕ) (i : ℕ) → i < length ps → sum_of f (take (i + 1) ps) ≡ sum_of f (take i ps) +ℤ value f (of_bits f (get_or ps i 0))
sum_next f ps i h =
    rw (take_next 0 ps i h, map-append g (take i ps) (get_or ps i 0 ∷ []), sum_append (map g (take i ps)) (g (get_or ps i 0) ∷ []))
    (ap (λ (z : ℤ). sum_of f (take i ps) +ℤ z) (+ℤ_idr (g (get_or ps i 0))))
  where
    g : ℕ → ℤ
    g p = value f (of_bits f p)

-- ---- a loop that adds the numbers to words that stand for z
pub total_begins : (W : Width) {ws : List ℕ} (ps : List ℕ) → Held ws → ws ≡ words_of (whole_of ws +ℤ sum_of W.format (take 0 ps))
total_begins W {ws} ps H = sym (ap words_of (+ℤ_idr (whole_of ws)) ∙ cut_whole word_bits word_count (lit< tt) H)

pub total_goes_on : (W : Width) {ws : List ℕ} (z : ℤ) (ps : List ℕ) (i : ℕ) → i < length ps → ws ≡ words_of (z +ℤ sum_of W.format (take i ps))
    → words_of (whole_of ws +ℤ units_of W (get_or ps i 0)) ≡ words_of (z +ℤ sum_of W.format (take (i + 1) ps))
total_goes_on W {ws} z ps i h e =
    ap (λ (l : List ℕ). words_of (whole_of l +ℤ u)) e
    ∙ cut_plus word_bits word_count (lit< tt) u (z +ℤ s)
    ∙ ap words_of (+ℤ_assoc z s u ∙ ap (λ (x : ℤ). z +ℤ x) (sym (sum_next W.format ps i h)))
  where
    u : ℤ
    u = units_of W (get_or ps i 0)

    s : ℤ
    s = sum_of W.format (take i ps)

-- ---- how large the sum of an allowed list is
pub each_most : (W : Width) (ps : List ℕ) → Allowed W ps → (j : ℕ) → j < length (map (units_of W) ps)
    → nat_abs (get_or (map (units_of W) ps) j (pos 0)) ≤ most W
each_most W ps C j h =
    let l : j < length ps = rw (length-map ps (units_of W)) at h in
    rw (map_at (units_of W) ps j 0 (pos 0) l, value_mag W.format (of_bits W.format (get_or ps j 0))) ((fault_0 W (get_or ps j 0)).0 (C.none j l)).1

pub sum_at_most : (W : Width) (ps : List ℕ) → Allowed W ps → nat_abs (sum_of W.format ps) ≤ length ps * most W
sum_at_most W ps C = rw (length-map ps (units_of W)) at (sum_bound (most W) (map (units_of W) ps) (each_most W ps C))

-- 4,094 times 2 ^ 2074 units, and 2,046 times 2 ^ 249
pub sums_doubles : Summing doubles
sums_doubles = record { room = rw most_doubles (lit< tt) }

pub sums_singles : Summing singles
sums_singles = record { room = rw most_singles (lit< tt) }

pub sums_known : {W : Width} {d s i l m c r : ℕ} → Known W d s i l m c r → Summing W
sums_known is_doubles = sums_doubles
sums_known is_singles = sums_singles

pub sum_below_limit : {W : Width} {ps : List ℕ} → Summing W → length ps ≤ W.length → Allowed W ps → nat_abs (sum_of W.format ps) < limit W.format
sum_below_limit {W} {ps} R few C = lt_of_le_of_lt (le_trans (sum_at_most W ps C) (mul-le-mul_right (most W) few)) R.room

-- what is below a format's limit is whole in the register's words
pub register_room : (f : Format) → limit f ≤ 2 ^ (register_bits - 1)
register_room binary32 = lit≤ tt
register_room binary64 = lit≤ tt

pub whole_words : (f : Format) (z : ℤ) → nat_abs z < limit f → whole_of (words_of z) ≡ z
whole_words f z l = whole_cut word_bits word_count (lit< tt) z (is_true (inside register_bits z) (fits z (lt_of_lt_of_le l (register_room f))))
  where
    fits : (z : ℤ) → nat_abs z < 2 ^ (register_bits - 1) → T (inside register_bits z)
    fits (pos n) h = lt→ltb n (2 ^ (register_bits - 1)) h
    fits (negsuc n) h = lt→ltb n (2 ^ (register_bits - 1)) (le_of_suc-le h)

-- the words of a sum stand for it
pub sum_whole : (f : Format) {ws : List ℕ} (S : ℤ) → nat_abs S < limit f → ws ≡ words_of S → whole_of ws ≡ S
sum_whole f S l e = ap whole_of e ∙ whole_words f S l

-- the words of zeros and a sum stand for that sum
pub total_whole : (f : Format) {ws : List ℕ} (S : ℤ) → nat_abs S < limit f → ws ≡ words_of (whole_of (replicate word_count 0) +ℤ S) → whole_of ws ≡ S
unfolding number signed
total_whole f S l e = ap whole_of (e ∙ ap words_of (+ℤ_idl S)) ∙ whole_words f S l

-- words that are zero, and a sum
pub from_nothing : {ws : List ℕ} (S : ℤ) → ws ≡ replicate word_count 0 → words_of (whole_of ws +ℤ S) ≡ words_of S
unfolding number signed
from_nothing S e = ap (λ (l : List ℕ). words_of (whole_of l +ℤ S)) e ∙ ap words_of (+ℤ_idl S)

pub nothing_long : {ws : List ℕ} → ws ≡ replicate word_count 0 → length ws ≡ word_count
nothing_long e = ap length e

-- words are the number 0 where each is 0
zero_more : (d n B : ℕ) → 0 < B → eqb (d + n * B) 0 ≡ (eqb d 0 && eqb n 0)
zero_more d n B h = grind (arith, nat_tests)

pub zero_words : (ws : List ℕ) → eqb (number word_bits ws) 0 ≡ list_all (λ w. eqb w 0) ws
zero_words [] = ap (λ (n : ℕ). eqb n 0) (number_nil word_bits)
zero_words (w ∷ ws) =
    ap (λ (n : ℕ). eqb n 0) (number_cons word_bits w ws)
    ∙ zero_more w (number word_bits ws) (2 ^ word_bits) (lit< tt)
    ∙ ap (λ (b : Bool). eqb w 0 && b) (zero_words ws)
