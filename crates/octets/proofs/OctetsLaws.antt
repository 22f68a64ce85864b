-- Numbers in bytes: one byte more, bytes cut in two, the bound, and that bytes and number determine each other, most significant byte first and least.
-- Assumes nothing.
use Rattle.std.specs.Prelude.{◌≡◌, ℕ, suc, ◌+◌, ◌-◌, ◌*◌, ◌/◌, ◌%◌, ◌^◌, ◌≤◌, ◌<◌, length, get_or, take, drop, set}
use Rattle.std.proofs.Common.{sym, ap, ◌∙◌, add-zero, mod-eq_of_lt, add-one, arith, pow_pos, pow_mono, take-append-drop, length-append, length-drop, take-suc}
use Rattle.std.proofs.Common.{take-add, drop-cons, drop-drop, get_or-drop, length-take-le}
use mathlib.Core.List.{List, [], ◌∷◌, ◌++◌, append_assoc, append-nil, reverse, reverse_aux, reverse-append, reverse-reverse}
use Rattle.std.proofs.Math.Nat.{div-div-eq-div-mul}
use Rattle.std.proofs.lemmas.List.{length-reverse, set_at}
use Rattle.std.specs.Int.{w64, to_le_bytes, from_le_bytes}
use Rattle.std.proofs.lemmas.Nat.{from_le_bytes-to_le_bytes_8}
use Rattle.lists.specs.Digits.{number, digits, Digits}
use Rattle.lists.specs.DigitLaws.{weight_next, number_nil, number_cons, number_append, digits_number, number_digits}
use Rattle.lists.specs.DigitLaws.{digits_head, digits_tail, digits_more, digits_length, digits_none, digits_last, number_lt}
use Rattle.lists.proofs.Front.{store_front, take_next}
use Rattle.octets.specs.Octets.{little_endian, big_endian, little, big, bytes_at}

-- ---- one byte more
pub big_none : (bs : List ℕ) (at : ℕ) → big (bytes_at bs at 0) ≡ 0
big_none bs at = number_nil 8

pub big_more : (bs : List ℕ) (b : ℕ) → big (bs ++ (b ∷ [])) ≡ big bs * 256 + b
big_more bs b = ap (number 8) (reverse-append bs (b ∷ [])) ∙ number_cons 8 b (reverse bs) ∙ omega arith

pub big_next : (bs : List ℕ) (at i : ℕ) → at + i < length bs → big (bytes_at bs at (i + 1)) ≡ big (bytes_at bs at i) * 256 + get_or bs (at + i) 0
big_next bs at i h =
    let k : i < length (drop at bs) = rw (length-drop at bs) (omega arith) in
    rw (add-one, take-suc (drop at bs) i 0 k, big_more (take i (drop at bs)) (get_or (drop at bs) i 0), get_or-drop at bs i 0)

-- ---- least significant byte first: a byte and i after it, four bytes, i bytes and j after them
pub little_next : (bs : List ℕ) (at i : ℕ) → at < length bs → little (bytes_at bs at (i + 1)) ≡ little (bytes_at bs (at + 1) i) * 256 + get_or bs at 0
little_next bs at i h = rw (add-one, add-one, drop-cons bs at 0 h) (number_cons 8 (get_or bs at 0) (take i (drop (suc at) bs)) ∙ omega arith)

pub little_four : (bs : List ℕ) (at : ℕ) → at + 4 ≤ length bs
    → little (bytes_at bs at 4) ≡ get_or bs at 0 + get_or bs (at + 1) 0 * 256 + get_or bs (at + 2) 0 * 65536 + get_or bs (at + 3) 0 * 16777216
little_four bs at h =
    let b : at + 1 + 1 ≡ at + 2 = omega arith in
    let c : at + 2 + 1 ≡ at + 3 = omega arith in
    rw (
      little_next bs at 3 (omega arith),
      little_next bs (at + 1) 2 (omega arith),
      b,
      little_next bs (at + 2) 1 (omega arith),
      c,
      little_next bs (at + 3) 0 (omega arith),
      number_nil 8,
    ) (omega arith)

pub little_cut : (bs : List ℕ) (at i j : ℕ) → at + i ≤ length bs
    → little (bytes_at bs at (i + j)) ≡ little (bytes_at bs at i) + little (bytes_at bs (at + i) j) * 2 ^ (8 * i)
little_cut bs at i j h =
    let l : length (bytes_at bs at i) ≡ i = length-take-le i (drop at bs) (rw (length-drop at bs) (omega arith)) in
    rw (take-add i j (drop at bs), number_append 8 (bytes_at bs at i) (take j (drop i (drop at bs))), drop-drop i at bs, l)

-- the first i bytes of a number, and the one after them
pub little_last : (i v : ℕ) → little_endian (i + 1) v ≡ little_endian i v ++ (v / 2 ^ (8 * i) % 256 ∷ [])
little_last i v = rw add-one (digits_last 8 i v)

pub little_length : (k v : ℕ) → length (little_endian k v) ≡ k
little_length k v = digits_length 8 k v

-- what is left of a number without its first i bytes
pub rest_next : (i v : ℕ) → v / 2 ^ (8 * i) / 256 ≡ v / 2 ^ (8 * (i + 1))
rest_next i v = rw (add-one, weight_next 8 i) (div-div-eq-div-mul v (2 ^ (8 * i)) (2 ^ 8))

-- ---- a number written to a place, its first i bytes so far
module _ (bs : List ℕ) (at v : ℕ) where
  pub written_none : bs ≡ (take at bs ++ little_endian 0 v) ++ drop (at + 0) bs
  written_none = rw (digits_none 8 v, append-nil (take at bs), add-zero at) (sym (take-append-drop at bs))

  pub written_next : (i : ℕ) → at + i < length bs
      → set ((take at bs ++ little_endian i v) ++ drop (at + i) bs) (at + i) (v / 2 ^ (8 * i) % 256)
      ≡ (take at bs ++ little_endian (i + 1) v) ++ drop (at + (i + 1)) bs
  written_next i h =
      let x = v / 2 ^ (8 * i) % 256 in
      let l : length (take at bs ++ little_endian i v) ≡ at + i =
      rw (length-append (take at bs) (little_endian i v), length-take-le at bs (omega arith), little_length i v) in
      let e : at + i + 1 ≡ at + (i + 1) = omega arith in
      rw (store_front 0 (take at bs ++ little_endian i v) bs (at + i) l h x, little_last i v, append_assoc (take at bs) (little_endian i v) (x ∷ []), e)

-- ---- the same, most significant byte first: its last i bytes so far, in front of what stands behind all of them
pub big_first : (i v : ℕ) → big_endian (i + 1) v ≡ v / 2 ^ (8 * i) % 256 ∷ big_endian i v
big_first i v = ap reverse (little_last i v) ∙ reverse-append (little_endian i v) (v / 2 ^ (8 * i) % 256 ∷ [])

store_last : (bs rest : List ℕ) (k x : ℕ) → k < length bs → set (take (k + 1) bs ++ rest) k x ≡ take k bs ++ (x ∷ rest)
store_last bs rest k x h =
    rw (take_next 0 bs k h, append_assoc (take k bs) (get_or bs k 0 ∷ []) rest)
    (set_at (take k bs) (get_or bs k 0) rest x k (length-take-le k bs (omega arith)))

module _ (bs : List ℕ) (at count v : ℕ) where
  pub big_written_none : bs ≡ take (at + (count - 0)) bs ++ (big_endian 0 v ++ drop (at + count) bs)
  big_written_none = let z : count - 0 ≡ count = omega arith in rw (z, digits_none 8 v) (sym (take-append-drop (at + count) bs))

  pub big_written_next : (i : ℕ) → i < count → at + count ≤ length bs
      → set (take (at + (count - i)) bs ++ (big_endian i v ++ drop (at + count) bs)) (at + (count - 1 - i)) (v / 2 ^ (8 * i) % 256)
      ≡ take (at + (count - (i + 1))) bs ++ (big_endian (i + 1) v ++ drop (at + count) bs)
  big_written_next i h fits =
      let k = at + (count - 1 - i) in
      let a : at + (count - i) ≡ k + 1 = omega arith in
      let b : at + (count - (i + 1)) ≡ k = omega arith in
      rw (a, b, big_first i v) (store_last bs (big_endian i v ++ drop (at + count) bs) k (v / 2 ^ (8 * i) % 256) (omega arith))

  pub big_written_all : (i : ℕ) → i ≡ count
      → take (at + (count - i)) bs ++ (big_endian i v ++ drop (at + count) bs) ≡ take at bs ++ (big_endian count v ++ drop (at + count) bs)
  big_written_all i e = let z : at + (count - i) ≡ at = omega arith in rw (z, e)

-- ---- room
-- a number of i bytes, i below 8, has room for a byte more
pub room : {v i b : ℕ} → v < 2 ^ (8 * i) → i < 8 → b < 256 → v * 256 + b < 2 ^ 64
room {v} {i} {b} h k c =
    let m : 2 ^ (8 * i) ≤ 2 ^ 56 = pow_mono {i = 8 * i} {j = 56} (omega arith) in
    let n : v < 2 ^ 56 = omega arith in
    omega arith

pub bound_next : {v b : ℕ} (i : ℕ) → v < 2 ^ (8 * i) → b < 256 → v * 256 + b < 2 ^ (8 * (i + 1))
bound_next i h c = rw (add-one, weight_next 8 i) (omega arith)

-- ---- bytes below 256
reversed : (l r : List ℕ) → Digits 8 l → Digits 8 r → Digits 8 (reverse_aux l r)
reversed [] r L R = R
reversed (b ∷ l) r L R = reversed l (b ∷ r) (digits_tail 8 L) (digits_more 8 (digits_head 8 L) R)

pub bytes_reverse : (bs : List ℕ) → Digits 8 bs → Digits 8 (reverse bs)
bytes_reverse bs B = reversed bs [] B (record { below = λ i. pow_pos 8 })

-- ---- eight bytes make a number of 64 bits
pub little_below : (bs : List ℕ) → Digits 8 bs → length bs ≡ 8 → little bs < 2 ^ 64
little_below bs B l = rw l at (number_lt 8 bs B)

pub big_below : (bs : List ℕ) → Digits 8 bs → length bs ≡ 8 → big bs < 2 ^ 64
big_below bs B l = little_below (reverse bs) (bytes_reverse bs B) (length-reverse bs ∙ l)

-- ---- there and back
pub big_length : (k v : ℕ) → length (big_endian k v) ≡ k
big_length k v = length-reverse (digits 8 k v) ∙ digits_length 8 k v

pub little_back : (k v : ℕ) → v < 2 ^ (8 * k) → little (little_endian k v) ≡ v
little_back k v h = number_digits 8 k v ∙ mod-eq_of_lt h

pub big_back : (k v : ℕ) → v < 2 ^ (8 * k) → big (big_endian k v) ≡ v
big_back k v h = ap (number 8) (reverse-reverse (digits 8 k v)) ∙ little_back k v h

pub little_bytes_back : (bs : List ℕ) → Digits 8 bs → little_endian (length bs) (little bs) ≡ bs
little_bytes_back bs B = digits_number 8 bs B

pub big_bytes_back : (bs : List ℕ) → Digits 8 bs → big_endian (length bs) (big bs) ≡ bs
big_bytes_back bs B =
    let e : digits 8 (length bs) (big bs) ≡ reverse bs = rw (length-reverse bs) at (digits_number 8 (reverse bs) (bytes_reverse bs B)) in
    ap reverse e ∙ reverse-reverse bs

-- ---- the kit's conversion of eight bytes
pub to_kit : (v : ℕ) → to_le_bytes w64 v ≡ little_endian 8 v
unfolding digits
to_kit v = simp div-div-eq-div-mul

pub from_kit : (bs : List ℕ) → Digits 8 bs → length bs ≡ 8 → from_le_bytes w64 bs ≡ little bs
from_kit bs B l =
    let e : to_le_bytes w64 (little bs) ≡ bs = to_kit (little bs) ∙ rw l at (little_bytes_back bs B) in
    ap (from_le_bytes w64) (sym e) ∙ from_le_bytes-to_le_bytes_8 (little bs) (little_below bs B l)
