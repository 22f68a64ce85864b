-- Lanes by sign, settled word by word: two lanes of either side at a turn, and the words of the difference at the end. Assumes nothing.
use Rattle.std.specs.Prelude.{◌≡◌, List, ℕ, suc, ◌+◌, ◌*◌, ◌^◌, ◌<◌, length, get_or, set, take, drop}
use Rattle.std.proofs.Common.{sym, ap, subst, ◌∙◌, add-one, arith, length-set, length-drop, take_all, get_or-drop}
use Rattle.units.specs.Whole.{Whole, int}
use Rattle.lists.specs.Carry.{Carries}
use Rattle.lists.specs.Digits.{number}
use Rattle.lists.specs.DigitLaws.{weight_next, number_nil}
use Rattle.lists.specs.LowestDigits.{number_next, number_next_set}
use Rattle.lists.proofs.SignedDigits.{cut_only, words_lt}
use Rattle.lists.proofs.TwosComplement.{residue_only}
use Rattle.words.specs.Words.{word_bits, word_count, register_bits, words_of}
use Rattle.addend.specs.Addend.{Held}
use Rattle.sums.specs.SignLanes.{lane_bits, side_lanes, side_of, lane_sides, Lanes, Paired}
use Rattle.sums.specs.SettleLaws.{SettledTo}

-- ---- two lanes more
module _ (xs : List ℕ) (i : ℕ) (h : 2 * i + 1 < length xs) where
  same : 2 ^ (lane_bits * (2 * i)) ≡ 2 ^ (word_bits * i)
  same = ap (λ (x : ℕ). 2 ^ x) (omega arith)

  pair_next : number lane_bits (take (2 * (i + 1)) xs)
      ≡ number lane_bits (take (2 * i) xs) + (get_or xs (2 * i) 0 + get_or xs (2 * i + 1) 0 * 2 ^ lane_bits) * 2 ^ (word_bits * i)
  pair_next =
      let e : 2 * (i + 1) ≡ suc (suc (2 * i)) = omega arith in
      let f : suc (2 * i) ≡ 2 * i + 1 = omega arith in
      rw (
        e,
        number_next lane_bits xs {i = suc (2 * i)} (omega arith),
        number_next lane_bits xs {i = 2 * i} (omega arith),
        weight_next lane_bits (2 * i),
        same,
        f,
      )
      (omega arith)

-- one word more, with the weight W of its place: T, Z and A before it, P and M what is carried there, and what the two lanes of either side hold
step : (W T Z A P M b up down left b' P' M' d h e k d' h' e' k' : ℕ)
    → T + P * W + Z ≡ A + (M + b) * W
    → up + P' * 2 ^ 64 ≡ P + (d + h * 2 ^ 32) + (e + k * 2 ^ 32) * 2 ^ 32
    → down + M' * 2 ^ 64 ≡ M + (d' + h' * 2 ^ 32) + (e' + k' * 2 ^ 32) * 2 ^ 32
    → up + b' * 2 ^ 64 ≡ left + down + b
    → T + left * W + P' * (W * 2 ^ 64) + (Z + (d' + e' * 2 ^ 32) * W + (h' + k' * 2 ^ 32) * W * 2 ^ 32)
    ≡ A + (d + e * 2 ^ 32) * W + (h + k * 2 ^ 32) * W * 2 ^ 32 + (M' + b') * (W * 2 ^ 64)
step W T Z A P M b up down left b' P' M' d h e k d' h' e' k' s x y z =
    omega (arith, ap (λ (n : ℕ). n * W) x, ap (λ (n : ℕ). n * W) y, ap (λ (n : ℕ). n * W) z)

-- the last word, above which nothing is carried but a borrow
last : (N W T Z A P M b left b' all : ℕ) → N ≡ W * 2 ^ 64 → T + P * W + Z ≡ A + (M + b) * W → P + b' * 2 ^ 64 ≡ left + M + b → all ≡ T + left * W
    → A + b' * N ≡ all + Z
last N W T Z A P M b left b' all n s z v = rw (n, v) (omega (arith, ap (λ (x : ℕ). x * W) z))

pub settle_begins : (low above words : List ℕ) → SettledTo low above words 0 0 0 0
settle_begins low above words = record { total = rw (number_nil lane_bits, number_nil word_bits) (omega arith); small = omega arith }

module _ {low above words : List ℕ} {i plus minus borrow : ℕ} (L : Lanes low above) (long : length words ≡ word_count) where
  pub settle_next : {up P' down M' left b' : ℕ} → i < 32 → SettledTo low above words i plus minus borrow
      → Paired low above (2 * i) plus up P' → Paired low above (side_lanes + 2 * i) minus down M'
      → Carries word_bits left down borrow up b' → SettledTo low above (set words i left) (i + 1) P' M' b'
  settle_next {up} {P'} {down} {M'} {left} {b'} h S x y z =
      let W = 2 ^ (word_bits * i) in
      let a : 64 + 2 * i + 1 ≡ 64 + (2 * i + 1) = omega arith in
      let l = length-drop side_lanes low in
      let m = length-drop side_lanes above in
      let first = L.first in
      let second = L.second in
      let t = step W (number word_bits (take i words)) (side_of (take (2 * i) (drop side_lanes low)) (take (2 * i) (drop side_lanes above)))
      (side_of (take (2 * i) low) (take (2 * i) above)) plus minus borrow up down left b' P' M' _ _ _ _ _ _ _ _ S.total x.total y.total z.total in
      record {
        total =
            rw (
              pair_next low i (omega arith),
              pair_next above i (omega arith),
              pair_next (drop side_lanes low) i (omega arith),
              pair_next (drop side_lanes above) i (omega arith),
              get_or-drop side_lanes low (2 * i) 0,
              get_or-drop side_lanes above (2 * i) 0,
              get_or-drop side_lanes low (2 * i + 1) 0,
              get_or-drop side_lanes above (2 * i + 1) 0,
              add-one i,
              number_next_set word_bits words {i = i} left (omega arith),
              weight_next word_bits i,
              ← a,
            )
            (omega (arith, t));
        small = z.small;
      }

  pub settle_ends : {left b' : ℕ} → i ≡ 32 → SettledTo low above words i plus minus borrow → Carries word_bits left minus borrow plus b'
      → (lane_sides low above).up + b' * 2 ^ register_bits ≡ number word_bits (set words 32 left) + (lane_sides low above).dn
  settle_ends {left} {b'} e S z =
      let k : SettledTo low above words 32 plus minus borrow = subst (λ (j : ℕ). SettledTo low above words j plus minus borrow) e S in
      let f : take 64 (drop side_lanes low) ≡ drop side_lanes low = take_all 64 (drop side_lanes low) (omega (arith, length-drop side_lanes low, L.first)) in
      let g : take 64 (drop side_lanes above) ≡ drop side_lanes above =
      take_all 64 (drop side_lanes above) (omega (arith, length-drop side_lanes above, L.second)) in
      let a : take (suc 32) (set words 32 left) ≡ set words 32 left = take_all (suc 32) (set words 32 left) (omega (arith, length-set words 32 left)) in
      let v : number word_bits (set words 32 left) ≡ number word_bits (take 32 words) + left * 2 ^ (word_bits * 32) =
      ap (number word_bits) (sym a) ∙ number_next_set word_bits words {i = 32} left (omega arith) in
      last (2 ^ register_bits) (2 ^ (word_bits * 32)) _ _ _ plus minus borrow left b' _ (weight_next word_bits 32) (rw (f, g) at k.total) z.total v

-- words that differ from a difference by a borrow out of the top are its words
congruent : (N A b all Z : ℕ) → A + b * N ≡ all + Z → A + (0 + N * b) ≡ all + N * 0 + Z
congruent N A b all Z e = omega arith

pub settle_words : {ws : List ℕ} (a : Whole) (b : ℕ) → Held ws → a.up + b * 2 ^ register_bits ≡ number word_bits ws + a.dn → ws ≡ words_of (int a)
settle_words {ws} a b E e =
    cut_only word_bits word_count (int a) E
    (residue_only register_bits {a = a} (words_lt word_bits word_count E)
    (record { times = record { up = 0; dn = b }; is = congruent (2 ^ register_bits) a.up b (number word_bits ws) a.dn e }))
