-- The head of a number of words, from its upper words. Assumes nothing.
use Rattle.std.specs.Prelude.{◌≡◌, ℕ, suc, ◌+◌, ◌-◌, ◌*◌, ◌/◌, ◌%◌, ◌^◌, ◌<◌, ◌≤◌, Bool, false, List, length, take, nat_lt, slice_index}
use Rattle.std.proofs.Common.{Fits, w64, get_or, ap, mul_comm, div-one, pow_pos}
use Rattle.std.proofs.Math.Nat.{mul-suc, mod-one}
use native.Mathlib.Omega.{arith}
use Rattle.std.specs.Float.Ieee.{size}
use Rattle.std.specs.Float.Ieee.Digits.{size-le}
use Rattle.units.specs.Rounding.{dropped}
use Rattle.units.proofs.NaturalRounding.{dropped_le}
use Rattle.lists.specs.Digits.{number, Digits}
use Rattle.lists.specs.DigitLaws.{weight_next}
use Rattle.lists.proofs.WordShifts.{cut_some}
use Rattle.lists.specs.LeadingDigits.{Used, one_word, leading_size, leading_digits, leading_rest}
use Rattle.words.specs.Words.{word_bits}
use Rattle.nearest.specs.Head.{head_of}

-- words of 64 bits are digits
pub words_fit : {ws : List ℕ} → ((i : ℕ) → Fits w64 (get_or ws i 0)) → Digits word_bits ws
words_fit f = record { below = λ i. (f i).fits }

-- ---- how many digits stand below the leading w

-- of m + 1 words those of m at most
pub below_most : (w m : ℕ) {n : ℕ} → n < 2 ^ (w * suc m) → dropped w n ≤ w * m
below_most w m {n} h = dropped_le w n (rw (mul_comm (2 ^ w) (2 ^ (w * m)), ← (weight_next w m)) h)

module _ (w : ℕ) (ds : List ℕ) (n : ℕ) (D : Digits w ds) (U : Used w ds (length ds) n) where
  below_none : n < 2 → dropped w (number w ds) ≡ 0
  below_none h =
      let l : dropped w (number w ds) ≤ 0 = dropped_le w (number w ds) (rw (one_word w ds U h) (omega (arith, D.below 0))) in
      omega arith

  below_some : 2 ≤ n → dropped w (number w ds) ≡ w * (n - 2) + size (slice_index ds (n - 1))
  unfolding dropped
  below_some h = rw (leading_size w ds n D U h, mul-suc w (n - 2)) (count (size (slice_index ds (n - 1))) (w * (n - 2)))
    where
      count : (y k : ℕ) → y + (k + w) - w ≡ k + y
      count y k = omega arith

-- ---- the head

module _ (ds : List ℕ) (n : ℕ) (D : Digits word_bits ds) (U : Used word_bits ds (length ds) n) where
  pub head_one : n < 2 → record { digits = slice_index ds 0; below = 0; rest = false } ≡ head_of (number word_bits ds)
  head_one h = rw (below_none word_bits ds n D U h, one_word word_bits ds U h, div-one (slice_index ds 0), mod-one (slice_index ds 0))

  pub head_two : 2 ≤ n → (y : ℕ) → y ≡ size (slice_index ds (n - 1)) → record {
    digits = slice_index ds (n - 1) * 2 ^ (word_bits - y) + slice_index ds (n - 2) / 2 ^ y;
    below = word_bits * (n - 2) + y;
    rest = nat_lt 0 (slice_index ds (n - 2) * 2 ^ (word_bits - y) % 2 ^ word_bits + number word_bits (take (n - 2) ds));
  } ≡ head_of (number word_bits ds)
  head_two h y e =
      rw (below_some word_bits ds n D U h, leading_digits word_bits ds n D U h, leading_rest word_bits ds n D U h, ← e)
      (ap (λ (r : Bool). record { digits = a * 2 ^ (word_bits - y) + b / 2 ^ y; below = word_bits * (n - 2) + y; rest = r })
      (cut_some (rw e (size-le a word_bits (D.below (n - 1)))) b (number word_bits (take (n - 2) ds)) (2 ^ (word_bits * (n - 2)))
      (pow_pos (word_bits * (n - 2)))))
    where
      a : ℕ
      a = slice_index ds (n - 1)

      b : ℕ
      b = slice_index ds (n - 2)
