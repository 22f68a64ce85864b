-- Digits of 32 bits taken two by two: as many digits of 64 bits as half of them, for the same number. Assumes nothing.
use Rattle.std.specs.Prelude.{◌≡◌, refl, List, [], ◌∷◌, ℕ, zero, suc, ◌+◌, ◌*◌, ◌^◌, length, get_or}
use Rattle.std.proofs.Common.{ap, arith, pow_pos}
use Rattle.lists.specs.Digits.{number, Digits}
use Rattle.lists.specs.DigitLaws.{digits_head, digits_tail, digits_more}
use Rattle.words.specs.Words.{word_bits}
use Rattle.lanes.specs.Lanes.{lane_bits}
use Rattle.lanes.specs.Settle.{pairs}

pub pairs_number : (ds : List ℕ) → number word_bits (pairs ds) ≡ number lane_bits ds
unfolding pairs number
pairs_number [] = refl
pairs_number (d ∷ []) = refl
pairs_number (d ∷ e ∷ ds) = omega (arith, pairs_number ds)

pub pairs_count : (n : ℕ) (ds : List ℕ) → length ds ≡ 2 * n → length (pairs ds) ≡ n
unfolding pairs
pairs_count n [] l = omega arith
pairs_count n (d ∷ []) l = absurd (omega arith)
pairs_count zero (d ∷ e ∷ ds) l = absurd (omega arith)
pairs_count (suc n) (d ∷ e ∷ ds) l = ap suc (pairs_count n ds (omega arith))

pub pairs_below : (ds : List ℕ) → Digits lane_bits ds → Digits word_bits (pairs ds)
unfolding pairs
pairs_below [] D = record { below = λ i. pow_pos word_bits }
pairs_below (d ∷ []) D = digits_more word_bits (omega (arith, digits_head lane_bits D)) (record { below = λ i. pow_pos word_bits })
pairs_below (d ∷ e ∷ ds) D =
    digits_more word_bits (omega (arith, digits_head lane_bits D, digits_head lane_bits (digits_tail lane_bits D)))
    (pairs_below ds (digits_tail lane_bits (digits_tail lane_bits D)))

-- at a place
even_next : (i : ℕ) → 2 * suc i ≡ suc (suc (2 * i))
even_next i = omega arith

odd_next : (i : ℕ) → 2 * suc i + 1 ≡ suc (suc (2 * i + 1))
odd_next i = omega arith

pub pairs_at : (ds : List ℕ) (i : ℕ) → get_or (pairs ds) i 0 ≡ get_or ds (2 * i) 0 + get_or ds (2 * i + 1) 0 * 2 ^ lane_bits
unfolding pairs
pairs_at [] i = refl
pairs_at (d ∷ []) zero = omega arith
pairs_at (d ∷ []) (suc i) = rw (odd_next i, even_next i)
pairs_at (d ∷ e ∷ ds) zero = refl
pairs_at (d ∷ e ∷ ds) (suc i) = rw (odd_next i, even_next i) (pairs_at ds i)
