-- Settling lane by lane: what is left of a lane and what it hands on come to the lane, and the digits and the last carry of many lanes come to their whole
-- number and what was carried in. Assumes nothing.
use Rattle.std.specs.Prelude.{◌≡◌, refl, List, [], ◌∷◌, ◌++◌, ℕ, suc, ◌*◌, ◌^◌, ◌<◌, ℤ, pos, negsuc, ◌+ℤ◌, ◌*ℤ◌, length, get_or, take}
use Rattle.std.proofs.Common.{ap, div-add-mod', mod-lt, arith, pow_pos, take-suc}
use Rattle.units.specs.Whole.{nat, ◌⊕◌, ◌⊗◌, ◌≈◌, difference}
use Rattle.lists.specs.Digits.{number, Digits, residue}
use Rattle.lists.specs.DigitLaws.{weight_zero, weight_next, number_nil, number_cons, digits_more}
use Rattle.lists.proofs.TwosComplement.{residue_lt}
use Rattle.lanes.specs.Lanes.{lane_bits, lane_sum}
use Rattle.lanes.specs.Settle.{lane_digit, handed_on, lane_digits, lane_carry, carry_into}
use Rattle.lanes.proofs.SumLaws.{plus_is, times_is, same_is, sum_is, sum_nil}

-- ---- one lane
lane_is : (t : ℤ) → difference t ≈ nat (lane_digit t) ⊕ 2 ^ lane_bits ⊗ difference (handed_on t)
unfolding residue
lane_is (pos n) = omega (arith, div-add-mod' n (2 ^ lane_bits))
lane_is (negsuc n) = omega (arith, div-add-mod' n (2 ^ lane_bits), mod-lt n (pow_pos lane_bits))

pub lane_splits : (t : ℤ) → t ≡ pos (lane_digit t) +ℤ pos (2 ^ lane_bits) *ℤ handed_on t
lane_splits t =
    same_is t (pos (lane_digit t) +ℤ pos (2 ^ lane_bits) *ℤ handed_on t)
    (omega (arith, lane_is t, plus_is (pos (lane_digit t)) (pos (2 ^ lane_bits) *ℤ handed_on t), times_is (2 ^ lane_bits) (handed_on t)))

pub digit_lt : (t : ℤ) → lane_digit t < 2 ^ lane_bits
digit_lt t = residue_lt lane_bits t

-- ---- many lanes: what is carried in, and the lowest
digits_nil : (c : ℤ) → lane_digits c [] ≡ []
unfolding lane_digits
digits_nil c = refl

digits_cons : (c z : ℤ) (zs : List ℤ) → lane_digits c (z ∷ zs) ≡ lane_digit (z +ℤ c) ∷ lane_digits (handed_on (z +ℤ c)) zs
unfolding lane_digits
digits_cons c z zs = refl

carry_nil : (c : ℤ) → lane_carry c [] ≡ c
unfolding lane_carry
carry_nil c = refl

carry_cons : (c z : ℤ) (zs : List ℤ) → lane_carry c (z ∷ zs) ≡ lane_carry (handed_on (z +ℤ c)) zs
unfolding lane_carry
carry_cons c z zs = refl

pub digits_count : (c : ℤ) (zs : List ℤ) → length (lane_digits c zs) ≡ length zs
unfolding lane_digits
digits_count c [] = refl
digits_count c (z ∷ zs) = ap suc (digits_count (handed_on (z +ℤ c)) zs)

pub digits_small : (c : ℤ) (zs : List ℤ) → Digits lane_bits (lane_digits c zs)
unfolding lane_digits
digits_small c [] = record { below = λ i. pow_pos lane_bits }
digits_small c (z ∷ zs) = digits_more lane_bits (digit_lt (z +ℤ c)) (digits_small (handed_on (z +ℤ c)) zs)

-- lanes above lanes take their carry
pub digits_join : (c : ℤ) (xs ys : List ℤ) → lane_digits c (xs ++ ys) ≡ lane_digits c xs ++ lane_digits (lane_carry c xs) ys
unfolding lane_digits lane_carry
digits_join c [] ys = refl
digits_join c (x ∷ xs) ys = ap (λ (ds : List ℕ). lane_digit (x +ℤ c) ∷ ds) (digits_join (handed_on (x +ℤ c)) xs ys)

pub carry_join : (c : ℤ) (xs ys : List ℤ) → lane_carry c (xs ++ ys) ≡ lane_carry (lane_carry c xs) ys
unfolding lane_carry
carry_join c [] ys = refl
carry_join c (x ∷ xs) ys = carry_join (handed_on (x +ℤ c)) xs ys

-- one lane more
module _ (zs : List ℤ) (i : ℕ) (h : i < length zs) where
  abbrev pub lane_at : ℤ
  lane_at = get_or zs i (pos 0) +ℤ carry_into zs i

  pub carry_next : carry_into zs (suc i) ≡ handed_on lane_at
  unfolding lane_carry
  carry_next = rw (take-suc zs i (pos 0) h, carry_join (pos 0) (take i zs) (get_or zs i (pos 0) ∷ []))

  pub digits_next : lane_digits (pos 0) (take (suc i) zs) ≡ lane_digits (pos 0) (take i zs) ++ (lane_digit lane_at ∷ [])
  unfolding lane_digits
  digits_next = rw (take-suc zs i (pos 0) h, digits_join (pos 0) (take i zs) (get_or zs i (pos 0) ∷ []))

-- ---- the digits and the last carry come to the lanes and what was carried in
pub settle_is : (c : ℤ) (zs : List ℤ)
    → difference (lane_sum zs) ⊕ difference c ≈ nat (number lane_bits (lane_digits c zs)) ⊕ 2 ^ (lane_bits * length zs) ⊗ difference (lane_carry c zs)
settle_is c [] = rw (sum_nil, digits_nil c, number_nil lane_bits, carry_nil c, weight_zero lane_bits) (omega arith)
settle_is c (z ∷ zs) =
    let t = z +ℤ c in
    rw (digits_cons c z zs, number_cons lane_bits (lane_digit t) (lane_digits (handed_on t) zs), carry_cons c z zs, weight_next lane_bits (length zs))
    (omega (
      arith,
      sum_is z zs,
      plus_is z c,
      lane_is t,
      ap (λ (n : ℕ). 2 ^ lane_bits * n) (settle_is (handed_on t) zs),
    ))

pub settle_value : (c : ℤ) (zs : List ℤ)
    → lane_sum zs +ℤ c ≡ pos (number lane_bits (lane_digits c zs)) +ℤ pos (2 ^ (lane_bits * length zs)) *ℤ lane_carry c zs
settle_value c zs =
    let n = number lane_bits (lane_digits c zs) in
    let w = 2 ^ (lane_bits * length zs) in
    let r = lane_carry c zs in
    same_is (lane_sum zs +ℤ c) (pos n +ℤ pos w *ℤ r)
    (omega (arith, plus_is (lane_sum zs) c, plus_is (pos n) (pos w *ℤ r), times_is w r, settle_is c zs))
