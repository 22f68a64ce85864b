-- The top lane with its carry tells whether lanes are in range; settled lanes and words are the digits that settling leaves, the top one signed; and settling
-- changes the whole number by nothing. Assumes nothing.
use Rattle.std.specs.Prelude.{◌≡◌, true, List, [], ◌∷◌, ◌++◌, map, ℕ, suc, ◌+◌, ◌-◌, ◌*◌, ◌^◌, ◌≤◌, ◌<◌, ℤ, pos, ◌+ℤ◌, length, get_or, take}
use Rattle.std.proofs.Common.{sym, ap, ◌∙◌, inl, inr, mul-le-mul_left, arith, lit<, pow-add, length-take-le, take-suc, take_all, take_at}
use Rattle.std.proofs.lemmas.List.{get_or_at}
use Rattle.units.proofs.Powers.{le_or_lt}
use Rattle.units.specs.Whole.{Whole, nat, ◌⊕◌, ◌⊗◌, ◌≈◌, int, difference}
use Rattle.units.proofs.Integers.{int_difference}
use Rattle.lists.specs.Digits.{number, digits, residue, signed, inside}
use Rattle.lists.proofs.TwosComplement.{residue_only, signed_residue, inside_yes, inside_above, inside_below}
use Rattle.lists.specs.SignedDigits.{cut, Words}
use Rattle.lists.proofs.SignedDigits.{words_lt, cut_only}
use Rattle.words.specs.Words.{register_bits}
use Rattle.lanes.specs.Lanes.{lane_bits, lane_count, low_lanes, lane_sum, settled_lanes}
use Rattle.lanes.specs.Settle.{lane_digit, lane_digits, lane_carry, top_lane}
use Rattle.lanes.proofs.SumLaws.{plus_is, sum_is, sum_nil, sum_append}
use Rattle.lanes.proofs.SettleLaws.{digits_count, digits_small, digits_join, settle_is}

-- ---- a number of q bits below t: the whole is in range where t is
module _ (q b : ℕ) (B : 0 < b) (n : ℕ) (N : n < 2 ^ q) (t : ℤ) (a : Whole) (e : a ≈ nat n ⊕ 2 ^ q ⊗ difference t) where
  half : 2 ^ (q + b - 1) ≡ 2 ^ q * 2 ^ (b - 1)
  half =
      let i : q + b - 1 ≡ q + (b - 1) = omega arith in
      ap (λ (x : ℕ). 2 ^ x) i ∙ pow-add 2 q (b - 1)

  inside_top : inside (q + b) (int a) ≡ inside b t
  inside_top = go ∙ ap (inside b) (int_difference t)
    where
      go : inside (q + b) (int a) ≡ inside b (int (difference t))
      go = elim (le_or_lt (2 ^ (b - 1) + (difference t).dn) (difference t).up) [
        | inl g ↦
            let m : 2 ^ q * (2 ^ (b - 1) + (difference t).dn) ≤ 2 ^ q * (difference t).up = mul-le-mul_left (2 ^ q) g in
            inside_above (q + b) a (rw half (omega arith)) ∙ sym (inside_above b (difference t) (omega arith))
        | inr g ↦ elim (le_or_lt (difference t).dn ((difference t).up + 2 ^ (b - 1))) [
          | inl h ↦
              let m : 2 ^ q * suc (difference t).up ≤ 2 ^ q * (2 ^ (b - 1) + (difference t).dn) = mul-le-mul_left (2 ^ q) g in
              let k : 2 ^ q * (difference t).dn ≤ 2 ^ q * ((difference t).up + 2 ^ (b - 1)) = mul-le-mul_left (2 ^ q) h in
              inside_yes (q + b) a (rw half (omega arith)) (rw half (omega arith)) ∙ sym (inside_yes b (difference t) (omega arith) (omega arith))
          | inr h ↦
              let m : 2 ^ q * suc ((difference t).up + 2 ^ (b - 1)) ≤ 2 ^ q * (difference t).dn = mul-le-mul_left (2 ^ q) h in
              inside_below (q + b) a (rw half (omega arith)) ∙ sym (inside_below b (difference t) (omega arith))
        ]
      ]

-- ---- lanes into which nothing is carried: their digits are those of their whole number, what does not fit cut off
module _ (n : ℕ) (zs : List ℤ) (l : length zs ≡ n) where
  lane_words : Words lane_bits n (lane_digits (pos 0) zs)
  lane_words = record { long = digits_count (pos 0) zs ∙ l; below = digits_small (pos 0) zs }

  lane_number : number lane_bits (lane_digits (pos 0) zs) < 2 ^ (lane_bits * n)
  lane_number = words_lt lane_bits n lane_words

  lane_total : difference (lane_sum zs) ≈ nat (number lane_bits (lane_digits (pos 0) zs)) ⊕ 2 ^ (lane_bits * n) ⊗ difference (lane_carry (pos 0) zs)
  lane_total = let e = rw l at (settle_is (pos 0) zs) in omega (arith, e)

  lane_residue : residue (lane_bits * n) (lane_sum zs) ≡ number lane_bits (lane_digits (pos 0) zs)
  lane_residue =
      ap (residue (lane_bits * n)) (sym (int_difference (lane_sum zs)))
      ∙ residue_only (lane_bits * n) lane_number (record { times = difference (lane_carry (pos 0) zs); is = lane_total })

  lane_digits_lem : cut lane_bits n (lane_sum zs) ≡ lane_digits (pos 0) zs
  lane_digits_lem = sym (cut_only lane_bits n (lane_sum zs) lane_words lane_residue)

-- ---- n lanes, and one on top
module _ (n : ℕ) (xs : List ℤ) (l : length xs ≡ n) (z : ℤ) where
  top_total : difference (lane_sum (xs ++ (z ∷ [])))
      ≈ nat (number lane_bits (lane_digits (pos 0) xs)) ⊕ 2 ^ (lane_bits * n) ⊗ difference (z +ℤ lane_carry (pos 0) xs)
  top_total =
      let below = rw l at (sum_append xs (z ∷ [])) in
      let one = rw sum_nil at (sum_is z []) in
      omega (
        arith,
        below,
        lane_total n xs l,
        ap (λ (x : ℕ). 2 ^ (lane_bits * n) * x) one,
        ap (λ (x : ℕ). 2 ^ (lane_bits * n) * x) (plus_is z (lane_carry (pos 0) xs)),
      )

  top_inside : inside (lane_bits * n + lane_bits) (lane_sum (xs ++ (z ∷ []))) ≡ inside lane_bits (z +ℤ lane_carry (pos 0) xs)
  top_inside =
      ap (inside (lane_bits * n + lane_bits)) (sym (int_difference (lane_sum (xs ++ (z ∷ [])))))
      ∙ inside_top (lane_bits * n) lane_bits (lit< tt) (number lane_bits (lane_digits (pos 0) xs)) (lane_number n xs l)
      (z +ℤ lane_carry (pos 0) xs) (difference (lane_sum (xs ++ (z ∷ [])))) top_total

  top_digits : lane_digits (pos 0) (xs ++ (z ∷ [])) ≡ lane_digits (pos 0) xs ++ (lane_digit (z +ℤ lane_carry (pos 0) xs) ∷ [])
  unfolding lane_digits
  top_digits = digits_join (pos 0) xs (z ∷ [])

-- ---- all 66 lanes
module _ (zs : List ℤ) (l : length zs ≡ lane_count) where
  low_count : length (take 65 zs) ≡ 65
  low_count = length-take-le 65 zs (omega arith)

  with_top : take 65 zs ++ (get_or zs 65 (pos 0) ∷ []) ≡ zs
  with_top = sym (take-suc zs 65 (pos 0) (omega arith)) ∙ take_all 66 zs (omega arith)

  -- rule R9, by one lane
  pub lanes_inside : inside register_bits (lane_sum zs) ≡ inside lane_bits (top_lane zs)
  lanes_inside =
      ap (λ (ys : List ℤ). inside register_bits (lane_sum ys)) (sym with_top)
      ∙ top_inside 65 (take 65 zs) low_count (get_or zs 65 (pos 0))

  all_digits : lane_digits (pos 0) zs ≡ lane_digits (pos 0) (take 65 zs) ++ (lane_digit (top_lane zs) ∷ [])
  all_digits = ap (lane_digits (pos 0)) (sym with_top) ∙ top_digits 65 (take 65 zs) low_count (get_or zs 65 (pos 0))

  lanes_digits : digits lane_bits lane_count (residue register_bits (lane_sum zs)) ≡ lane_digits (pos 0) (take 65 zs) ++ (lane_digit (top_lane zs) ∷ [])
  lanes_digits = lane_digits_lem lane_count zs l ∙ all_digits

  -- rule N5, by the digits
  pub lanes_settled_lem : inside register_bits (lane_sum zs) ≡ true
      → settled_lanes (lane_sum zs) ≡ map pos (lane_digits (pos 0) (take low_lanes zs)) ++ (top_lane zs ∷ [])
  lanes_settled_lem h =
      let ds = lane_digits (pos 0) (take 65 zs) in
      let count : length ds ≡ 65 = digits_count (pos 0) (take 65 zs) ∙ low_count in
      let top : signed lane_bits (lane_digit (top_lane zs)) ≡ top_lane zs = signed_residue lane_bits (lit< tt) (top_lane zs) (sym lanes_inside ∙ h) in
      rw (lanes_digits, take_at ds (lane_digit (top_lane zs) ∷ []) 65 count, get_or_at ds (lane_digit (top_lane zs)) [] 0 65 count)
      (ap (λ (z : ℤ). map pos ds ++ (z ∷ [])) top)
