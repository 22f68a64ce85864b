-- Settled lanes: their range, that they have room, that their whole number is the one that was settled, and the words two by two from their digits.
-- Assumes nothing.
use Rattle.std.specs.Prelude.{◌≡◌, true, ℕ, suc, ◌+◌, ◌*◌, ◌^◌, ◌<◌, ℤ, pos, negsuc, length, get_or, take}
use Rattle.std.proofs.Math.Path.{refl}
use Rattle.std.proofs.Common.{sym, ap, ◌∙◌, arith, ltb-true, lit<, length-append, length-take-le, take-suc, take_all, get_or-take}
use mathlib.Core.List.{List, [], ◌∷◌, ◌++◌, map, map-append}
use Rattle.std.proofs.Math.Nat.{mod-eq_of_lt}
use Rattle.std.proofs.lemmas.List.{length-map, get_or_at}
use Rattle.std.proofs.Math.ListN.{get_or-map, get_or-append}
use Rattle.units.specs.Whole.{int}
use Rattle.units.proofs.Integers.{int_is}
use Rattle.lists.specs.Digits.{number, digits, Digits, residue, signed, inside}
use Rattle.lists.specs.DigitLaws.{weight_next, digits_head, digits_tail, digits_take}
use Rattle.lists.specs.Each.{Each, each_join, each_weaker}
use Rattle.lists.specs.LowestDigits.{number_next}
use Rattle.lists.proofs.TwosComplement.{stands_for, signed_is, signed_inside, residue_signed}
use Rattle.lists.specs.SignedDigits.{cut, whole, Words}
use Rattle.lists.proofs.SignedDigits.{cut_words, cut_number, words_lt, cut_only, whole_cut, top_digit_lem}
use Rattle.words.specs.Words.{word_bits, word_count, register_bits, words_of}
use Rattle.lanes.specs.Lanes.{lane_bits, lane_count, low_lanes, lane_sum, settled_lanes}
use Rattle.lanes.specs.Settle.{pairs}
use Rattle.lanes.specs.Table.{Small, WithinLimit, Roomy}
use Rattle.lanes.proofs.PairLaws.{pairs_number, pairs_count, pairs_below}
use Rattle.lanes.proofs.SumLaws.{same_is, sum_is, sum_nil, sum_append, sum_digits}

-- ---- n digits and a signed one on top stand for what all the digits stand for in two's complement
module _ (n : ℕ) {ds : List ℕ} (D : Words lane_bits (suc n) ds) where
  abbrev low : List ℤ
  low = map pos (take n ds)

  abbrev top_digit : ℕ
  top_digit = get_or ds n 0

  low_count : length low ≡ n
  low_count = length-map (take n ds) pos ∙ length-take-le n ds (omega (arith, D.long))

  all_number : number lane_bits ds ≡ number lane_bits (take n ds) + top_digit * 2 ^ (lane_bits * n)
  all_number = ap (number lane_bits) (sym (take_all (suc n) ds (omega (arith, D.long)))) ∙ number_next lane_bits ds {i = n} (omega (arith, D.long))

  signed_sum : lane_sum (low ++ (signed lane_bits top_digit ∷ [])) ≡ whole lane_bits (suc n) ds
  signed_sum =
      let t = signed lane_bits top_digit in
      let w = whole lane_bits (suc n) ds in
      let some : 0 < lane_bits * suc n = omega arith in
      let joined = rw (low_count, sum_digits (take n ds)) at (sum_append low (t ∷ [])) in
      let one = rw sum_nil at (sum_is t []) in
      let t-is = rw (← (signed_is lane_bits (lit< tt) top_digit (D.below.below n))) at (int_is (stands_for lane_bits top_digit)) in
      let all : w ≡ int (stands_for (lane_bits * suc n) (number lane_bits ds)) =
      signed_is (lane_bits * suc n) some (number lane_bits ds) (words_lt lane_bits (suc n) D) in
      let w-is =
      rw (← all, top_digit_lem lane_bits (lit< tt) n D, weight_next lane_bits n) at (int_is (stands_for (lane_bits * suc n) (number lane_bits ds))) in
      same_is (lane_sum (low ++ (t ∷ []))) w
      (omega (
        arith,
        joined,
        ap (λ (x : ℕ). 2 ^ (lane_bits * n) * x) one,
        ap (λ (x : ℕ). 2 ^ (lane_bits * n) * x) t-is,
        w-is,
        all_number,
      ))

  -- their digits are those
  low_digits : (es : List ℕ) → Digits lane_bits es → map (residue lane_bits) (map pos es) ≡ es
  unfolding residue
  low_digits [] E = refl
  low_digits (e ∷ es) E = λ i. mod-eq_of_lt (digits_head lane_bits E) i ∷ low_digits es (digits_tail lane_bits E) i

  signed_digits : map (residue lane_bits) (low ++ (signed lane_bits top_digit ∷ [])) ≡ ds
  signed_digits =
      rw (
        map-append (residue lane_bits) low (signed lane_bits top_digit ∷ []),
        low_digits (take n ds) (digits_take lane_bits n ds D.below),
        residue_signed lane_bits (lit< tt) top_digit (D.below.below n),
      )
      (sym (take-suc ds n 0 (omega (arith, D.long))) ∙ take_all (suc n) ds (omega (arith, D.long)))

  -- and each is below 2 ^ 32
  low_small : (es : List ℕ) → Digits lane_bits es → Each Small (map pos es)
  low_small [] E = tt
  low_small (e ∷ es) E = (digits_head lane_bits E, low_small es (digits_tail lane_bits E))

  signed_small : (t : ℤ) → inside lane_bits t ≡ true → Small t
  signed_small (pos m) h = omega (arith, ltb-true m (2 ^ 31) h)
  signed_small (negsuc m) h = omega (arith, ltb-true m (2 ^ 31) h)

  all_small : Each Small (low ++ (signed lane_bits top_digit ∷ []))
  all_small =
      each_join Small low (signed lane_bits top_digit ∷ []) (low_small (take n ds) (digits_take lane_bits n ds D.below))
      (signed_small (signed lane_bits top_digit) (signed_inside lane_bits (lit< tt) top_digit (D.below.below n)), tt)

-- ---- the lanes of a whole number
module _ (z : ℤ) where
  abbrev lanes_words : Words lane_bits lane_count (cut lane_bits lane_count z)
  lanes_words = cut_words lane_bits lane_count z

  -- settling changes the whole number by nothing
  pub settled_sum : inside register_bits z ≡ true → lane_sum (settled_lanes z) ≡ z
  settled_sum h = signed_sum 65 lanes_words ∙ whole_cut lane_bits lane_count (lit< tt) z h

  pub settled_count : length (settled_lanes z) ≡ lane_count
  settled_count = length-append (low 65 lanes_words) (signed lane_bits (top_digit 65 lanes_words) ∷ []) ∙ ap (λ (n : ℕ). n + 1) (low_count 65 lanes_words)

  -- rule N5: each lane from 0 to 2 ^ 32 - 1, the top one from -2 ^ 31 to 2 ^ 31 - 1
  pub settled_low : (i : ℕ) → i < low_lanes → (d : ℕ) × (get_or (settled_lanes z) i (pos 0) ≡ pos d) × (d < 2 ^ lane_bits)
  settled_low i h =
      let ds = cut lane_bits lane_count z in
      let e : get_or (low 65 lanes_words) i (pos 0) ≡ pos (get_or (take 65 ds) i 0) = get_or-map pos (take 65 ds) i 0 in
      let l : i < length (low 65 lanes_words) = rw (low_count 65 lanes_words) h in (
        get_or ds i 0,
        get_or-append (low 65 lanes_words) (signed lane_bits (top_digit 65 lanes_words) ∷ []) (pos 0) i l ∙ e ∙ ap pos (get_or-take 65 ds i 0 h),
        lanes_words.below.below i,
      )

  pub settled_top : inside lane_bits (get_or (settled_lanes z) low_lanes (pos 0)) ≡ true
  settled_top =
      let t = signed lane_bits (top_digit 65 lanes_words) in
      ap (inside lane_bits) (get_or_at (low 65 lanes_words) t [] (pos 0) 65 (low_count 65 lanes_words))
      ∙ signed_inside lane_bits (lit< tt) (top_digit 65 lanes_words) (lanes_words.below.below 65)

  pub settled_small : Each Small (settled_lanes z)
  settled_small = all_small 65 lanes_words

  pub settled_roomy : Roomy 0 (settled_lanes z)
  settled_roomy = record { few = omega arith; lanes = each_weaker Small (WithinLimit 0) (λ x h. omega arith) (settled_lanes z) settled_small }

  pub settled_digits : map (residue lane_bits) (settled_lanes z) ≡ digits lane_bits lane_count (residue register_bits z)
  settled_digits = signed_digits 65 lanes_words

  -- the words, two by two
  pub settled_words : words_of z ≡ pairs (map (residue lane_bits) (settled_lanes z))
  settled_words =
      let ds = cut lane_bits lane_count z in
      let P : Words word_bits word_count (pairs ds) =
      record { long = pairs_count word_count ds lanes_words.long; below = pairs_below ds lanes_words.below } in
      sym (cut_only word_bits word_count z P (sym (pairs_number ds ∙ cut_number lane_bits lane_count z))) ∙ ap pairs (sym settled_digits)
