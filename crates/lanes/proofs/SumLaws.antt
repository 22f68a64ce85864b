-- The whole number that lanes stand for, as a difference of naturals: of joined lanes, of lanes with others put into them lane by lane, and of digits with a
-- sign. Assumes nothing.
use Rattle.std.specs.Prelude.{◌≡◌, refl, List, [], ◌∷◌, ◌++◌, map, ℕ, zero, suc, ◌*◌, ◌^◌, ℤ, pos, negsuc, neg_ℤ, ◌+ℤ◌, ◌*ℤ◌, length}
use Rattle.std.proofs.Common.{sym, ap, ◌∙◌, arith}
use Rattle.units.specs.Whole.{nat, neg, ◌⊕◌, ◌⊗◌, ◌≈◌, difference}
use Rattle.units.proofs.Integers.{int_plus, int_difference, int_back, int_same}
use Rattle.lists.specs.Digits.{number}
use Rattle.lists.specs.DigitLaws.{weight_zero, weight_next, number_nil, number_cons}
use Rattle.lanes.specs.Lanes.{lane_bits, lane_sum, plus_lanes}

-- ---- sums, products and negation of integers, as those of differences
pub plus_is : (y z : ℤ) → difference (y +ℤ z) ≈ difference y ⊕ difference z
plus_is y z =
    int_back (difference (y +ℤ z)) (difference y ⊕ difference z)
    (rw (int_difference, int_plus (difference y) (difference z), int_difference y, int_difference z))

negative_is : (n : ℕ) → difference (neg_ℤ (pos n)) ≈ neg (nat n)
negative_is zero = omega arith
negative_is (suc n) = omega arith

pub times_is : (n : ℕ) (z : ℤ) → difference (pos n *ℤ z) ≈ n ⊗ difference z
times_is n (pos m) = omega arith
times_is n (negsuc m) = omega (arith, negative_is (n * suc m))

-- two integers with the same difference
pub same_is : (y z : ℤ) → difference y ≈ difference z → y ≡ z
same_is y z e = sym (int_difference y) ∙ int_same (difference y) (difference z) e ∙ int_difference z

-- ---- the lowest lane and the others
pub sum_is : (z : ℤ) (zs : List ℤ) → difference (lane_sum (z ∷ zs)) ≈ difference z ⊕ 2 ^ lane_bits ⊗ difference (lane_sum zs)
unfolding lane_sum
sum_is z zs = omega (arith, plus_is z (pos (2 ^ lane_bits) *ℤ lane_sum zs), times_is (2 ^ lane_bits) (lane_sum zs))

pub sum_nil : lane_sum [] ≡ pos 0
unfolding lane_sum
sum_nil = refl

-- ---- lanes above lanes
pub sum_append : (xs ys : List ℤ) → difference (lane_sum (xs ++ ys)) ≈ difference (lane_sum xs) ⊕ 2 ^ (lane_bits * length xs) ⊗ difference (lane_sum ys)
sum_append [] ys = rw (sum_nil, weight_zero lane_bits) (omega arith)
sum_append (x ∷ xs) ys =
    let e = sum_append xs ys in
    rw (weight_next lane_bits (length xs))
    (omega (arith, sum_is x xs, sum_is x (xs ++ ys), ap (λ (n : ℕ). 2 ^ lane_bits * n) e))

-- ---- lane by lane
pub sum_plus : (zs ds : List ℤ) → length ds ≡ length zs → lane_sum (plus_lanes zs ds) ≡ lane_sum zs +ℤ lane_sum ds
unfolding plus_lanes
sum_plus zs ds l = same_is (lane_sum (plus_lanes zs ds)) (lane_sum zs +ℤ lane_sum ds) (omega (arith, go zs ds l, plus_is (lane_sum zs) (lane_sum ds)))
  where
    go : (zs ds : List ℤ) → length ds ≡ length zs → difference (lane_sum (plus_lanes zs ds)) ≈ difference (lane_sum zs) ⊕ difference (lane_sum ds)
    go [] [] l = rw sum_nil (omega arith)
    go [] (d ∷ ds) l = absurd (omega arith)
    go (z ∷ zs) [] l = absurd (omega arith)
    go (z ∷ zs) (d ∷ ds) l =
        omega (
          arith,
          sum_is z zs,
          sum_is d ds,
          sum_is (z +ℤ d) (plus_lanes zs ds),
          plus_is z d,
          ap (λ (n : ℕ). 2 ^ lane_bits * n) (go zs ds (omega arith)),
        )

-- ---- digits, and digits with a minus sign
pub sum_digits : (ds : List ℕ) → lane_sum (map pos ds) ≡ pos (number lane_bits ds)
sum_digits ds = same_is (lane_sum (map pos ds)) (pos (number lane_bits ds)) (go ds)
  where
    go : (ds : List ℕ) → difference (lane_sum (map pos ds)) ≈ nat (number lane_bits ds)
    go [] = rw (sum_nil, number_nil lane_bits) (omega arith)
    go (d ∷ ds) = rw (number_cons lane_bits d ds) (omega (arith, sum_is (pos d) (map pos ds), ap (λ (n : ℕ). 2 ^ lane_bits * n) (go ds)))

pub sum_minus : (ds : List ℕ) → lane_sum (map (λ d. neg_ℤ (pos d)) ds) ≡ neg_ℤ (pos (number lane_bits ds))
sum_minus ds =
    same_is (lane_sum (map (λ d. neg_ℤ (pos d)) ds)) (neg_ℤ (pos (number lane_bits ds))) (omega (arith, go ds, negative_is (number lane_bits ds)))
  where
    go : (ds : List ℕ) → difference (lane_sum (map (λ d. neg_ℤ (pos d)) ds)) ≈ neg (nat (number lane_bits ds))
    go [] = rw (sum_nil, number_nil lane_bits) (omega arith)
    go (d ∷ ds) =
        rw (number_cons lane_bits d ds)
        (omega (arith, sum_is (neg_ℤ (pos d)) (map (λ d. neg_ℤ (pos d)) ds), negative_is d, ap (λ (n : ℕ). 2 ^ lane_bits * n) (go ds)))
