-- Digits in base 2 ^ w: the number of a list that is joined, cut or changed at one place, its bound, and that digits and number determine each other.
-- Assumes nothing.
use Rattle.std.specs.Prelude.{◌≡◌, length, get_or, take, drop, set}
use Rattle.std.proofs.Math.Path.{refl, ap}
use Rattle.std.proofs.Common.{sym, ◌∙◌, mul-zero, mod-lt, div-one, arith, pow-add, take-append-drop, length-take-le, get_or-drop}
use mathlib.Core.List.{List, [], ◌∷◌, ◌++◌}
use Prim.Native.Nat.{ℕ, zero, suc, ◌+◌, ◌*◌, ◌/◌, ◌%◌, ◌^◌, ◌≤◌, ◌<◌}
use Rattle.std.proofs.Math.Nat.{mul-suc, mul_comm, add_comm, div-div-eq-div-mul}
use Rattle.std.proofs.Math.Pow.{pow_pos, mod-pow-add}
use Rattle.std.proofs.Math.Arith.{digits_div, digits_mod, digits_lt}
use Rattle.lists.specs.Digits.{number, digits, Digits}

module _ (w : ℕ) where
  -- the digit at place i weighs 2 ^ (w * i)
  pub weight_next : (i : ℕ) → 2 ^ (w * suc i) ≡ 2 ^ (w * i) * 2 ^ w
  weight_next i = ap (λ (x : ℕ). 2 ^ x) (mul-suc w i) ∙ pow-add 2 (w * i) w

  pub weight_zero : 2 ^ (w * 0) ≡ 1
  weight_zero = ap (λ (x : ℕ). 2 ^ x) (mul-zero w)

  pub number_nil : number w [] ≡ 0
  unfolding number
  number_nil = refl

  pub number_cons : (d : ℕ) (ds : List ℕ) → number w (d ∷ ds) ≡ d + number w ds * 2 ^ w
  unfolding number
  number_cons d ds = refl

  pub number_append : (xs ys : List ℕ) → number w (xs ++ ys) ≡ number w xs + number w ys * 2 ^ (w * length xs)
  unfolding number
  number_append [] ys = rw weight_zero (omega arith)
  number_append (x ∷ xs) ys = rw (number_append xs ys, weight_next (length xs)) (omega arith)

  -- cut at place i
  pub number_cut : (ds : List ℕ) {i : ℕ} → i ≤ length ds → number w ds ≡ number w (take i ds) + number w (drop i ds) * 2 ^ (w * i)
  number_cut ds {i} h =
      ap (number w) (sym (take-append-drop i ds))
      ∙ number_append (take i ds) (drop i ds)
      ∙ ap (λ (k : ℕ). number w (take i ds) + number w (drop i ds) * 2 ^ (w * k)) (length-take-le i ds h)

  -- changed at place i
  pub number_set : (ds : List ℕ) (i d : ℕ) → i < length ds → number w (set ds i d) + get_or ds i 0 * 2 ^ (w * i) ≡ number w ds + d * 2 ^ (w * i)
  unfolding number
  number_set [] i d h = absurd (omega arith)
  number_set (x ∷ xs) zero d h = rw weight_zero (omega arith)
  number_set (x ∷ xs) (suc i) d h = rw (weight_next i) (omega (arith, ap (λ (n : ℕ). n * 2 ^ w) (number_set xs i d (omega arith))))

  -- ---- digits below 2 ^ w

  pub digits_head : {d : ℕ} {ds : List ℕ} → Digits w (d ∷ ds) → d < 2 ^ w
  digits_head D = D.below 0

  pub digits_tail : {d : ℕ} {ds : List ℕ} → Digits w (d ∷ ds) → Digits w ds
  digits_tail D = record { below = λ i. D.below (suc i) }

  pub digits_more : {d : ℕ} {ds : List ℕ} → d < 2 ^ w → Digits w ds → Digits w (d ∷ ds)
  digits_more {d} {ds} h D = record { below = below }
    where
      below : (i : ℕ) → get_or (d ∷ ds) i 0 < 2 ^ w
      below zero = h
      below (suc i) = D.below i

  pub number_lt : (ds : List ℕ) → Digits w ds → number w ds < 2 ^ (w * length ds)
  unfolding number
  number_lt [] D = rw weight_zero (omega arith)
  number_lt (d ∷ ds) D = rw (weight_next (length ds), add_comm d (number w ds * 2 ^ w)) (digits_lt (number_lt ds (digits_tail D)) (digits_head D))

  pub digits_number : (ds : List ℕ) → Digits w ds → digits w (length ds) (number w ds) ≡ ds
  unfolding number digits
  digits_number [] D = refl
  digits_number (d ∷ ds) D =
      let e : d + number w ds * 2 ^ w ≡ number w ds * 2 ^ w + d = add_comm d (number w ds * 2 ^ w) in
      rw (e, digits_mod (number w ds) (digits_head D), digits_div (number w ds) (digits_head D), digits_number ds (digits_tail D))

  -- digits are determined by their number
  pub number_unique : (xs ys : List ℕ) → Digits w xs → Digits w ys → length xs ≡ length ys → number w xs ≡ number w ys → xs ≡ ys
  number_unique xs ys X Y l e = sym (digits_number xs X) ∙ (λ i. digits w (l i) (e i)) ∙ digits_number ys Y

  pub digits_length : (n v : ℕ) → length (digits w n v) ≡ n
  unfolding digits
  digits_length zero v = refl
  digits_length (suc n) v = ap suc (digits_length n (v / 2 ^ w))

  pub digits_below : (n v : ℕ) → Digits w (digits w n v)
  unfolding digits
  digits_below zero v = record { below = λ i. pow_pos w }
  digits_below (suc n) v = digits_more (mod-lt v (pow_pos w)) (digits_below n (v / 2 ^ w))

  pub digits_take : (i : ℕ) (ds : List ℕ) → Digits w ds → Digits w (take i ds)
  digits_take zero ds D = record { below = λ j. pow_pos w }
  digits_take (suc i) [] D = D
  digits_take (suc i) (d ∷ ds) D = digits_more (digits_head D) (digits_take i ds (digits_tail D))

  pub digits_drop : (i : ℕ) (ds : List ℕ) → Digits w ds → Digits w (drop i ds)
  digits_drop i ds D = record { below = λ j. rw (get_or-drop i ds j 0) (D.below (i + j)) }

  -- one digit more
  pub digits_none : (v : ℕ) → digits w 0 v ≡ []
  unfolding digits
  digits_none v = refl

  pub digits_last : (n v : ℕ) → digits w (suc n) v ≡ digits w n v ++ (v / 2 ^ (w * n) % 2 ^ w ∷ [])
  unfolding digits
  digits_last zero v = rw (weight_zero, div-one)
  digits_last (suc n) v = rw (digits_last n (v / 2 ^ w), div-div-eq-div-mul v (2 ^ w) (2 ^ (w * n)), weight_next n, mul_comm (2 ^ (w * n)) (2 ^ w))

  -- the n lowest digits are the number cut off at 2 ^ (w * n)
  pub number_digits : (n v : ℕ) → number w (digits w n v) ≡ v % 2 ^ (w * n)
  unfolding number digits
  number_digits zero v = rw weight_zero (omega arith)
  number_digits (suc n) v =
      rw (number_digits n (v / 2 ^ w), mul-suc w n, mod-pow-add v (w * n) w) (omega arith)
