-- The leading digits of a number in base 2 ^ w: the two words at its top give its leading w binary digits, how many stand below those, and with the words
-- under them whether any of these is set. Assumes nothing.
use Rattle.std.specs.Prelude.{◌≡◌, refl, List, [], ◌∷◌, ℕ, zero, suc, ◌+◌, ◌-◌, ◌*◌, ◌/◌, ◌%◌, ◌^◌, ◌≤◌, ◌<◌, ltb, length, get_or, take}
use Rattle.std.proofs.Common.{sym, ap, ◌∙◌, add_comm, mul_comm, le_antisymm, lt_of_not-le, mul-pos, mod-lt, div-add-mod', mul-le-mul_right, arith, lt-ltb}
use Rattle.std.proofs.Common.{pow-add, pow_pos, pow_mono}
use Rattle.std.proofs.Math.Arith.{digits_div, digits_mod, digits_lt}
use Rattle.std.proofs.Math.Seq.{take-length}
use Rattle.std.specs.Float.Ieee.{size}
use Rattle.std.specs.Float.Ieee.Digits.{size-lt, size-le, size_reaches}
use Rattle.lists.specs.Digits.{number, Digits}
use Rattle.lists.specs.DigitLaws.{weight_next, number_nil, number_cons}
use Rattle.lists.specs.LowestDigits.{number_next, number_take_lt}

-- k of the n lowest words are in use: those above are zero, and the last is not
pub record Used (w : ℕ) (ds : List ℕ) (n k : ℕ) : Type 0 where
  pub within : k ≤ n
  pub all : number w (take n ds) ≡ number w (take k ds)
  pub last : 0 < k → 0 < get_or ds (k - 1) 0

-- a zero word at the top is none
pub number_skip : (w : ℕ) (ds : List ℕ) {k : ℕ} → 0 < k → k ≤ length ds → get_or ds (k - 1) 0 ≡ 0 → number w (take k ds) ≡ number w (take (k - 1) ds)
number_skip w ds {k} K h e =
    ap (λ (i : ℕ). number w (take i ds)) back ∙ number_next w ds {i = k - 1} (omega arith) ∙ rw e (omega arith)
  where
    back : k ≡ suc (k - 1)
    back = omega arith

-- something is there exactly where a word is in use
pub used_some : (w : ℕ) (ds : List ℕ) {n : ℕ} (k : ℕ) → n ≤ length ds → Used w ds n k → ltb 0 k ≡ ltb 0 (number w (take n ds))
used_some w ds zero h U = rw (U.all, number_nil w)
used_some w ds {n} (suc j) h U = lt-ltb 0 (suc j) (omega arith) ∙ sym (lt-ltb 0 (number w (take n ds)) some)
  where
    back : suc j - 1 ≡ j
    back = omega arith

    some : 0 < number w (take n ds)
    some =
        rw (U.all, number_next w ds {i = j} (omega (arith, U.within)))
        (omega (arith, mul-pos (rw back at (U.last (omega arith))) (pow_pos (w * j))))

-- one word in use, or none: the lowest is the number
pub one_word : (w : ℕ) (ds : List ℕ) {n : ℕ} → Used w ds (length ds) n → n < 2 → number w ds ≡ get_or ds 0 0
one_word w ds {n} U h = go ds n h (ap (number w) (sym (take-length ds)) ∙ U.all)
  where
    go : (ds : List ℕ) (n : ℕ) → n < 2 → number w ds ≡ number w (take n ds) → number w ds ≡ get_or ds 0 0
    go [] n h e = number_nil w
    go (d ∷ ds) zero h e = omega (arith, e, number_nil w, number_cons w d ds)
    go (d ∷ ds) (suc zero) h e = e ∙ number_cons w d [] ∙ rw (number_nil w) (omega arith)
    go (d ∷ ds) (suc (suc n)) h e = absurd (omega arith)

-- a word that isn't zero has a digit, w at most
pub size_of_word : {w a : ℕ} → 0 < a → a < 2 ^ w → (0 < size a) × (size a ≤ w) × (a < 2 ^ size a)
size_of_word {w} {a} A h = (some (size a) (size-lt a), size-le a w h, size-lt a)
  where
    some : (y : ℕ) → a < 2 ^ y → 0 < y
    some zero l = absurd (omega arith)
    some (suc y) l = omega arith

-- a number over a rest of k binary digits has k digits more
size_over : (q k r : ℕ) → 0 < q → r < 2 ^ k → size (q * 2 ^ k + r) ≡ size q + k
size_over q k r Q R = le_antisymm (size-le (q * 2 ^ k + r) (size q + k) (rw (pow-add 2 (size q) k) (digits_lt (size-lt q) R))) (go (size q) refl)
  where
    go : (y : ℕ) → size q ≡ y → size q + k ≤ size (q * 2 ^ k + r)
    go zero e = let l : q < 2 ^ 0 = rw e at (size-lt q) in absurd (omega arith)
    go (suc j) e = let l : j + k < size (q * 2 ^ k + r) = lt_of_not-le (λ h. clash (pow_mono h)) in omega arith
      where
        clash : 2 ^ size (q * 2 ^ k + r) ≤ 2 ^ (j + k) → ⊥
        clash h = omega (arith, rw (pow-add 2 j k) at h, size-lt (q * 2 ^ k + r), mul-le-mul_right (2 ^ k) (size_reaches q j (omega arith)))

-- as many digits of the word b are cut off as the word a over it has
cut : (w m a b low : ℕ) → a < 2 ^ w
    → low + b * 2 ^ (w * m) + a * 2 ^ (w * suc m) ≡ (a * 2 ^ (w - size a) + b / 2 ^ size a) * 2 ^ (w * m + size a) + (b % 2 ^ size a * 2 ^ (w * m) + low)
cut w m a b low h = rw (weight_next w m, pow-add 2 (w * m) (size a)) (omega (arith, lower, upper))
  where
    lower : (b / 2 ^ size a * 2 ^ size a + b % 2 ^ size a) * 2 ^ (w * m) ≡ b * 2 ^ (w * m)
    lower = ap (λ (x : ℕ). x * 2 ^ (w * m)) (div-add-mod' b (2 ^ size a))

    back : (y : ℕ) → y ≤ w → w - y + y ≡ w
    back y h = omega arith

    upper : a * 2 ^ (w * m) * (2 ^ (w - size a) * 2 ^ size a) ≡ a * 2 ^ (w * m) * 2 ^ w
    upper = ap (λ (x : ℕ). a * 2 ^ (w * m) * x) (sym (pow-add 2 (w - size a) (size a)) ∙ ap (λ (x : ℕ). 2 ^ x) (back (size a) (size-le a w h)))

-- n words are in use, two or more: a and b are the upper ones, over the number low
module _ (w : ℕ) (ds : List ℕ) (n : ℕ) (D : Digits w ds) (U : Used w ds (length ds) n) (two : 2 ≤ n) where
  abbrev a : ℕ
  a = get_or ds (n - 1) 0

  abbrev b : ℕ
  b = get_or ds (n - 2) 0

  abbrev low : ℕ
  low = number w (take (n - 2) ds)

  low_below : low < 2 ^ (w * (n - 2))
  low_below = number_take_lt w ds D (omega (arith, U.within))

  rest_below : b % 2 ^ size a * 2 ^ (w * (n - 2)) + low < 2 ^ (w * (n - 2) + size a)
  rest_below = rw (add_comm (w * (n - 2)) (size a), pow-add 2 (size a) (w * (n - 2))) (digits_lt (mod-lt b (pow_pos (size a))) low_below)

  split : number w ds ≡ low + b * 2 ^ (w * (n - 2)) + a * 2 ^ (w * suc (n - 2))
  split =
      ap (number w) (sym (take-length ds))
      ∙ U.all
      ∙ ap (λ (k : ℕ). number w (take k ds)) upper
      ∙ number_next w ds {i = n - 1} (omega (arith, U.within))
      ∙ (λ i. number w (take (lower i) ds) + a * 2 ^ (w * lower i))
      ∙ ap (λ (x : ℕ). x + a * 2 ^ (w * suc (n - 2))) (number_next w ds {i = n - 2} (omega (arith, U.within)))
    where
      upper : n ≡ suc (n - 1)
      upper = omega arith

      lower : n - 1 ≡ suc (n - 2)
      lower = omega arith

  parts : number w ds ≡ (a * 2 ^ (w - size a) + b / 2 ^ size a) * 2 ^ (w * (n - 2) + size a) + (b % 2 ^ size a * 2 ^ (w * (n - 2)) + low)
  parts = split ∙ cut w (n - 2) a b low (D.below (n - 1))

  pub leading_digits : number w ds / 2 ^ (w * (n - 2) + size a) ≡ a * 2 ^ (w - size a) + b / 2 ^ size a
  leading_digits = rw parts (digits_div (a * 2 ^ (w - size a) + b / 2 ^ size a) rest_below)

  pub leading_rest : number w ds % 2 ^ (w * (n - 2) + size a) ≡ b % 2 ^ size a * 2 ^ (w * (n - 2)) + low
  leading_rest = rw parts (digits_mod (a * 2 ^ (w - size a) + b / 2 ^ size a) rest_below)

  pub leading_size : size (number w ds) ≡ size a + w * suc (n - 2)
  leading_size =
      rw (split, add_comm (low + b * 2 ^ (w * (n - 2))) (a * 2 ^ (w * suc (n - 2))))
      (size_over a (w * suc (n - 2)) (low + b * 2 ^ (w * (n - 2))) (U.last (omega arith)) rest)
    where
      rest : low + b * 2 ^ (w * (n - 2)) < 2 ^ (w * suc (n - 2))
      rest = rw (weight_next w (n - 2), add_comm low (b * 2 ^ (w * (n - 2))), mul_comm (2 ^ (w * (n - 2))) (2 ^ w)) (digits_lt (D.below (n - 2)) low_below)
