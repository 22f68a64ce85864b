-- Numerals: the fewest decimal digits of the kit are ours, how many there are at most, and hex digits stored from the last on. Assumes nothing.
use Rattle.std.specs.Prelude.{◌≡◌, refl, Bool, cond, List, [], ◌∷◌, ◌++◌, ℕ, zero, suc, ◌+◌, ◌-◌, ◌*◌, ◌/◌, ◌%◌, ◌^◌, ◌≤◌, ◌<◌, length, take, drop, set}
use Rattle.std.proofs.Common.{sym, ap, ◌∙◌, inl, inr, mod-lt, mod-eq_of_lt, div-one, div-lt_iff_lt-mul, le-div_iff_mul-le, pow-suc, arith, lt-ltb, le-ltb}
use Rattle.std.proofs.Common.{length-append, length-set, drop_at, length-take-le}
use Rattle.std.proofs.Math.Nat.{div-div-eq-div-mul, pow-zero, one-le-pow}
use Rattle.std.proofs.lemmas.List.{set_split}
use Rattle.std.proofs.Math.Seq.{drop-length}
use Rattle.units.proofs.Powers.{le_or_lt}
use Rattle.io.specs.Digits.{hex_digit_ascii, last_digits, IsDigitCount}
use Rattle.numerals.specs.Numerals.{decimal_in, decimal_of, capital_of, capitals_of}

-- ---- decimal

-- a last digit
last : (n : ℕ) → hex_digit_ascii (n % 10) ≡ 48 + n % 10
last n = rw (lt-ltb (n % 10) 10 (mod-lt n (omega arith)))

decimal_digits : (k r n : ℕ) → r ≤ k → IsDigitCount 10 1 n r → last_digits 10 r n ≡ decimal_in k n
unfolding decimal_in
decimal_digits k zero n h F = absurd (omega (arith, F.0))
decimal_digits zero (suc r) n h F = absurd (omega arith)
decimal_digits (suc k) (suc zero) n h F =
    let l : n < 10 = omega (arith, F.1) in
    ap (λ (x : ℕ). x ∷ []) (last n ∙ ap (λ (x : ℕ). 48 + x) (mod-eq_of_lt l))
    ∙ sym (ap (λ (b : Bool). cond b ((48 + n) ∷ []) (decimal_in k (n / 10) ++ ((48 + n % 10) ∷ []))) (lt-ltb n 10 l))
decimal_digits (suc k) (suc (suc r)) n h F =
    let one : suc (suc r) - 1 ≡ suc r = omega arith in
    let low : 10 ^ suc r ≤ n = rw one at (F.2 (omega arith)) in
    let tens : 10 ^ r * 10 ≤ n = rw (pow-suc 10 r) at low in
    let ten : 10 ≤ n = omega (arith, one-le-pow r 10 (omega arith)) in
    let below : n / 10 < 10 ^ suc r = (div-lt_iff_lt-mul {k = 10} (omega arith)).1 (rw (pow-suc 10 (suc r)) at F.1) in
    let above : 10 ^ r ≤ n / 10 = (le-div_iff_mul-le {k = 10} (omega arith)).1 tens in
    let pred : suc r - 1 ≡ r = omega arith in
    rw (le-ltb n 10 ten) (λ j. decimal_digits k (suc r) (n / 10) (omega arith) (omega arith, below, λ more. rw pred above) j ++ (last n j ∷ []))

below_power : (k : ℕ) → k < 10 ^ k
below_power zero = omega arith
below_power (suc k) = rw (pow-suc 10 k) (omega (arith, below_power k))

-- the kit's digits, as few as there can be
fewest_decimal : (n r : ℕ) → IsDigitCount 10 1 n r → last_digits 10 r n ≡ decimal_of n
fewest_decimal n zero F = decimal_digits (suc n) zero n (omega arith) F
fewest_decimal n (suc zero) F = decimal_digits (suc n) 1 n (omega arith) F
fewest_decimal n (suc (suc r)) F =
    let one : suc (suc r) - 1 ≡ suc r = omega arith in
    let low : 10 ^ suc r ≤ n = rw one at (F.2 (omega arith)) in
    decimal_digits (suc n) (suc (suc r)) n (omega (arith, below_power (suc r))) F

-- as the front of an area that holds them
pub front_decimal : (n r : ℕ) (out : List ℕ) → IsDigitCount 10 1 n r → take r out ≡ last_digits 10 r n → take (r - 0) out ≡ decimal_of n
front_decimal n r out F e = let z : r - 0 ≡ r = omega arith in rw z (e ∙ fewest_decimal n r F)

decimal_in_length : (k r n : ℕ) → n < 10 ^ suc r → length (decimal_in k n) ≤ suc r
unfolding decimal_in
decimal_in_length zero r n h = omega arith
decimal_in_length (suc k) zero n h = let l : n < 10 = omega arith in rw (lt-ltb n 10 l) (omega arith)
decimal_in_length (suc k) (suc r) n h = elim (le_or_lt 10 n) [
  | inr l ↦ rw (lt-ltb n 10 l) (omega arith)
  | inl g ↦
      let below : n / 10 < 10 ^ suc r = (div-lt_iff_lt-mul {k = 10} (omega arith)).1 (rw (pow-suc 10 (suc r)) at h) in
      rw (le-ltb n 10 g, length-append) (omega (arith, decimal_in_length k r (n / 10) below))
]

-- so many digits suffice
pub decimal_length : (r n : ℕ) → n < 10 ^ suc r → length (decimal_of n) ≤ suc r
decimal_length r n = decimal_in_length (suc n) r n

-- ---- hex digits, the area filled from its last place down to i
pub record Spelling (p n : ℕ) (l : List ℕ) (rest i : ℕ) : Type 0 where
  pub long : length l ≡ n
  pub inside : i ≤ n
  pub left : rest ≡ p / 16 ^ (n - i)
  pub done : drop i l ≡ capitals_of (n - i) p

pub spelling_begins : (p : ℕ) (l : List ℕ) → Spelling p (length l) l p (length l)
unfolding capitals_of
spelling_begins p l =
    let z : length l - length l ≡ 0 = omega arith in
    record { long = refl; inside = omega arith; left = rw (z, pow-zero 16, div-one p); done = rw z (drop-length l) }

store_back : (l : List ℕ) (i v : ℕ) → i < length l → drop i (set l i v) ≡ v ∷ drop (suc i) l
store_back l i v h = rw (set_split l i v h) (drop_at (take i l) _ i (length-take-le i l (omega arith)))

pub spelling_goes_on : {p n : ℕ} {l : List ℕ} {rest : ℕ} (i : ℕ) → Spelling p n l rest i → 0 < i
    → Spelling p n (set l (i - 1) (capital_of (rest % 16))) (rest / 16) (i - 1)
unfolding capitals_of
spelling_goes_on zero S h = absurd (omega arith)
spelling_goes_on {p} {n} {l} {rest} (suc i) S h =
    let e : suc i - 1 ≡ i = omega arith in
    let m : n - i ≡ suc (n - suc i) = omega (arith, S.inside) in
    rw e (record {
      long = length-set l i _ ∙ S.long;
      inside = omega (arith, S.inside);
      left = rw (m, S.left) (div-div-eq-div-mul p (16 ^ (n - suc i)) 16 ∙ ap (λ (x : ℕ). p / x) (sym (pow-suc 16 (n - suc i))));
      done = rw m (store_back l i _ (omega (arith, S.long, S.inside)) ∙ (λ j. capital_of (S.left j % 16) ∷ S.done j));
    })

pub spelling_ends : {p n : ℕ} {l : List ℕ} {rest : ℕ} → Spelling p n l rest 0 → l ≡ capitals_of n p
spelling_ends {n = n} S = let z : n - 0 ≡ n = omega arith in rw z at S.done
