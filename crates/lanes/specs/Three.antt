-- A finite number among lanes: its magnitude has three digits there, each with the number's sign, and adding it changes three lanes. Assumes nothing.
use Rattle.std.specs.Prelude.{◌≡◌, refl, Bool, ℕ, zero, suc, ◌+◌, ◌-◌, ◌*◌, ◌^◌, ◌<◌, T, ltb, ℤ, pos, negsuc, neg_ℤ, nat_abs, ◌+ℤ◌, length, get_or, set}
use Rattle.std.specs.Prelude.{replicate}
use Rattle.std.proofs.Math.Path.{sym, ap}
use Rattle.std.proofs.Common.{◌∙◌, lt-ltb, le-ltb, length-append, get_or-set_other}
use Rattle.std.proofs.Math.Bool.{cond}
use Rattle.std.proofs.Math.Logic.{inl, inr}
use mathlib.Core.List.{List, [], ◌∷◌, ◌++◌, map, append-nil}
use native.Mathlib.Omega.{arith}
use Rattle.std.specs.Float.Ieee.{of_bits, top}
use Rattle.std.specs.Float.Ieee.Scale.{finite}
use Rattle.std.proofs.Math.IntN.{+ℤ_idr}
use Rattle.std.proofs.Math.ListN.{length-replicate}
use Rattle.units.proofs.Powers.{le_or_lt}
use Rattle.ieee.specs.Units.{magnitude}
use Rattle.lists.specs.Digits.{number, digits, Digits}
use Rattle.lists.specs.DigitLaws.{number_nil, number_cons, number_append, digits_more, digits_number}
use Rattle.kinds.specs.Limits.{doubles}
use Rattle.addend.specs.Addend.{units_of}
use Rattle.addend.specs.PatternFields.{pattern_plus, pattern_minus}
use Rattle.lanes.specs.Lanes.{lane_count, lane_bits, digits_of, plus_lanes}
use Rattle.lanes.specs.Table.{ButThree}

-- a digit with the sign of the pattern p
abbrev pub with_sign : ℕ → ℕ → ℤ
with_sign p d = cond (ltb p (top doubles.format)) (pos d) (neg_ℤ (pos d))

-- d put into the lane k
abbrev pub put : List ℤ → ℕ → ℤ → List ℤ
put zs k d = set zs k (get_or zs k (pos 0) +ℤ d)

-- n has the digit lo at the lane k, mid and hi at the next two, and the three lanes are there
pub record AtLane (n k lo mid hi : ℕ) : Type 0 where
  pub within : k + 2 < lane_count
  pub low : lo < 2 ^ lane_bits
  pub middle : mid < 2 ^ lane_bits
  pub high : hi < 2 ^ lane_bits
  pub units : (lo + (mid + hi * 2 ^ lane_bits) * 2 ^ lane_bits) * 2 ^ (lane_bits * k) ≡ n

abbrev among : {A : Type 0} → A → ℕ → A → A → A → ℕ → List A
among z k a b c m = replicate k z ++ (a ∷ b ∷ c ∷ replicate m z)

-- ---- its digits are those three among zeros
zeros_below : (k : ℕ) (ds : List ℕ) → Digits lane_bits ds → Digits lane_bits (replicate k 0 ++ ds)
zeros_below zero ds D = D
zeros_below (suc k) ds D = digits_more lane_bits (omega arith) (zeros_below k ds D)

zeros_number : (k : ℕ) → number lane_bits (replicate k 0) ≡ 0
zeros_number zero = number_nil lane_bits
zeros_number (suc k) = number_cons lane_bits 0 (replicate k 0) ∙ rw (zeros_number k)

module _ {n k lo mid hi : ℕ} (A : AtLane n k lo mid hi) where
  ds : List ℕ
  ds = among 0 k lo mid hi (63 - k)

  ds_length : length ds ≡ lane_count
  unfolding ds
  ds_length = simp (length-append, length-replicate) (omega (arith, A.within))

  ds_below : Digits lane_bits ds
  unfolding ds
  ds_below =
      let none : Digits lane_bits [] = record { below = λ i. omega arith } in
      let rest : Digits lane_bits (replicate (63 - k) 0) = rw append-nil at (zeros_below (63 - k) [] none) in
      zeros_below k _ (digits_more lane_bits A.low (digits_more lane_bits A.middle (digits_more lane_bits A.high rest)))

  ds_number : number lane_bits ds ≡ n
  unfolding ds
  ds_number =
      rw (
        number_append lane_bits (replicate k 0),
        zeros_number k,
        length-replicate k,
        number_cons lane_bits lo,
        number_cons lane_bits mid,
        number_cons lane_bits hi,
        zeros_number (63 - k),
      )
      (omega (arith, A.units))

  three_digits : digits lane_bits lane_count n ≡ among 0 k lo mid hi (63 - k)
  unfolding ds
  three_digits = sym (λ i. digits lane_bits (ds_length i) (ds_number i)) ∙ digits_number lane_bits ds ds_below

-- ---- each with the number's sign
map_among : (f : ℕ → ℤ) (k m a b c : ℕ) → map f (among 0 k a b c m) ≡ among (f 0) k (f a) (f b) (f c) m
map_among f zero m a b c = ap (λ (zs : List ℤ). f a ∷ f b ∷ f c ∷ zs) (same m)
  where
    same : (m : ℕ) → map f (replicate m 0) ≡ replicate m (f 0)
    same zero = refl
    same (suc m) = ap (λ (zs : List ℤ). f 0 ∷ zs) (same m)
map_among f (suc k) m a b c = ap (λ (zs : List ℤ). f 0 ∷ zs) (map_among f k m a b c)

digits_minus : (n : ℕ) → digits_of (neg_ℤ (pos n)) ≡ map (λ d. neg_ℤ (pos d)) (digits lane_bits lane_count n)
unfolding digits_of digits
digits_minus zero = refl
digits_minus (suc n) = refl

module _ (p : ℕ) (F : T (finite (of_bits doubles.format p))) where
  n : ℕ
  n = magnitude doubles.format (of_bits doubles.format p)

  by_sign : Bool → List ℤ
  unfolding n
  by_sign b = map (λ d. cond b (pos d) (neg_ℤ (pos d))) (digits lane_bits lane_count n)

  signed_digits : digits_of (units_of doubles p) ≡ map (with_sign p) (digits lane_bits lane_count n)
  unfolding n digits_of by_sign
  signed_digits = elim (le_or_lt (top doubles.format) p) [
    | inl h ↦ ap digits_of (pattern_minus doubles.format p F h) ∙ digits_minus n ∙ sym (ap by_sign (le-ltb p (top doubles.format) h))
    | inr h ↦ ap digits_of (pattern_plus doubles.format p F h) ∙ sym (ap by_sign (lt-ltb p (top doubles.format) h))
  ]

  sign_zero : with_sign p 0 ≡ pos 0
  sign_zero = elim (le_or_lt (top doubles.format) p) [
    | inl h ↦ rw (le-ltb p (top doubles.format) h)
    | inr h ↦ rw (lt-ltb p (top doubles.format) h)
  ]

-- ---- adding them puts each into its lane
plus_zeros : (zs : List ℤ) (m : ℕ) → plus_lanes zs (replicate m (pos 0)) ≡ zs
unfolding plus_lanes
plus_zeros [] m = refl
plus_zeros (z ∷ zs) zero = refl
plus_zeros (z ∷ zs) (suc m) = rw (+ℤ_idr z, plus_zeros zs m)

plus_among : (zs : List ℤ) (k m : ℕ) (a b c : ℤ) → k + 2 < length zs → plus_lanes zs (among (pos 0) k a b c m) ≡ put (put (put zs k a) (k + 1) b) (k + 2) c
unfolding plus_lanes
plus_among [] k m a b c h = absurd (omega arith)
plus_among (x ∷ []) zero m a b c h = absurd (omega arith)
plus_among (x ∷ y ∷ []) zero m a b c h = absurd (omega arith)
plus_among (x ∷ y ∷ z ∷ zs) zero m a b c h = rw (plus_zeros zs m)
plus_among (x ∷ zs) (suc k) m a b c h =
    let one : suc k + 1 ≡ suc (k + 1) = omega arith in
    let two : suc k + 2 ≡ suc (k + 2) = omega arith in
    rw (one, two, +ℤ_idr x, plus_among zs k m a b c (omega arith))

pub laid_three : (p : ℕ) {k lo mid hi : ℕ} (F : T (finite (of_bits doubles.format p)))
    → AtLane (magnitude doubles.format (of_bits doubles.format p)) k lo mid hi
    → (zs : List ℤ) → length zs ≡ lane_count
    → put (put (put zs k (with_sign p lo)) (k + 1) (with_sign p mid)) (k + 2) (with_sign p hi) ≡ plus_lanes zs (digits_of (units_of doubles p))
unfolding n
laid_three p {k} {lo} {mid} {hi} F A zs l =
    sym (plus_among zs k (63 - k) _ _ _ (omega (arith, A.within)))
    ∙ ap (plus_lanes zs) (sym (signed_digits p F ∙ ap (map (with_sign p)) (three_digits A) ∙ map_among (with_sign p) k (63 - k) lo mid hi
    ∙ ap (λ (z : ℤ). among z k (with_sign p lo) (with_sign p mid) (with_sign p hi) (63 - k)) (sign_zero p F)))

-- ---- whatever its sign, every other lane is as it was
put_other : (zs : List ℤ) (k i : ℕ) (d : ℤ) → (i ≡ k → ⊥) → get_or (put zs k d) i (pos 0) ≡ get_or zs i (pos 0)
put_other zs k i d h = get_or-set_other zs k i (get_or zs k (pos 0) +ℤ d) (pos 0) h

others : (zs : List ℤ) (k i : ℕ) (a b c : ℤ) → (i ≡ k → ⊥) → (i ≡ k + 1 → ⊥) → (i ≡ k + 2 → ⊥)
    → get_or (put (put (put zs k a) (k + 1) b) (k + 2) c) i (pos 0) ≡ get_or zs i (pos 0)
others zs k i a b c h j l = put_other (put (put zs k a) (k + 1) b) (k + 2) i c l ∙ put_other (put zs k a) (k + 1) i b j ∙ put_other zs k i a h

plus_but_three : (zs : List ℤ) (k m : ℕ) (a b c : ℤ) → length zs ≡ lane_count → k + 2 < lane_count → ButThree k zs (plus_lanes zs (among (pos 0) k a b c m))
plus_but_three zs k m a b c l w =
    rw (plus_among zs k m a b c (omega arith))
    (record {
      within = w;
      below = λ i h. others zs k i a b c (λ e. omega arith) (λ e. omega arith) (λ e. omega arith);
      above = λ i h. others zs k i a b c (λ e. omega arith) (λ e. omega arith) (λ e. omega arith);
    })

pub laid_but_three : (z : ℤ) {k lo mid hi : ℕ} → AtLane (nat_abs z) k lo mid hi → (zs : List ℤ) → length zs ≡ lane_count
    → ButThree k zs (plus_lanes zs (digits_of z))
unfolding digits_of
laid_but_three (pos n) {k} {lo} {mid} {hi} A zs l =
    rw (three_digits A, map_among pos k (63 - k) lo mid hi) (plus_but_three zs k (63 - k) (pos lo) (pos mid) (pos hi) l A.within)
laid_but_three (negsuc n) {k} {lo} {mid} {hi} A zs l =
    rw (three_digits A, map_among (λ d. neg_ℤ (pos d)) k (63 - k) lo mid hi)
    (plus_but_three zs k (63 - k) (neg_ℤ (pos lo)) (neg_ℤ (pos mid)) (neg_ℤ (pos hi)) l A.within)
