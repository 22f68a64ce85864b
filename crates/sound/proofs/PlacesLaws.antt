-- The first number above a limit: what a loop over the places passes and ends with, and that there is none where each passes the test; and that for the limit
-- 2^-M sigma it is the first place of a state that is not sound. Assumes nothing.
use Rattle.std.specs.Prelude.{◌≡◌, Bool, true, false, not, ◌&&◌, map, position, unwrap_or, Some, None, ltb, ℕ, zero, suc, ◌+◌, ◌-◌, ◌*◌, ◌^◌, ◌≤◌, ◌<◌, leb}
use Rattle.std.specs.Prelude.{eqb, length, get_or, drop, Float}
use Rattle.std.proofs.Math.Path.{refl}
use Rattle.std.proofs.Common.{sym, ap, ◌∙◌, mul-zero, mul-suc, mul-le-mul_left, add-one, arith, ne_eqb, leb→le, le→leb, ltb-false, drop_of_length-le, pow_pos}
use Rattle.std.proofs.Common.{drop-cons}
use Rattle.std.proofs.Math.Bool.{cond}
use mathlib.Core.List.{List, [], ◌∷◌}
use Rattle.std.specs.List.{position_or_len}
use Rattle.std.proofs.lemmas.List.{length-map}
use Rattle.std.proofs.Math.Nat.{le_of_mul-le-mul_left}
use Rattle.std.proofs.Math.Pow.{pow-lt}
use Rattle.std.specs.Float.Ieee.Scale.{finite}
use Rattle.units.proofs.Powers.{pow_split}
use Rattle.ieee.specs.Units.{magnitude}
use Rattle.ieee.proofs.Fractions.{same_test, eqb_same}
use Rattle.lists.specs.Every.{every}
use Rattle.kinds.specs.Limits.{Width, exponent_of}
use Rattle.kinds.specs.State.{State}
use Rattle.sound.specs.Sound.{at_most, sound_place, bad_place}
use Rattle.sound.specs.Places.{first_above}
use Rattle.sound.specs.PlacesLaws.{NoneBefore}

module _ {W : Width} {most : ℕ} {xs : List Float} where
  pub before_none : NoneBefore W most xs 0
  before_none = record { within = omega arith; rest = omega arith }

  module _ {i : ℕ} (P : NoneBefore W most xs i) (d : Float) (l : i < length xs) where
    unrolled : first_above W most (drop i xs) ≡ cond (at_most W most (get_or xs i d)) (first_above W most (drop (suc i) xs) + 1) 0
    unfolding first_above
    unrolled = rw (drop-cons xs i d l)

    pub before_next : at_most W most (get_or xs i d) ≡ true → NoneBefore W most xs (i + 1)
    before_next e = record { within = omega arith; rest = rw add-one (omega (arith, P.rest, rw e at unrolled)) }

    pub before_found : at_most W most (get_or xs i d) ≡ false → i ≡ first_above W most xs
    before_found e = omega (arith, P.rest, rw e at unrolled)

  pub before_end : {i : ℕ} → NoneBefore W most xs i → length xs ≤ i → i ≡ first_above W most xs
  unfolding first_above
  before_end {i} P h =
      let e : first_above W most (drop i xs) ≡ 0 = rw (drop_of_length-le xs {i = i} h) in
      omega (arith, P.rest)

-- ---- the first bad place is one of the list, or its length
pub bad_within : (W : Width) (s : State) (xs : List Float) → bad_place W s xs ≤ length xs
unfolding bad_place
bad_within W s [] = omega arith
bad_within W s (x ∷ xs) = go (sound_place W s x) (bad_within W s xs)
  where
    go : (c : Bool) → bad_place W s xs ≤ length xs → cond c (bad_place W s xs + 1) 0 ≤ suc (length xs)
    go true h = omega arith
    go false h = omega arith

-- ---- no place is above the limit
counts : (t : Bool) (n m : ℕ) → eqb (cond t (n + 1) 0) (suc m) ≡ (t && eqb n m)
counts true n m = eqb_same (n + 1) (suc m) n m (omega arith) (omega arith)
counts false n m = ne_eqb 0 (suc m) (omega arith)

pub none_above : (W : Width) (most : ℕ) (xs : List Float) → every (at_most W most) xs ≡ eqb (first_above W most xs) (length xs)
unfolding every first_above
none_above W most [] = refl
none_above W most (x ∷ xs) =
    ap (λ (b : Bool). at_most W most x && b) (none_above W most xs) ∙ sym (counts (at_most W most x) (first_above W most xs) (length xs))

-- ---- a search for the first place, in a list that is read by v
module _ {A : Type 0} (v : A → Float) (W : Width) (most : ℕ) where
  first_place : (xs : List A) → position_or_len (λ x. not (at_most W most (v x))) xs ≡ first_above W most (map v xs)
  unfolding first_above
  first_place [] = refl
  first_place (x ∷ xs) = go (at_most W most (v x)) (first_place xs)
    where
      go : (c : Bool) {n m : ℕ} → n ≡ m → cond (not (not c)) (1 + n) 0 ≡ cond c (m + 1) 0
      go true e = omega (arith, e)
      go false e = refl

  inside : (xs : List Float) → first_above W most xs ≤ length xs
  unfolding first_above
  inside [] = omega arith
  inside (x ∷ xs) = go (at_most W most x) (inside xs)
    where
      go : (c : Bool) → first_above W most xs ≤ length xs → cond c (first_above W most xs + 1) 0 ≤ suc (length xs)
      go true h = omega arith
      go false h = omega arith

  told : (n m : ℕ) → n ≤ m → unwrap_or (cond (ltb n m) (Some n) None) m ≡ n
  told n m h = go (ltb n m) refl
    where
      go : (b : Bool) → ltb n m ≡ b → unwrap_or (cond b (Some n) None) m ≡ n
      go true e = refl
      go false e = let l : m ≤ n = ltb-false n m e in omega arith

  pub position_above : (xs : List A) → unwrap_or (position (λ x. not (at_most W most (v x))) xs) (length xs) ≡ first_above W most (map v xs)
  position_above xs =
      let k = first_above W most (map v xs) in
      let l : k ≤ length xs = rw (length-map xs v) at (inside (map v xs)) in
      rw (first_place xs) (told k (length xs) l)

-- ---- 2^-j sigma, of a sigma of 2^k units
pub scaled : (j k a : ℕ) → j ≤ k → leb a (2 ^ (k - j)) ≡ leb (2 ^ j * a) (2 ^ k)
scaled j k a low =
    same_test (leb a Q) (leb (2 ^ j * a) (2 ^ k))
    (λ t. le→leb (2 ^ j * a) (2 ^ k) (rw whole (mul-le-mul_left (2 ^ j) (leb→le a Q t))))
    (λ t. le→leb a Q (le_of_mul-le-mul_left (rw whole at (leb→le (2 ^ j * a) (2 ^ k) t)) (pow_pos j)))
  where
    Q : ℕ
    Q = 2 ^ (k - j)

    whole : 2 ^ k ≡ 2 ^ j * Q
    whole = omega (arith, pow_split low)

-- where it is less than a unit
pub scaled_none : (j k a : ℕ) → k < j → leb a 0 ≡ leb (2 ^ j * a) (2 ^ k)
scaled_none j k a high =
    same_test (leb a 0) (leb (2 ^ j * a) (2 ^ k))
    (λ t. let z : a ≡ 0 = omega (arith, leb→le a 0 t) in le→leb (2 ^ j * a) (2 ^ k) (rw (z, mul-zero (2 ^ j)) (omega arith)))
    (λ t. le→leb a 0 (omega (arith, none a (leb→le (2 ^ j * a) (2 ^ k) t))))
  where
    none : (a : ℕ) → 2 ^ j * a ≤ 2 ^ k → a ≡ 0
    none zero h = refl
    none (suc a) h = absurd (omega (arith, mul-suc (2 ^ j) a, pow-lt {i = k} {j = j} high))

-- ---- 2^-M sigma
module _ (W : Width) (s : State) {k : ℕ} (sigma : magnitude W.format s.sigma ≡ 2 ^ k) (low : exponent_of s.n ≤ k) where
  at_place : (a : ℕ) → leb a (2 ^ (k - exponent_of s.n)) ≡ leb (2 ^ exponent_of s.n * a) (magnitude W.format s.sigma)
  at_place a = rw sigma (scaled (exponent_of s.n) k a low)

  pub places_same : (xs : List Float) → first_above W (2 ^ (k - exponent_of s.n)) xs ≡ bad_place W s xs
  unfolding first_above bad_place at_most
  places_same [] = refl
  places_same (x ∷ xs) = λ i. cond (finite x && at_place (magnitude W.format x) i) (places_same xs i + 1) 0
