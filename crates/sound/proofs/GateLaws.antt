-- The gate of a block step: one law for each answer, and what a state and its work area are that pass it. Assumes nothing.
use Rattle.std.specs.Prelude.{◌≡◌, Bool, not, List, ℕ, ◌+◌, ◌-◌, ◌^◌, ◌≤◌, ◌<◌, length, Float}
use Rattle.std.proofs.Math.Path.{refl}
use Rattle.std.proofs.Math.Bool.{true, false, cond}
use Rattle.std.proofs.Common.{arith}
use borrow.Author.Tests.{eq-eqb, ne_eqb, le-leb, lt-leb, eqb-true, leb-false}
use Rattle.std.proofs.Math.Dec.{leb, eqb}
use Rattle.std.specs.Float.{Format}
use Rattle.units.specs.Rounding.{ceil}
use Rattle.ieee.specs.Units.{Number, negative, magnitude}
use Rattle.lists.proofs.Apart.{apart}
use Rattle.lists.specs.Bitset.{has}
use Rattle.exponent.specs.Power.{powers, power_of}
use Rattle.exponent.proofs.PowerLaws.{power_number, power_negative, power_magnitude}
use Rattle.kinds.specs.Limits.{Width, exponent_of, blocks_of}
use Rattle.kinds.specs.State.{State}
use Rattle.kinds.specs.Verdict.{Good, Refused}
use Rattle.judge.specs.Table.{size_of}
use Rattle.sound.specs.Sound.{sound_numbers, sound_pending, bad_place, sound, gated}
use Rattle.sound.specs.Places.{first_above}
use Rattle.sound.proofs.PlacesLaws.{places_same}
use Rattle.sound.specs.SigmaLaws.{Sigma, sigma_holds, sigma_exponent, sigma_true}
use Rattle.sound.specs.Numbers.{Numbers}
use Rattle.sound.proofs.SoundLaws.{sound_tests, sound_all}

-- ---- rule O2, case by case
module _ (W : Width) (s : State) (k b : ℕ) (xs : List Float) where
  pub gated_4 : (length xs ≡ s.n → ⊥) → gated W s k b xs ≡ Refused 4 0
  unfolding gated
  gated_4 h = rw (ne_eqb (length xs) s.n h)

  pub gated_21 : length xs ≡ s.n → (k ≡ s.ensemble → ⊥) → gated W s k b xs ≡ Refused 21 0
  unfolding gated
  gated_21 l h = rw (eq-eqb (length xs) s.n l, ne_eqb k s.ensemble h)

  module _ (l : length xs ≡ s.n) (named : k ≡ s.ensemble) where
    pub gated_8 : sound_numbers W s ≡ false → gated W s k b xs ≡ Refused 8 0
    unfolding gated
    gated_8 h = rw (eq-eqb (length xs) s.n l, eq-eqb k s.ensemble named, h)

    pub gated_18 : sound_numbers W s ≡ true → sound_pending W s ≡ false → gated W s k b xs ≡ Refused 18 0
    unfolding gated
    gated_18 h p = rw (eq-eqb (length xs) s.n l, eq-eqb k s.ensemble named, h, p)

    pub gated_19 : sound_numbers W s ≡ true → sound_pending W s ≡ true → bad_place W s xs < length xs → gated W s k b xs ≡ Refused 19 (bad_place W s xs)
    unfolding gated
    gated_19 h p q = rw (eq-eqb (length xs) s.n l, eq-eqb k s.ensemble named, h, p, ne_eqb (bad_place W s xs) (length xs) (λ e. omega arith))

    -- a sound state: the block decides
    module _ (S : sound W s xs ≡ true) where
      by_block : gated W s k b xs ≡ cond (leb (blocks_of W s.n) b) (Refused 6 0) (cond (not (has s.pending b)) (Refused 7 0) Good)
      unfolding gated
      by_block =
          let t = sound_tests W s xs S in
          rw (eq-eqb (length xs) s.n l, eq-eqb k s.ensemble named, t.0, t.1, eq-eqb (bad_place W s xs) (length xs) t.2)

      pub gated_6 : blocks_of W s.n ≤ b → gated W s k b xs ≡ Refused 6 0
      gated_6 h = rw (by_block, le-leb (blocks_of W s.n) b h)

      pub gated_7 : b < blocks_of W s.n → has s.pending b ≡ false → gated W s k b xs ≡ Refused 7 0
      gated_7 h p = rw (by_block, lt-leb (blocks_of W s.n) b h, p)

      pub gated_good : b < blocks_of W s.n → has s.pending b ≡ true → gated W s k b xs ≡ Good
      gated_good h p = rw (by_block, lt-leb (blocks_of W s.n) b h, p)

  pub record Open : Type 0 where
    pub long : length xs ≡ s.n
    pub named : k ≡ s.ensemble
    pub sound : sound W s xs ≡ true
    pub inside : b < blocks_of W s.n
    pub pending : has s.pending b ≡ true

  pub gated_open : gated W s k b xs ≡ Good → Open
  unfolding gated
  gated_open h =
      go (eqb (length xs) s.n) (eqb k s.ensemble) (sound_numbers W s) (sound_pending W s) (eqb (bad_place W s xs) (length xs)) (leb (blocks_of W s.n) b)
      (has s.pending b) refl refl refl refl refl refl refl h
    where
      go : (l m n p w r t : Bool) → eqb (length xs) s.n ≡ l → eqb k s.ensemble ≡ m → sound_numbers W s ≡ n → sound_pending W s ≡ p
          → eqb (bad_place W s xs) (length xs) ≡ w → leb (blocks_of W s.n) b ≡ r → has s.pending b ≡ t
          → cond (not l) (Refused 4 0)
          (cond (not m) (Refused 21 0)
          (cond (not n) (Refused 8 0)
          (cond (not p) (Refused 18 0)
          (cond (not w) (Refused 19 (bad_place W s xs))
          (cond r (Refused 6 0)
          (cond (not t) (Refused 7 0)
          Good))))))
          ≡ Good
          → Open
      go true true true true true false true L M N P W₀ R S e = record {
        long = eqb-true (length xs) s.n L;
        named = eqb-true k s.ensemble M;
        sound = sound_all W s xs N P (eqb-true (bad_place W s xs) (length xs) W₀);
        inside = leb-false (blocks_of W s.n) b R;
        pending = S;
      }
      go true true true true true false false L M N P W₀ R S e = apart (cc)
      go true true true true true true t L M N P W₀ R S e = apart (cc)
      go true true true true false r t L M N P W₀ R S e = apart (cc)
      go true true true false w r t L M N P W₀ R S e = apart (cc)
      go true true false p w r t L M N P W₀ R S e = apart (cc)
      go true false n p w r t L M N P W₀ R S e = apart (cc)
      go false m n p w r t L M N P W₀ R S e = apart (cc)

-- ---- 2^-M sigma as a float. 2^top is the largest magnitude in units
module _ (W : Width) (top : ℕ) (is : size_of W W.magnitude ≡ 2 ^ top) (s : State) (N : Numbers W s) (room : exponent_of s.n + top < powers W.format)
  where
    abbrev f : Format
    f = W.format

    abbrev k : ℕ
    k = ceil (magnitude W.format s.sigma)

    sigma : Sigma W s.n s.sigma
    sigma = sigma_holds W s.n s.sigma (sigma_true W top is s.n s.sigma N.sigma)

    exps : (exponent_of s.n ≤ k) × (k ≤ exponent_of s.n + top)
    exps = sigma_exponent W top is s.n sigma

    limit_room : k - exponent_of s.n < powers f
    limit_room = omega (arith, exps, room)

    pub limit_number : Number f (power_of f (k - exponent_of s.n))
    limit_number = power_number f limit_room

    pub limit_negative : negative (power_of f (k - exponent_of s.n)) ≡ false
    limit_negative = power_negative f limit_room

    pub limit_places : (xs : List Float) → first_above W (magnitude f (power_of f (k - exponent_of s.n))) xs ≡ bad_place W s xs
    limit_places xs = rw (power_magnitude f limit_room) (places_same W s sigma.power exps.0 xs)
