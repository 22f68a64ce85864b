-- The test of a sound state holds exactly where rules WS3 to WS8 and WS15 do, and so does each of its three parts; the bad place is the lowest whose number
-- isn't sound. Assumes nothing.
use Rattle.std.specs.Prelude.{◌≡◌, ◌↔◌, Bool, leb, get_or, Float}
use Rattle.std.proofs.Math.Path.{refl}
use Rattle.std.proofs.Math.Bool.{true, false, cond}
use mathlib.Core.List.{List, [], ◌∷◌}
use Prim.Native.Nat.{ℕ, zero, suc, ◌+◌, ◌*◌, ◌/◌, ◌%◌, ◌^◌, ◌≤◌, ◌<◌}
use Rattle.std.proofs.Common.{zero-add, suc-add, pow-suc, div-lt_iff_lt-mul, add-one, arith, pow_pos, pow_mono}
use Rattle.std.proofs.Math.Nat.{div-eq_of_lt}
use borrow.Author.Tests.{ne_eqb, eqb-true, eqb-false, le-leb, leb-true, lt-ltb}
use Rattle.std.proofs.Math.ListN.{length}
use Rattle.std.specs.Float.{nan}
use Rattle.std.specs.Float.Ieee.{of_bits}
use Rattle.std.specs.Float.Ieee.Bits.{is_true}
use Rattle.std.specs.Float.Ieee.Scale.{finite}
use Rattle.ieee.specs.Units.{magnitude}
use Rattle.lists.specs.Bitset.{has}
use Rattle.lists.specs.Each.{Each}
use Rattle.kinds.specs.Limits.{Width, doubles, singles, exponent_of, blocks_of}
use Rattle.kinds.specs.State.{State}
use Rattle.judge.specs.Table.{size_of}
use Rattle.sound.specs.Sound.{sound_numbers, sound_pending, sound_place, bad_place, sound}
use Rattle.sound.specs.Numbers.{limit_exponent, Numbers}
use Rattle.sound.specs.SigmaLaws.{both_true}
use Rattle.sound.proofs.SoundLaws.{numbers_hold, numbers_true, pending_holds, sound_tests, sound_all}
use Rattle.sound.proofs.LimitLaws.{magnitude_doubles, magnitude_singles}
use Rattle.rounds.specs.Instances.{doubles_fit, singles_fit}
use Rattle.demands.specs.SoundState.{SoundPlace, SoundSet, SoundState, FirstUnsound}

-- ---- a set with no member from B on is below 2^B, and one that isn't 0 has a member

highest : (B s : ℕ) → s < 2 ^ suc B → has s B ≡ false → s < 2 ^ B
highest B s l h =
    let q : s / 2 ^ B < 2 = (div-lt_iff_lt-mul (pow_pos B)).1 (omega (arith, pow-suc 2 B)) in
    let z : s / 2 ^ B % 2 ≡ 1 → ⊥ = eqb-false (s / 2 ^ B % 2) 1 h in
    let lower : s < 1 * 2 ^ B = (div-lt_iff_lt-mul (pow_pos B)).0 (omega arith) in
    omega arith

below : (B k s : ℕ) → s < 2 ^ (k + B) → ((b : ℕ) → B ≤ b → has s b ≡ false) → s < 2 ^ B
below B zero s l h = rw (zero-add B) at l
below B (suc k) s l h = below B k s (highest (k + B) s (rw (suc-add k B) at l) (h (k + B) (omega arith))) h

below_self : (s : ℕ) → s < 2 ^ s
below_self zero = pow_pos 0
below_self (suc s) = omega (arith, below_self s, pow-suc 2 s)

all_below : (B s : ℕ) → ((b : ℕ) → B ≤ b → has s b ≡ false) → s < 2 ^ B
all_below B s h = below B s s (omega (arith, below_self s, pow_mono {i = s} {j = s + B} (omega arith))) h

none_above : (B s : ℕ) → s < 2 ^ B → (b : ℕ) → B ≤ b → has s b ≡ false
none_above B s l b h =
    let z : s / 2 ^ b ≡ 0 = div-eq_of_lt (omega (arith, pow_mono {i = B} {j = b} h)) in
    ne_eqb (s / 2 ^ b % 2) 1 (λ e. omega arith)

member : (B s : ℕ) → s < 2 ^ B → 0 < s → (b : ℕ) × (has s b ≡ true)
member zero s l h = absurd (omega arith)
member (suc B) s l h = go (has s B) refl (λ l. member B s l h)
  where
    go : (c : Bool) → has s B ≡ c → (s < 2 ^ B → (b : ℕ) × (has s b ≡ true)) → (b : ℕ) × (has s b ≡ true)
    go true e more = (B, e)
    go false e more = more (highest B s l e)

has_some : (s b : ℕ) → has s b ≡ true → 0 < s
has_some zero b h = let z : 0 / 2 ^ b ≡ 0 = div-eq_of_lt (pow_pos b) in absurd (omega (arith, eqb-true (0 / 2 ^ b % 2) 1 h, z))
has_some (suc s) b h = omega arith

module _ (W : Width) (s : State) where
  -- ---- one work number
  place_true : {x : Float} → SoundPlace W s x → sound_place W s x ≡ true
  place_true {x} P = simp (is_true (finite x) P.fini, le-leb _ _ most)
    where
      most : 2 ^ exponent_of s.n * magnitude W.format x ≤ magnitude W.format s.sigma
      most = omega (arith, P.small)

  place_holds : {x : Float} → sound_place W s x ≡ true → SoundPlace W s x
  place_holds {x} e =
      let a = both_true (finite x) (leb (2 ^ exponent_of s.n * magnitude W.format x) (magnitude W.format s.sigma)) e in
      let l : 2 ^ exponent_of s.n * magnitude W.format x ≤ magnitude W.format s.sigma = leb-true _ _ a.1 in
      record { fini = rw a.0 tt; small = omega arith }

  place_false : {x : Float} → (SoundPlace W s x → ⊥) → sound_place W s x ≡ false
  place_false {x} n = go (sound_place W s x) refl
    where
      go : (c : Bool) → sound_place W s x ≡ c → sound_place W s x ≡ false
      go true e = absurd (n (place_holds e))
      go false e = e

  -- ---- the work numbers
  places_sound : (xs : List Float) → Each (SoundPlace W s) xs → bad_place W s xs ≡ length xs
  unfolding bad_place
  places_sound [] h = refl
  places_sound (x ∷ xs) h = simp (place_true h.0, places_sound xs h.1) (add-one (length xs))

  places_hold : (xs : List Float) → bad_place W s xs ≡ length xs → Each (SoundPlace W s) xs
  unfolding bad_place
  places_hold [] h = tt
  places_hold (x ∷ xs) h = go (sound_place W s x) refl h (places_hold xs)
    where
      go : (c : Bool) → sound_place W s x ≡ c → cond c (bad_place W s xs + 1) 0 ≡ suc (length xs)
          → (bad_place W s xs ≡ length xs → Each (SoundPlace W s) xs) → SoundPlace W s x × Each (SoundPlace W s) xs
      go true e h more = (place_holds e, more (omega arith))
      go false e h more = absurd (omega arith)

  -- ---- the lowest that isn't sound
  pub first_bad_lem : (xs : List Float) (i : ℕ) → FirstUnsound W s xs i → bad_place W s xs ≡ i
  unfolding bad_place
  first_bad_lem [] i F = absurd (omega (arith, F.inside))
  first_bad_lem (x ∷ xs) zero F = rw (place_false F.bad)
  first_bad_lem (x ∷ xs) (suc i) F = rw (place_true (F.before 0 (omega arith)), first_bad_lem xs i behind) (add-one i)
    where
      behind : FirstUnsound W s xs i
      behind = record { inside = omega (arith, F.inside); bad = F.bad; before = λ j l. F.before (suc j) (omega arith) }

  pub bad_first : (xs : List Float) → bad_place W s xs < length xs → FirstUnsound W s xs (bad_place W s xs)
  unfolding bad_place
  bad_first [] h = absurd (omega arith)
  bad_first (x ∷ xs) h = go (sound_place W s x) refl h (bad_first xs)
    where
      there : {i : ℕ} → sound_place W s x ≡ true → FirstUnsound W s xs i → FirstUnsound W s (x ∷ xs) (suc i)
      there {i} e F = record { inside = omega (arith, F.inside); bad = F.bad; before = before }
        where
          before : (j : ℕ) → j < suc i → SoundPlace W s (get_or (x ∷ xs) j nan)
          before zero l = place_holds e
          before (suc j) l = F.before j (omega arith)

      go : (c : Bool) → sound_place W s x ≡ c → cond c (bad_place W s xs + 1) 0 < suc (length xs)
          → (bad_place W s xs < length xs → FirstUnsound W s xs (bad_place W s xs)) → FirstUnsound W s (x ∷ xs) (cond c (bad_place W s xs + 1) 0)
      go true e h more = rw (add-one (bad_place W s xs)) (there e (more (omega arith)))
      go false e h more = record {
        inside = omega arith;
        bad = λ P. let t = place_true P in let z : ◌≡◌ {A = ℕ} 0 1 = cc in omega arith;
        before = λ j l. absurd (omega arith);
      }

  -- ---- the pending set
  pub sound_set : (sound_pending W s ≡ true) ↔ SoundSet W s
  unfolding sound_pending
  sound_set = (
    there,
    λ S. simp (
      lt-ltb _ _ (has_some s.pending S.some.0 S.some.1),
      lt-ltb _ _ (all_below (blocks_of W s.n) s.pending (λ b h. S.inside b (omega arith))),
    ),
  )
    where
      there : sound_pending W s ≡ true → SoundSet W s
      there h =
          let P = pending_holds W s h in
          record {
            some = member (blocks_of W s.n) s.pending P.1 P.0;
            inside = λ b h. none_above (blocks_of W s.n) s.pending P.1 b (omega arith);
          }

  -- ---- all of it, where the largest magnitude is a power of two
  module _ (top : ℕ) (is : size_of W W.magnitude ≡ 2 ^ top) where
    pub sound_numbers_lem : (sound_numbers W s ≡ true) ↔ Numbers W s
    sound_numbers_lem = (numbers_hold W top is s, numbers_true W top is s)

    -- the test is true exactly for a sound state
    pub sound_state : (xs : List Float) → (sound W s xs ≡ true) ↔ SoundState W s xs
    sound_state xs = (
      λ h. let S = sound_tests W s xs h in record { numbers = sound_numbers_lem.0 S.0; set = sound_set.0 S.1; work = places_hold xs S.2 },
      λ S. sound_all W s xs (sound_numbers_lem.1 S.numbers) (sound_set.1 S.set) (places_sound xs S.work),
    )

-- ---- the scope's numbers: the limit 2^1000 is 2^2074 units, and 2^1012 is 2^2086
pub sound_doubles : (s : State) (xs : List Float) → (sound doubles s xs ≡ true) ↔ SoundState doubles s xs
sound_doubles s = sound_state doubles s doubles_fit.top doubles_fit.top_is

pub limit_doubles : limit_exponent doubles ≡ 2074
limit_doubles = magnitude_doubles

pub carried_doubles : size_of doubles doubles.carried ≡ 2 ^ 2086
unfolding magnitude of_bits
carried_doubles = refl

-- ---- at binary32 the limit 2^100 is 2^249 units, and 2^111 is 2^260
pub sound_singles : (s : State) (xs : List Float) → (sound singles s xs ≡ true) ↔ SoundState singles s xs
sound_singles s = sound_state singles s singles_fit.top singles_fit.top_is

pub limit_singles : limit_exponent singles ≡ 249
limit_singles = magnitude_singles

pub carried_singles : size_of singles singles.carried ≡ 2 ^ 260
unfolding magnitude of_bits
carried_singles = refl
