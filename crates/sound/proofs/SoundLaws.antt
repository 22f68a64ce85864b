-- A sound state: each of its tests, and what they give. The pending set's test is one comparison with the full set. Assumes nothing.
use Rattle.std.specs.Prelude.{◌≡◌, refl, Bool, true, false, ◌&&◌, List, ℕ, ◌-◌, ◌*◌, ◌^◌, ◌≤◌, ◌<◌, eqb, length, Float}
use Rattle.std.proofs.Math.Path.{ap}
use Rattle.std.proofs.Math.Bool.{not, and-true, and-false}
use Rattle.std.proofs.Common.{arith, pow_pos}
use borrow.Author.Tests.{leb-true, ltb-true, eqb-true, not-true, eq-eqb, le-leb, lt-leb}
use Rattle.std.proofs.Math.Dec.{leb, ltb, leb→le, le→leb, ltb→lt, lt→ltb}
use Rattle.std.specs.Float.{Format}
use Rattle.std.specs.Float.Ieee.{prec}
use Rattle.std.specs.Float.Ieee.Bits.{is_true}
use Rattle.std.specs.Float.Ieee.Scale.{finite}
use Rattle.ieee.specs.Units.{negative, magnitude}
use Rattle.ieee.proofs.Fractions.{same_test}
use Rattle.lists.specs.Bitset.{full}
use Rattle.kinds.specs.Limits.{Width, blocks_of}
use Rattle.kinds.specs.State.{State}
use Rattle.judge.specs.Table.{size_of}
use Rattle.sound.specs.Sound.{sound_sigma, at_most, sound_largest, sound_numbers, sound_pending, bad_place, sound}
use Rattle.sound.specs.Numbers.{FiniteWithin, UpToEps, Numbers}
use Rattle.sound.proofs.PlacesLaws.{scaled, scaled_none}
use Rattle.sound.specs.SigmaLaws.{both_true, sigma_between, sigma_true}

pub at_most_holds : (W : Width) (most : ℕ) (x : Float) → at_most W most x ≡ true → FiniteWithin W.format most x
unfolding at_most
at_most_holds W most x h =
    let a = both_true (finite x) (leb (magnitude W.format x) most) h in
    record { fini = rw a.0 tt; small = leb-true (magnitude W.format x) most a.1 }

at_most_true : (W : Width) (most : ℕ) (x : Float) → FiniteWithin W.format most x → at_most W most x ≡ true
unfolding at_most
at_most_true W most x X = simp (is_true (finite x) X.fini, le-leb _ _ X.small)

-- ---- the largest remainder
module _ (W : Width) (sigma x : Float) where
  abbrev f : Format
  f = W.format

  largest_holds : sound_largest W sigma x ≡ true → UpToEps f sigma x
  unfolding sound_largest
  largest_holds h =
      let A = finite x in
      let B = not (negative x) in
      let C = leb (2 ^ prec f * magnitude f x) (magnitude f sigma) in
      let c = both_true (A && B) C h in
      let b = both_true A B c.0 in
      record {
        fini = rw b.0 tt;
        unsigned = not-true (negative x) b.1;
        small = leb-true (2 ^ prec f * magnitude f x) (magnitude f sigma) c.1;
      }

  pub largest_true : UpToEps f sigma x → sound_largest W sigma x ≡ true
  unfolding sound_largest
  largest_true X = simp (is_true (finite x) X.fini, X.unsigned, le-leb _ _ X.small)

  moved : (a b c : Bool) → ((a && c) && b) ≡ (a && b && c)
  moved false b c = refl
  moved true false c = and-false c
  moved true true c = and-true c

  -- by a comparison in units, of a sigma of 2^k
  module _ (k : ℕ) (power : magnitude f sigma ≡ 2 ^ k) where
    pub largest_above : prec f ≤ k → (at_most W (2 ^ (k - prec f)) x && not (negative x)) ≡ sound_largest W sigma x
    unfolding at_most sound_largest
    largest_above l = rw (power, scaled (prec f) k (magnitude f x) l) (moved (finite x) (not (negative x)) (leb (2 ^ prec f * magnitude f x) (2 ^ k)))

    pub largest_below : k < prec f → (at_most W 0 x && not (negative x)) ≡ sound_largest W sigma x
    unfolding at_most sound_largest
    largest_below l = rw (power, scaled_none (prec f) k (magnitude f x) l) (moved (finite x) (not (negative x)) (leb (2 ^ prec f * magnitude f x) (2 ^ k)))

-- ---- the numbers
module _ (W : Width) (s : State) where
  pub numbers_none : s.n < 1 → sound_numbers W s ≡ false
  unfolding sound_numbers
  numbers_none h = rw (lt-leb 1 s.n h)

  pub numbers_many : W.length < s.n → sound_numbers W s ≡ false
  unfolding sound_numbers
  numbers_many h = rw (lt-leb s.n W.length h, and-false (leb 1 s.n))

  pub numbers_sigma : sound_sigma W s.n s.sigma ≡ false → sound_numbers W s ≡ false
  unfolding sound_numbers
  numbers_sigma h = rw (h, and-false (leb 1 s.n && leb s.n W.length && leb s.rounds W.rounds))

  pub numbers_are : 1 ≤ s.n → s.n ≤ W.length → sound_sigma W s.n s.sigma ≡ true
      → sound_numbers W s
      ≡ (leb s.rounds W.rounds
      && at_most W (size_of W W.carried) s.t
      && at_most W (size_of W W.carried) s.tau
      && sound_largest W s.sigma s.largest)
  unfolding sound_numbers
  numbers_are h k l = rw (le-leb 1 s.n h, le-leb s.n W.length k, l, and-true (leb s.rounds W.rounds))

  -- ---- the pending set
  pub pending_is : (ltb 0 s.pending && leb s.pending (full (blocks_of W s.n))) ≡ sound_pending W s
  unfolding sound_pending
  pending_is = ap (λ (b : Bool). ltb 0 s.pending && b) (last s.pending (2 ^ blocks_of W s.n) (pow_pos (blocks_of W s.n)))
    where
      last : (p q : ℕ) → 0 < q → leb p (q - 1) ≡ ltb p q
      last p q h = same_test (leb p (q - 1)) (ltb p q)
          (λ t. lt→ltb p q (let l : p ≤ q - 1 = leb→le p (q - 1) t in omega arith))
          (λ t. le→leb p (q - 1) (let l : p < q = ltb→lt p q t in omega arith))

  pub pending_holds : sound_pending W s ≡ true → (0 < s.pending) × (s.pending < 2 ^ blocks_of W s.n)
  unfolding sound_pending
  pending_holds h =
      let a = both_true (ltb 0 s.pending) (ltb s.pending (2 ^ blocks_of W s.n)) h in
      (ltb-true 0 s.pending a.0, ltb-true s.pending (2 ^ blocks_of W s.n) a.1)

  -- ---- all three
  module _ (xs : List Float) where
    pub sound_tests : sound W s xs ≡ true → (sound_numbers W s ≡ true) × (sound_pending W s ≡ true) × (bad_place W s xs ≡ length xs)
    unfolding sound
    sound_tests h =
        let b = both_true (sound_numbers W s && sound_pending W s) (eqb (bad_place W s xs) (length xs)) h in
        let a = both_true (sound_numbers W s) (sound_pending W s) b.0 in
        (a.0, a.1, eqb-true (bad_place W s xs) (length xs) b.1)

    pub sound_all : sound_numbers W s ≡ true → sound_pending W s ≡ true → bad_place W s xs ≡ length xs → sound W s xs ≡ true
    unfolding sound
    sound_all h k l = rw (h, k, eq-eqb (bad_place W s xs) (length xs) l)

-- ---- the tests are what they say, where the largest magnitude is 2^top units
module _ (W : Width) (top : ℕ) (is : size_of W W.magnitude ≡ 2 ^ top) (s : State) where
  pub numbers_hold : sound_numbers W s ≡ true → Numbers W s
  unfolding sound_numbers
  numbers_hold h =
      let A = leb 1 s.n in
      let B = leb s.n W.length in
      let C = leb s.rounds W.rounds in
      let D = sound_sigma W s.n s.sigma in
      let E = at_most W (size_of W W.carried) s.t in
      let F = at_most W (size_of W W.carried) s.tau in
      let G = sound_largest W s.sigma s.largest in
      let g = both_true (A && B && C && D && E && F) G h in
      let f = both_true (A && B && C && D && E) F g.0 in
      let e = both_true (A && B && C && D) E f.0 in
      let d = both_true (A && B && C) D e.0 in
      let c = both_true (A && B) C d.0 in
      let b = both_true A B c.0 in
      record {
        counts = record {
          some = leb-true 1 s.n b.0;
          few = omega (arith, leb-true s.n W.length b.1);
          rounds = omega (arith, leb-true s.rounds W.rounds c.1);
        };
        sigma = sigma_between W top is s.n s.sigma d.1;
        t = at_most_holds W (size_of W W.carried) s.t e.1;
        tau = at_most_holds W (size_of W W.carried) s.tau f.1;
        largest = largest_holds W s.sigma s.largest g.1;
      }

  pub numbers_true : Numbers W s → sound_numbers W s ≡ true
  unfolding sound_numbers
  numbers_true N =
      simp (
        le-leb 1 s.n N.counts.some,
        le-leb s.n W.length (omega (arith, N.counts.few)),
        le-leb s.rounds W.rounds (omega (arith, N.counts.rounds)),
        sigma_true W top is s.n s.sigma N.sigma,
        at_most_true W (size_of W W.carried) s.t N.t,
        at_most_true W (size_of W W.carried) s.tau N.tau,
        largest_true W s.sigma s.largest N.largest,
      )

  pub sound_holds : (xs : List Float) → sound W s xs ≡ true → Numbers W s × (sound_pending W s ≡ true) × (bad_place W s xs ≡ length xs)
  sound_holds xs h = let S = sound_tests W s xs h in (numbers_hold S.0, S.1, S.2)
