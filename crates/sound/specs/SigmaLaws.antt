-- A sound sigma: what it is, and that it is a number up to the greatest sigma whose pattern is that of the power of two at its own exponent. Assumes nothing.
use Rattle.std.specs.Prelude.{◌≡◌, Bool, not, ◌&&◌, ℕ, ◌+◌, ◌*◌, ◌^◌, ◌≤◌, ◌<◌, T, leb, eqb, Float}
use Rattle.std.proofs.Math.Path.{refl, sym}
use Rattle.std.proofs.Common.{ap, ◌∙◌, le_trans, arith, leb→le, le→leb, eqb→eq, pow-add, pow_mono}
use Rattle.std.proofs.Math.Bool.{true, false, and-true, and-false}
use borrow.Author.Tests.{eq-eqb, eqb-true, leb-true, not-true, le-leb}
use Rattle.std.specs.Float.{Format}
use Rattle.std.specs.Float.Ieee.{to_bits, fits}
use Rattle.std.specs.Float.Ieee.Fits.{eq→eqb}
use Rattle.std.specs.Float.Ieee.Bits.{is_true}
use Rattle.std.specs.Float.Ieee.Scale.{finite}
use Rattle.units.specs.Rounding.{ceil}
use Rattle.units.proofs.Ceiling.{ceil_ge, ceil_least}
use Rattle.units.proofs.CeilingLaws.{ceil_power}
use Rattle.units.proofs.Powers.{pow_le_back}
use Rattle.ieee.specs.Units.{Number, negative, magnitude, pattern_units}
use Rattle.ieee.proofs.Fractions.{same_test}
use Rattle.ieee.proofs.Finite.{facts}
use Rattle.lists.proofs.Apart.{apart}
use Rattle.exponent.specs.Power.{powers, power_of}
use Rattle.exponent.proofs.PowerLaws.{power_number, power_negative, power_magnitude, power_same}
use Rattle.exponent.proofs.CeilingLaws.{positive_units}
use Rattle.kinds.specs.Limits.{Width, exponent_of}
use Rattle.judge.specs.Table.{size_of}
use Rattle.sound.specs.Sound.{at_most, sound_sigma}
use Rattle.sound.specs.Numbers.{limit_exponent, SigmaBetween}

pub both_true : (a b : Bool) → (a && b) ≡ true → (a ≡ true) × (b ≡ true)
both_true true b e = (refl, e)
both_true false b e = apart (cc)

pub record Sigma (W : Width) (n : ℕ) (x : Float) : Type 0 where
  pub fini : T (finite x)
  pub positive : negative x ≡ false
  pub power : magnitude W.format x ≡ 2 ^ ceil (magnitude W.format x)
  pub least : 2 ^ exponent_of n ≤ magnitude W.format x
  pub most : magnitude W.format x ≤ 2 ^ exponent_of n * size_of W W.magnitude

pub sigma_holds : (W : Width) (n : ℕ) (x : Float) → sound_sigma W n x ≡ true → Sigma W n x
unfolding sound_sigma
sigma_holds W n x h =
    let m = magnitude W.format x in
    let A = finite x in
    let B = not (negative x) in
    let C = eqb m (2 ^ ceil m) in
    let D = leb (2 ^ exponent_of n) m in
    let E = leb m (2 ^ exponent_of n * size_of W W.magnitude) in
    let e = both_true (A && B && C && D) E h in
    let d = both_true (A && B && C) D e.0 in
    let c = both_true (A && B) C d.0 in
    let b = both_true A B c.0 in
    record {
      fini = rw b.0 tt;
      positive = not-true (negative x) b.1;
      power = eqb-true m (2 ^ ceil m) c.1;
      least = leb-true (2 ^ exponent_of n) m d.1;
      most = leb-true m (2 ^ exponent_of n * size_of W W.magnitude) e.1;
    }

exponents : {m : ℕ} (M top : ℕ) → 2 ^ M ≤ m → m ≤ 2 ^ (M + top) → (M ≤ ceil m) × (ceil m ≤ M + top)
exponents {m} M top h k = (pow_le_back M (ceil m) (le_trans h (ceil_ge m)), ceil_least k)

-- ---- a power of two of at least 2^m units, by its pattern
abbrev pub is_power_from : Format → ℕ → Float → Bool
is_power_from f m x = not (negative x) && leb (2 ^ m) (magnitude f x) && eqb (magnitude f x) (2 ^ ceil (magnitude f x))

abbrev pub exponent_in : Format → Float → ℕ
exponent_in f x = ceil (magnitude f x)

module _ {f : Format} {x : Float} (X : Number f x) (s : negative x ≡ false) (room : exponent_in f x < powers f) where
  power_bits : eqb (to_bits f (power_of f (exponent_in f x))) (to_bits f x) ≡ eqb (magnitude f x) (2 ^ exponent_in f x)
  power_bits =
      same_test (eqb (to_bits f (power_of f (exponent_in f x))) (to_bits f x)) (eqb (magnitude f x) (2 ^ exponent_in f x))
      (λ t. eq→eqb (units (eqb→eq (to_bits f (power_of f (exponent_in f x))) (to_bits f x) t)))
      (λ t. eq→eqb (bits (eqb→eq (magnitude f x) (2 ^ exponent_in f x) t)))
    where
      units : to_bits f (power_of f (exponent_in f x)) ≡ to_bits f x → magnitude f x ≡ 2 ^ exponent_in f x
      units e =
          positive_units X s ∙ ap (pattern_units f) (sym e) ∙ sym (positive_units (power_number f room) (power_negative f room)) ∙ power_magnitude f room

      bits : magnitude f x ≡ 2 ^ exponent_in f x → to_bits f (power_of f (exponent_in f x)) ≡ to_bits f x
      bits e = ap (to_bits f) (sym (power_same f room X (rw (s, e) at (facts f x X).is)))

  pub power_from : (m : ℕ) → (leb m (exponent_in f x) && eqb (to_bits f (power_of f (exponent_in f x))) (to_bits f x)) ≡ is_power_from f m x
  power_from m = rw (power_bits, s) (go (eqb (magnitude f x) (2 ^ exponent_in f x)) (eqb-true (magnitude f x) (2 ^ exponent_in f x)))
    where
      exponents_same : magnitude f x ≡ 2 ^ exponent_in f x → leb m (exponent_in f x) ≡ leb (2 ^ m) (magnitude f x)
      exponents_same e =
          same_test (leb m (exponent_in f x)) (leb (2 ^ m) (magnitude f x))
          (λ t. le→leb (2 ^ m) (magnitude f x) (rw e (pow_mono (leb→le m (exponent_in f x) t))))
          (λ t. le→leb m (exponent_in f x) (pow_le_back m (exponent_in f x) (rw e at (leb→le (2 ^ m) (magnitude f x) t))))

      go : (c : Bool) → (c ≡ true → magnitude f x ≡ 2 ^ exponent_in f x) → (leb m (exponent_in f x) && c) ≡ (leb (2 ^ m) (magnitude f x) && c)
      go true h = ap (λ (b : Bool). b && true) (exponents_same (h refl))
      go false h = and-false (leb m (exponent_in f x)) ∙ sym (and-false (leb (2 ^ m) (magnitude f x)))

-- a negative number is none
pub negative_power : (f : Format) (x : Float) (m : ℕ) → negative x ≡ true → false ≡ is_power_from f m x
negative_power f x m s = rw s

-- ---- a sound sigma, with 2^top the largest magnitude in units
module _ (W : Width) (top : ℕ) (is : size_of W W.magnitude ≡ 2 ^ top) (n : ℕ) where
  high : 2 ^ exponent_of n * size_of W W.magnitude ≡ 2 ^ (exponent_of n + top)
  high = rw is (sym (pow-add 2 (exponent_of n) top))

  pub sigma_exponent : {x : Float} → Sigma W n x → (exponent_of n ≤ ceil (magnitude W.format x)) × (ceil (magnitude W.format x) ≤ exponent_of n + top)
  sigma_exponent S = exponents (exponent_of n) top S.least (rw high at S.most)

  -- the test is the proposition
  pub limit_is : limit_exponent W ≡ top
  limit_is = ap ceil is ∙ ceil_power top

  pub sigma_between : (x : Float) → sound_sigma W n x ≡ true → SigmaBetween W n x
  sigma_between x h =
      let S = sigma_holds W n x h in
      let e = sigma_exponent S in
      record { k = _; fini = S.fini; positive = S.positive; power = S.power; from = omega (arith, e.0); to = omega (arith, e.1, limit_is) }

  pub sigma_true : (x : Float) → SigmaBetween W n x → sound_sigma W n x ≡ true
  unfolding sound_sigma
  sigma_true x P =
      simp (
        is_true (finite x) P.fini,
        P.positive,
        P.power,
        ceil_power P.k,
        eq-eqb (2 ^ P.k) _ refl,
        le-leb (2 ^ exponent_of n) (2 ^ P.k) (pow_mono (omega (arith, P.from))),
        is,
        le-leb (2 ^ P.k) (2 ^ exponent_of n * 2 ^ top) most,
      )
    where
      most : 2 ^ P.k ≤ 2 ^ exponent_of n * 2 ^ top
      most = rw (← (pow-add 2 (exponent_of n) top)) (pow_mono (omega (arith, P.to, limit_is)))

  -- it is no larger than the greatest sigma, and a power of two from the least one on
  pub sigma_is : (x : Float) → (at_most W (2 ^ (exponent_of n + top)) x && is_power_from W.format (exponent_of n) x) ≡ sound_sigma W n x
  unfolding at_most sound_sigma
  sigma_is x =
      let m = magnitude W.format x in
      rw (← high) (moved (finite x) (not (negative x)) (eqb m (2 ^ ceil m)) (leb (2 ^ exponent_of n) m) (leb m (2 ^ exponent_of n * size_of W W.magnitude)))
    where
      moved : (a b c d e : Bool) → ((a && e) && (b && d && c)) ≡ (a && b && c && d && e)
      moved false b c d e = refl
      moved true b c d false = sym (and-false (b && c && d))
      moved true false c d true = refl
      moved true true c true true = sym (and-true (c && true) ∙ and-true c)
      moved true true c false true = sym (and-true (c && false) ∙ and-false c)

  -- it is the float at its exponent
  pub sigma_power : exponent_of n + top < powers W.format → (x : Float) → T (fits W.format x) → sound_sigma W n x ≡ true
      → x ≡ power_of W.format (ceil (magnitude W.format x))
  sigma_power room x fit h =
      let s = sigma_holds W n x h in
      let X : Number W.format x = record { fit = fit; fini = s.fini } in
      power_same W.format (omega (arith, sigma_exponent s)) X (rw (s.positive, s.power) at (facts W.format x X).is)
