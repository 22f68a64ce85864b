-- Taking numbers in floats is taking them in units: the remainders and tau are those of `units/Walk`, and nothing overflows.
-- sigma is 2^(M + e) units and the numbers are at most 2^e. Assumes nothing.
use Rattle.std.specs.Prelude.{◌≡◌, Bool, true, false, not, ◌&&◌, pos, ◌+ℤ◌, ◌-ℤ◌, Float}
use Rattle.std.proofs.Math.Path.{refl, ap}
use Rattle.std.proofs.Common.{sym, ◌∙◌, inl, inr, mul-zero, mul-le-mul_left, pow-add, pow_mono}
use mathlib.Core.List.{List, [], ◌∷◌, map}
use Prim.Native.Nat.{ℕ, suc, ◌+◌, ◌-◌, ◌*◌, ◌^◌, ◌≤◌, ◌<◌}
use native.Mathlib.Omega.{arith}
use Rattle.std.proofs.Math.ListN.{length}
use Rattle.std.specs.Float.{Format}
use Rattle.std.specs.Float.Ieee.{prec, emax, low, add}
use Rattle.units.specs.Whole.{Whole, nat, ◌⊕◌, ◌⊖◌, ◌≈◌, mag, Within, int, All}
use Rattle.units.proofs.Powers.{le_or_lt, pow_split}
use Rattle.units.specs.Rounding.{fl}
use Rattle.units.proofs.SignedRounding.{fl_zero}
use Rattle.units.proofs.Integers.{int_same, int_difference, int_plus, int_minus}
use Rattle.units.specs.Walk as units
use Rattle.units.proofs.Extraction.{extract}
use Rattle.units.proofs.Turns.{tau_under, turn_left, turn_exact, turn_tau}
use Rattle.ieee.specs.Units.{Number, RoundedTo, magnitude, negative, value, whole, sign_of}
use Rattle.ieee.proofs.Rounded.{prec_pos}
use Rattle.ieee.proofs.Sum.{value_int, whole_mag}
use Rattle.ieee.proofs.Nearest.{number_rep}
use Rattle.ieee.proofs.InRange.{add_rounds, high_rounds, remainder_rounds}
use Rattle.lists.specs.Each.{Each, each_map}
use Rattle.extract.specs.Extract.{high_part, remainder_of, remainders, gathered, largest}
use Rattle.extract.specs.ExtractLaws.{largest_scaled}
use Rattle.extract.specs.LargestLaws.{Positive}
use Rattle.rounds.specs.Exactness.{Exact, ExactSums}

-- a number of at most so many units
pub record Small (f : Format) (most : ℕ) (x : Float) : Type 0 where
  pub number : Number f x
  pub within : magnitude f x ≤ most

abbrev pub wholes : Format → List Float → List Whole
wholes f xs = map (whole f) xs

-- a sum is -0 only where both operands are, so not where the first never is
pub sum_plus : {f : Format} (x y : Float) {r : Float} → (magnitude f x ≡ 0 → negative x ≡ false)
    → RoundedTo f (negative x && negative y) (whole f x ⊕ whole f y) r → magnitude f r ≡ 0 → negative r ≡ false
unfolding whole
sum_plus {f} x y {r} h R z = R.sign ∙ ap (sign_of (negative x && negative y)) zero ∙ go (negative x) (negative y) refl refl
  where
    none : whole f x ⊕ whole f y ≈ nat 0
    none = fl_zero (prec f) (prec_pos f) (whole f x ⊕ whole f y) (rw R.units at (empty (whole f r) (whole_mag f r ∙ z)))
      where
        empty : (a : Whole) → mag a ≡ 0 → a ≈ nat 0
        empty a m = omega arith

    zero : int (whole f x ⊕ whole f y) ≡ pos 0
    zero = int_same (whole f x ⊕ whole f y) (nat 0) none ∙ int_difference (pos 0)

    go : (s t : Bool) → negative x ≡ s → negative y ≡ t → (s && t) ≡ false
    go false t e i = refl
    go true false e i = refl
    go true true e i =
        let m : magnitude f x ≡ 0 = omega (arith, rw (e, i) at none) in
        sym e ∙ h m

-- sigma is 2^(M + e) units, with room above it
pub record Scale (f : Format) (M e : ℕ) (sigma : Float) : Type 0 where
  pub some : 0 < M
  pub few : M < prec f
  pub room : M + e + 3 ≤ low f + emax f
  pub power : Positive f sigma (2 ^ (M + e))

module _ {f : Format} {M e : ℕ} {sigma : Float} (σ : Scale f M e sigma) where
  sigma_whole : whole f sigma ≡ nat (2 ^ (M + e))
  unfolding whole
  sigma_whole = rw (σ.power.sign, σ.power.units)

  ready : {x : Float} → Small f (2 ^ e) x → units.Ready (prec f) e (whole f x)
  ready {x} X = record { rep = number_rep X.number; small = omega (arith, whole_mag f x, X.within) }

  pub all_ready : (xs : List Float) → Each (Small f (2 ^ e)) xs → All (units.Ready (prec f) e) (wholes f xs)
  all_ready [] h = tt
  all_ready (x ∷ xs) h = (ready h.0, all_ready xs h.1)

  inside : {x : Float} → Small f (2 ^ e) x → Within (whole f x) (2 ^ (M + e))
  inside {x} X = omega (arith, whole_mag f x, X.within, pow_mono {i = e} {j = M + e} (omega arith))

  raised_rounds : {x : Float} → Small f (2 ^ e) x → RoundedTo f (negative sigma && negative x) (whole f sigma ⊕ whole f x) (add f sigma x)
  raised_rounds {x} X = add_rounds σ.power.number X.number (M + e + 1) (omega (arith, σ.room))
      (rw (sigma_whole, pow-add 2 (M + e) 1) (omega (arith, inside X)))

  high_is : {x : Float} → Small f (2 ^ e) x
      → RoundedTo f (negative (add f sigma x) && not (negative sigma)) (fl (prec f) (nat (2 ^ (M + e)) ⊕ whole f x) ⊖ nat (2 ^ (M + e))) (high_part f sigma x)
  high_is X = high_rounds σ.power.number X.number (M + e) σ.room sigma_whole (inside X)

  pub high_units_lem : {x : Float} → Small f (2 ^ e) x → whole f (high_part f sigma x) ≡ units.high (prec f) (M + e) (whole f x)
  high_units_lem X = (high_is X).units

  high_within : {x : Float} → Small f (2 ^ e) x → Within (whole f (high_part f sigma x)) (2 ^ e)
  high_within X = rw (high_is X).units (extract (prec f) (prec_pos f) M e σ.some σ.few (ready X).rep (ready X).small).high_small

  -- a high part is no larger than the number may be
  pub high_small : {x : Float} → Small f (2 ^ e) x → Small f (2 ^ e) (high_part f sigma x)
  high_small {x} X = record { number = (high_is X).number; within = omega (arith, whole_mag f (high_part f sigma x), high_within X) }

  remainder_is : {x : Float} → Small f (2 ^ e) x
      → RoundedTo f (negative x && not (negative (high_part f sigma x))) (whole f x ⊖ units.high (prec f) (M + e) (whole f x)) (remainder_of f sigma x)
  remainder_is X = remainder_rounds σ.power.number X.number (M + e) σ.room sigma_whole (inside X)

  -- what is left of a number: half a last place of sigma at most, said twice over
  pub remainder_small : {x : Float} → Small f (2 ^ e) x
      → Number f (remainder_of f sigma x) × (2 * magnitude f (remainder_of f sigma x) ≤ 2 ^ (suc (M + e) - prec f))
  remainder_small {x} X = (
    (remainder_is X).number,
    omega (
      arith,
      whole_mag f (remainder_of f sigma x),
      rw (← (remainder_is X).units) at (turn_left (prec f) (prec_pos f) M e σ.some σ.few (ready X)).small,
    ),
  )

  -- eps times sigma, or nothing where that is less than a unit
  remainder_eps : {x : Float} → Small f (2 ^ e) x → 2 ^ prec f * magnitude f (remainder_of f sigma x) ≤ magnitude f sigma
  remainder_eps {x} X = rw σ.power.units (elim (le_or_lt (prec f) (M + e)) [
    | inl l ↦
        let z : suc (M + e) - prec f ≡ suc (M + e - prec f) = omega arith in
        let h : magnitude f r ≤ 2 ^ (M + e - prec f) = omega (arith, (remainder_small X).1, ap (λ (k : ℕ). 2 ^ k) z, pow-add 2 1 (M + e - prec f)) in
        omega (arith, mul-le-mul_left (2 ^ prec f) h, pow_split l)
    | inr l ↦
        let z : suc (M + e) - prec f ≡ 0 = omega arith in
        let h : magnitude f r ≡ 0 = omega (arith, (remainder_small X).1, ap (λ (k : ℕ). 2 ^ k) z) in
        rw (h, mul-zero (2 ^ prec f)) (omega arith)
  ])
    where
      r : Float
      r = remainder_of f sigma x

  pub largest_eps : (xs : List Float) → Each (Small f (2 ^ e)) xs → 2 ^ prec f * largest f (remainders f sigma xs) ≤ magnitude f sigma
  unfolding remainders
  largest_eps xs h = largest_scaled f (2 ^ prec f) (magnitude f sigma) (remainders f sigma xs)
      (each_map (Small f (2 ^ e)) (λ y. 2 ^ prec f * magnitude f y ≤ magnitude f sigma) (remainder_of f sigma) (λ x X. remainder_eps X) xs h)

  -- which is no larger than the number may be
  pub left_small : {x : Float} → Small f (2 ^ e) x → Small f (2 ^ e) (remainder_of f sigma x)
  left_small {x} X =
      let R = remainder_small X in
      let l : 2 ^ (suc (M + e) - prec f) ≤ 2 ^ suc e = pow_mono (omega (arith, σ.few)) in
      record { number = R.0; within = omega (arith, R.1, l, pow-add 2 1 e) }

  pub remainders_small : (xs : List Float) → Each (Small f (2 ^ e)) xs → Each (Small f (2 ^ e)) (remainders f sigma xs)
  unfolding remainders
  remainders_small xs h = each_map (Small f (2 ^ e)) (Small f (2 ^ e)) (remainder_of f sigma) (λ x X. left_small X) xs h

  pub remainders_units : (xs : List Float) → Each (Small f (2 ^ e)) xs → wholes f (remainders f sigma xs) ≡ units.remainders (prec f) (M + e) (wholes f xs)
  unfolding remainders
  remainders_units [] h = refl
  remainders_units (x ∷ xs) h = λ i. (remainder_is h.0).units i ∷ remainders_units xs h.1 i

  -- ---- exactness
  high_exact : {x : Float} → Small f (2 ^ e) x → whole f (high_part f sigma x) ≈ whole f (add f sigma x) ⊖ whole f sigma
  high_exact X =
      rw ((high_is X).units, (raised_rounds X).units, sigma_whole)
      (extract (prec f) (prec_pos f) M e σ.some σ.few (ready X).rep (ready X).small).high_is

  pub remainder_exact : {x : Float} → Small f (2 ^ e) x → whole f (remainder_of f sigma x) ≈ whole f x ⊖ whole f (high_part f sigma x)
  remainder_exact X =
      rw ((remainder_is X).units, (high_is X).units)
      (extract (prec f) (prec_pos f) M e σ.some σ.few (ready X).rep (ready X).small).remainder_is

  pub taken_exact : {x : Float} → Small f (2 ^ e) x → Exact f sigma x
  taken_exact {x} X = record {
    raised_number = (raised_rounds X).number;
    high_number = (high_is X).number;
    remainder_number = (remainder_is X).number;
    high = less (high_part f sigma x) (add f sigma x) sigma (high_exact X);
    remainder = less (remainder_of f sigma x) x (high_part f sigma x) (remainder_exact X);
  }
    where
      less : (a b c : Float) → whole f a ≈ whole f b ⊖ whole f c → value f a ≡ value f b -ℤ value f c
      less a b c h =
          value_int f a ∙ int_same (whole f a) (whole f b ⊖ whole f c) h ∙ int_minus (whole f b) (whole f c)
          ∙ (λ i. sym (value_int f b) i -ℤ sym (value_int f c) i)

  -- ---- tau after c numbers were taken: a number, in units what `units/Turns` has, and never -0
  pub record Tau (c : ℕ) (tau : Float) : Type 0 where
    pub number : Number f tau
    pub units : units.Tau (prec f) M e c (whole f tau)
    pub plus : magnitude f tau ≡ 0 → negative tau ≡ false

  next_sum : {c : ℕ} {tau x : Float} → Tau c tau → Small f (2 ^ e) x → c < 2 ^ M
      → RoundedTo f (negative tau && negative (high_part f sigma x)) (whole f tau ⊕ whole f (high_part f sigma x)) (add f tau (high_part f sigma x))
  next_sum T X l = add_rounds T.number (high_is X).number (M + e + 1) (omega (arith, σ.room))
      (omega (arith, tau_under T.units l, high_within X, pow-add 2 (M + e) 1, pow_mono {i = e} {j = M + e} (omega arith)))

  next_units : {c : ℕ} {tau x : Float} → Tau c tau → Small f (2 ^ e) x → c < 2 ^ M
      → whole f (add f tau (high_part f sigma x)) ≡ fl (prec f) (whole f tau ⊕ units.high (prec f) (M + e) (whole f x))
  next_units {tau = tau} T X l = (next_sum T X l).units ∙ ap (λ (q : Whole). fl (prec f) (whole f tau ⊕ q)) (high_is X).units

  pub next_tau : {c : ℕ} {tau x : Float} → Tau c tau → Small f (2 ^ e) x → c < 2 ^ M → Tau (suc c) (add f tau (high_part f sigma x))
  next_tau {tau = tau} {x} T X l = record {
    number = (next_sum T X l).number;
    units = rw (next_units T X l) (turn_tau (prec f) (prec_pos f) M e σ.some σ.few T.units (ready X) l);
    plus = sum_plus tau (high_part f sigma x) T.plus (next_sum T X l);
  }

  pub next_exact : {c : ℕ} {tau x : Float} → Tau c tau → Small f (2 ^ e) x → c < 2 ^ M
      → whole f (add f tau (high_part f sigma x)) ≈ whole f tau ⊕ whole f (high_part f sigma x)
  next_exact T X l = rw (next_units T X l, (high_is X).units) (turn_exact (prec f) (prec_pos f) M e σ.some σ.few T.units (ready X) l)

  -- rule WE1, for tau
  tau_exact : {c : ℕ} {tau x : Float} → Tau c tau → Small f (2 ^ e) x → c < 2 ^ M
      → value f (add f tau (high_part f sigma x)) ≡ value f tau +ℤ value f (high_part f sigma x)
  tau_exact {tau = tau} {x} T X l =
      let q = high_part f sigma x in
      value_int f (add f tau q) ∙ int_same (whole f (add f tau q)) (whole f tau ⊕ whole f q) (next_exact T X l) ∙ int_plus (whole f tau) (whole f q)
      ∙ (λ i. sym (value_int f tau) i +ℤ sym (value_int f q) i)

  pub gathers_exact : (xs : List Float) {c : ℕ} {tau : Float} → Tau c tau → Each (Small f (2 ^ e)) xs → c + length xs ≤ 2 ^ M → ExactSums f sigma tau xs
  gathers_exact [] T h l = tt
  gathers_exact (x ∷ xs) {c} T h l =
      let m : c < 2 ^ M = omega arith in
      let N = next_tau T h.0 m in
      (N.number, N.plus, tau_exact T h.0 m, gathers_exact xs N h.1 (omega arith))

  pub gathers : (xs : List Float) {c : ℕ} {tau : Float} → Tau c tau → Each (Small f (2 ^ e)) xs → c + length xs ≤ 2 ^ M
      → Tau (c + length xs) (gathered f sigma tau xs)
      × (whole f (gathered f sigma tau xs) ≡ units.gathered (prec f) (M + e) (whole f tau) (wholes f xs))
  unfolding gathered
  gathers [] {c} {tau} T h l = let z : c + 0 ≡ c = omega arith in (rw z T, refl)
  gathers (x ∷ xs) {c} {tau} T h l =
      let m : c < 2 ^ M = omega arith in
      let R = gathers xs (next_tau T h.0 m) h.1 (omega arith) in
      let z : c + suc (length xs) ≡ suc c + length xs = omega arith in
      (rw z R.0, R.1 ∙ ap (λ (t : Whole). units.gathered (prec f) (M + e) t (wholes f xs)) (next_units T h.0 m))
