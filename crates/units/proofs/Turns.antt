-- Numbers taken in a round, in any order: each addition to tau is exact and nothing is lost, so that tau is the exact sum of the high parts taken so far.
-- Document 000's Theorem 3.4, first part. Assumes nothing.
use Rattle.std.specs.Prelude.{◌≡◌, refl, List, [], ◌∷◌, ℕ, suc, ◌+◌, ◌-◌, ◌^◌, ◌≤◌, ◌<◌, length}
use Rattle.std.proofs.Common.{◌∙◌, mul-le-mul_right, arith, pow-add, pow_pos}
use Rattle.std.proofs.lemmas.List.{length-map}
use Rattle.units.specs.Whole.{Whole, nat, ◌⊕◌, ◌⊖◌, ◌≈◌, Under, total, All}
use Rattle.units.specs.Rounding.{fl, Representable}
use Rattle.units.specs.Walk.{high, remainder, gathered, highs, remainders, Ready, Left, Tau, Gathered, Opened, Closed}
use Rattle.units.proofs.Powers.{cover}
use Rattle.units.proofs.Multiples.{multiple_add, multiple_same, multiple_zero}
use Rattle.units.proofs.SignedRounding.{rep_zero, rep_same, fl_exact, fl_rep, fl_multiple}
use Rattle.units.specs.Extraction.{Extracted}
use Rattle.units.proofs.Extraction.{extract}

pub tau_zero : (p M e : ℕ) → Tau p M e 0 (nat 0)
tau_zero p M e = record { rep = rep_zero p; on = multiple_zero (M + e - p); small = omega arith }

-- |tau| < sigma
pub tau_under : {p M e n : ℕ} {tau : Whole} → Tau p M e n tau → n < 2 ^ M → Under tau (2 ^ (M + e))
tau_under {p} {M} {e} T l = omega (arith, T.small, pow-add 2 M e, mul-le-mul_right (2 ^ e) l, pow_pos e)

-- numbers that are ready open a first round, with t = 0 and S their sum
pub opens : {p M e : ℕ} {xs : List Whole} → All (Ready p e) xs → Opened p M (length xs) e (total xs) (nat 0) xs
opens {p} {M} {e} h = record { rep = rep_zero p; on = multiple_zero (M + e - p); ready = h; count = refl; sum = omega arith }

module _ (p : ℕ) (P : 0 < p) (M e : ℕ) (M⁺ : 0 < M) (M⁻ : M < p) where
  taken : {x : Whole} → Ready p e x → Extracted p M e x
  taken X = extract p P M e M⁺ M⁻ X.rep X.small

  pub turn_left : {x : Whole} → Ready p e x → Left p (M + e) (remainder p (M + e) x)
  turn_left {x} X = record { rep = fl_rep p P (x ⊖ high p (M + e) x); small = (taken X).remainder_small }

  -- tau and one high part more have p bits
  next_rep : {c : ℕ} {tau x : Whole} → Tau p M e c tau → Ready p e x → c < 2 ^ M → Representable p (tau ⊕ high p (M + e) x)
  next_rep {c} {tau} {x} T X l = record {
    exp = M + e - p;
    on = multiple_add T.on (taken X).high_on;
    small = omega (arith, (taken X).high_small, T.small, pow-add 2 M e, mul-le-mul_right (2 ^ e) l, cover p (M + e));
  }

  pub turn_exact : {c : ℕ} {tau x : Whole} → Tau p M e c tau → Ready p e x → c < 2 ^ M → fl p (tau ⊕ high p (M + e) x) ≈ tau ⊕ high p (M + e) x
  turn_exact T X l = fl_exact p P (next_rep T X l)

  pub turn_tau : {c : ℕ} {tau x : Whole} → Tau p M e c tau → Ready p e x → c < 2 ^ M → Tau p M e (suc c) (fl p (tau ⊕ high p (M + e) x))
  turn_tau {c} {tau} {x} T X l = record {
    rep = fl_rep p P (tau ⊕ high p (M + e) x);
    on = fl_multiple p P (multiple_add T.on (taken X).high_on);
    small = omega (arith, (taken X).high_small, T.small, turn_exact T X l);
  }

  -- any numbers, taken after c others
  pub turns : (xs : List Whole) {c : ℕ} {tau : Whole} (n : ℕ) → Tau p M e c tau → All (Ready p e) xs → n ≡ c + length xs → n ≤ 2 ^ M
      → Tau p M e n (gathered p (M + e) tau xs) × (gathered p (M + e) tau xs ≈ tau ⊕ total (highs p (M + e) xs))
  turns [] {c} {tau} n T h i l = let j : n ≡ c = omega arith in (rw j T, omega arith)
  turns (x ∷ xs) {c} {tau} n T h i l =
      let m : c < 2 ^ M = omega arith in
      let R = turns xs n (turn_tau T h.0 m) h.1 (omega arith) l in
      (R.0, omega (arith, R.1, turn_exact T h.0 m))

  -- each number is its high part and its remainder
  pub parts_sum : (xs : List Whole) → All (Ready p e) xs → total (highs p (M + e) xs) ⊕ total (remainders p (M + e) xs) ≈ total xs
  parts_sum [] h = refl
  parts_sum (x ∷ xs) h = omega (arith, (taken h.0).remainder_is, parts_sum xs h.1)

  pub all_left_lem : (xs : List Whole) → All (Ready p e) xs → All (Left p (M + e)) (remainders p (M + e) xs)
  all_left_lem [] h = tt
  all_left_lem (x ∷ xs) h = (turn_left h.0, all_left_lem xs h.1)

  -- the exact sum of n high parts is what tau is in the end, whatever the order in which they were added
  highs_tau : (xs : List Whole) (n : ℕ) {tau : Whole} → All (Ready p e) xs → length xs ≡ n → n ≤ 2 ^ M → Gathered p (M + e) xs tau → Tau p M e n tau
  highs_tau xs n {tau} h i l s =
      let R = turns xs n (tau_zero p M e) h (omega arith) l in
      let j : gathered p (M + e) (nat 0) xs ≈ tau = omega (arith, R.1, s.sum) in
      record { rep = rep_same j R.0.rep; on = multiple_same j R.0.on; small = omega (arith, R.0.small) }

  pub round_closes : {n : ℕ} {S t tau : Whole} {xs : List Whole} → Opened p M n e S t xs → n ≤ 2 ^ M → Gathered p (M + e) xs tau
      → Closed p M n e S t tau (remainders p (M + e) xs)
  round_closes {n} {xs = xs} O l s = record {
    rep = O.rep;
    on = O.on;
    tau_is = highs_tau xs n O.ready O.count l s;
    left = all_left_lem xs O.ready;
    count = length-map xs (remainder p (M + e)) ∙ O.count;
    sum = omega (arith, O.sum, s.sum, parts_sum xs O.ready);
  }
