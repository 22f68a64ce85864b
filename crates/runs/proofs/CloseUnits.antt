-- The close in floats is the close in units: t', the sum T of what is left, tau2 and the answer, none of which overflows. Assumes nothing.
use Rattle.std.specs.Prelude.{◌≡◌, refl, false, ℕ, suc, ◌+◌, ◌*◌, ◌^◌, ◌≤◌, length, Float}
use Rattle.std.proofs.Common.{sym, ap, ◌∙◌, mul-le-mul_right, arith, pow_mono}
use mathlib.Core.List.{List, [], ◌∷◌, foldl}
use Rattle.std.proofs.lemmas.Bool.{eqb-false}
use Rattle.std.proofs.Math.Pow.{pow-add}
use Rattle.std.specs.Float.{Format}
use Rattle.std.specs.Float.Ieee.{prec, emax, low, add, sub, eq}
use Rattle.units.specs.Whole.{Whole, nat, ◌⊕◌, ◌⊖◌, Within}
use Rattle.units.specs.Rounding.{fl, Representable}
use Rattle.units.proofs.SignedRounding.{fl_within, rep_pow}
use Rattle.units.specs.Walk as units
use Rattle.ieee.specs.Units.{Number, magnitude, negative, whole}
use Rattle.ieee.proofs.Rounded.{prec_pos}
use Rattle.ieee.proofs.Sum.{whole_mag}
use Rattle.ieee.proofs.Compare.{eq_units}
use Rattle.ieee.proofs.InRange.{add_rounds, sub_rounds}
use Rattle.lists.specs.Each.{Each}
use Rattle.extract.specs.Extract.{plus_zero, last_sum}
use Rattle.extract.specs.LargestLaws.{zero_positive}
use Rattle.rounds.specs.Round.{finished}
use Rattle.rounds.specs.InUnits.{Small, wholes, sum_plus}
use Rattle.runs.specs.CloseUnits.{Held}

pub zero_whole : (f : Format) → whole f (plus_zero f) ≡ nat 0
unfolding whole
zero_whole f = rw ((zero_positive f).sign, (zero_positive f).units)

-- ---- T: after c numbers of at most 2^j units each, a partial sum is at most c 2^j
module _ (f : Format) (j c₀ : ℕ) (room : c₀ * 2 ^ j ≤ 2 ^ (low f + emax f)) (fit : c₀ ≤ 2 ^ prec f) where
  count_rep : (c : ℕ) → c ≤ c₀ → Representable (prec f) (nat (c * 2 ^ j))
  count_rep c h = record {
    exp = j;
    on = record { count = nat c; is = omega arith };
    small = omega (arith, mul-le-mul_right (2 ^ j) h, mul-le-mul_right (2 ^ j) fit);
  }

  pub sums : (xs : List Float) (c : ℕ) (T : Float) → Number f T → Within (whole f T) (c * 2 ^ j) → Each (Small f (2 ^ j)) xs → c + length xs ≤ c₀
      → Number f (foldl (add f) T xs) × (whole f (foldl (add f) T xs) ≡ units.summed (prec f) (whole f T) (wholes f xs))
      × Within (whole f (foldl (add f) T xs)) (c₀ * 2 ^ j)
  sums [] c T N W h l = (N, refl, omega (arith, W, mul-le-mul_right (2 ^ j) l))
  sums (x ∷ xs) c T N W h l =
      let z : Within (whole f T ⊕ whole f x) (suc c * 2 ^ j) = omega (arith, W, whole_mag f x, h.0.within) in
      let r = add_rounds N h.0.number (low f + emax f) (omega arith) (omega (arith, z, room, mul-le-mul_right (2 ^ j) (below c l))) in
      let w : Within (whole f (add f T x)) (suc c * 2 ^ j) =
      rw r.units (fl_within (prec f) (prec_pos f) (whole f T ⊕ whole f x) (count_rep (suc c) (below c l)) z) in
      let R = sums xs (suc c) (add f T x) r.number w h.1 (omega arith) in
      (R.0, R.1 ∙ ap (λ (t : Whole). units.summed (prec f) t (wholes f xs)) r.units, R.2)
    where
      below : (c : ℕ) → c + suc (length xs) ≤ c₀ → suc c ≤ c₀
      below c l = omega arith

  -- T of rule W3
  pub last_sum_lem : (xs : List Float) → Each (Small f (2 ^ j)) xs → length xs ≤ c₀
      → Number f (last_sum f xs) × (whole f (last_sum f xs) ≡ units.summed (prec f) (nat 0) (wholes f xs)) × Within (whole f (last_sum f xs)) (c₀ * 2 ^ j)
  unfolding last_sum
  last_sum_lem xs h l = rw (zero_whole f) at (sums xs 0 (plus_zero f) (zero_positive f).number (rw (zero_whole f) (omega arith)) h (omega arith))

module _ {f : Format} where
  pub held : {k : ℕ} {x : Float} → Small f (2 ^ k) x → Held f k x
  held {x = x} X = record { number = X.number; within = omega (arith, whole_mag f x, X.within) }

  pub wider : {k l : ℕ} {x : Float} → k ≤ l → Held f k x → Held f l x
  wider h X = record { number = X.number; within = omega (arith, X.within, pow_mono h) }

  module _ (k : ℕ) (room : k + 1 ≤ low f + emax f) {x y : Float} (X : Held f k x) (Y : Held f k y) where
    rounded : (z : Whole) → Within z (2 ^ k + 2 ^ k) → Within (fl (prec f) z) (2 ^ (k + 1))
    rounded z h = fl_within (prec f) (prec_pos f) z (rep_pow (prec f) (k + 1)) (omega (arith, h, pow-add 2 k 1))

    pub plus : (whole f (add f x y) ≡ fl (prec f) (whole f x ⊕ whole f y)) × Held f (k + 1) (add f x y)
    plus =
        let r = add_rounds X.number Y.number (k + 1) room (omega (arith, X.within, Y.within, pow-add 2 k 1)) in
        (r.units, record { number = r.number; within = rw r.units (rounded (whole f x ⊕ whole f y) (omega (arith, X.within, Y.within))) })

    pub minus : (whole f (sub f x y) ≡ fl (prec f) (whole f x ⊖ whole f y)) × Held f (k + 1) (sub f x y)
    minus =
        let r = sub_rounds X.number Y.number (k + 1) room (omega (arith, X.within, Y.within, pow-add 2 k 1)) in
        (r.units, record { number = r.number; within = rw r.units (rounded (whole f x ⊖ whole f y) (omega (arith, X.within, Y.within))) })

-- ---- the answer: t, tau and T are at most 2^b units
module _ {f : Format} (b : ℕ) (room : b + 5 ≤ low f + emax f) {t tau : Float} (t_held : Held f b t) (tau_held : Held f b tau) where
  pub tau1_units : (whole f (add f t tau) ≡ units.tau1 (prec f) (whole f t) (whole f tau)) × Held f (b + 1) (add f t tau)
  tau1_units = plus b (omega arith) t_held tau_held

  difference : (whole f (sub f (add f t tau) t) ≡ fl (prec f) (units.tau1 (prec f) (whole f t) (whole f tau) ⊖ whole f t))
      × Held f (b + 1 + 1) (sub f (add f t tau) t)
  difference = rw tau1_units.0 at (minus (b + 1) (omega arith) tau1_units.1 (wider (omega arith) t_held))

  pub tau2_units : (whole f (sub f tau (sub f (add f t tau) t)) ≡ units.tau2 (prec f) (whole f t) (whole f tau))
      × Held f (b + 1 + 1 + 1) (sub f tau (sub f (add f t tau) t))
  tau2_units = rw difference.0 at (minus (b + 1 + 1) (omega arith) (wider (omega arith) tau_held) difference.1)

  pub answer_units : (xs : List Float) → Number f (last_sum f xs) → whole f (last_sum f xs) ≡ units.summed (prec f) (nat 0) (wholes f xs)
      → Within (whole f (last_sum f xs)) (2 ^ b) → Number f (finished f (add f t tau) t tau xs)
      × (whole f (finished f (add f t tau) t tau xs) ≡ units.answer (prec f) (whole f t) (whole f tau) (wholes f xs))
  unfolding finished
  answer_units xs N e h =
      let T : Held f (b + 1 + 1 + 1) (last_sum f xs) = wider (omega arith) (record { number = N; within = h }) in
      let low = plus (b + 1 + 1 + 1) (omega arith) tau2_units.1 T in
      let all = plus (b + 1 + 1 + 1 + 1) (omega arith) (wider (omega arith) tau1_units.1) low.1 in
      let inner = low.0 ∙ (λ i. fl (prec f) (tau2_units.0 i ⊕ e i)) in
      (all.1.number, all.0 ∙ (λ i. fl (prec f) (tau1_units.0 i ⊕ inner i)))

-- ---- the answer of rule W3: a number, and -0 only where t' is
module _ {f : Format} (b : ℕ) (room : b + 5 ≤ low f + emax f) {t tau : Float} (t_held : Held f b t) (tau_held : Held f b tau) (xs : List Float)
    (T_held : Held f b (last_sum f xs)) where
  pub sum_number : (magnitude f (add f t tau) ≡ 0 → negative (add f t tau) ≡ false)
      → Number f (finished f (add f t tau) t tau xs)
      × (magnitude f (finished f (add f t tau) t tau xs) ≡ 0 → negative (finished f (add f t tau) t tau xs) ≡ false)
  unfolding finished
  sum_number h =
      let tau1 : Held f (b + 1 + 1 + 1 + 1) (add f t tau) = wider (omega arith) (tau1_units b room t_held tau_held).1 in
      let rest = (plus (b + 1 + 1 + 1) (omega arith) (tau2_units b room t_held tau_held).1 (wider (omega arith) T_held)).1 in
      let R = add_rounds tau1.number rest.number (b + 1 + 1 + 1 + 1 + 1) (omega arith)
      (omega (arith, tau1.within, rest.within, pow-add 2 (b + 1 + 1 + 1 + 1) 1)) in
      (R.number, sum_plus (add f t tau) _ h R)

-- that t' is zero is the test for a magnitude of 0
pub not_zero : (f : Format) (x : Float) → Number f x → eq x (plus_zero f) ≡ false → magnitude f x ≡ 0 → ⊥
not_zero f x X z m =
    let none : (whole f x).up + (whole f (plus_zero f)).dn ≡ (whole f (plus_zero f)).up + (whole f x).dn = rw (zero_whole f) (omega (arith, whole_mag f x)) in
    eqb-false _ _ (sym (eq_units f x (plus_zero f) X (zero_positive f).number) ∙ z) none
