-- A round of a run over numbers that sum to S: what it leaves sums to S, each of rules W1 to W4 keeps that, and a finish is a faithful rounding of
-- S. Assumes nothing.
use Rattle.std.specs.Prelude.{◌≡◌, refl, ◌⊎◌, Bool, true, false, ◌||◌, List, [], ◌∷◌, ℕ, zero, suc, ◌+◌, ◌-◌, ◌*◌, ◌^◌, ◌≤◌, ◌<◌, length, Float}
use Rattle.std.proofs.Common.{sym, ap, ◌∙◌, inl, inr, arith, eqb-true, pow-add, pow_mono}
use Rattle.std.proofs.lemmas.List.{length-map}
use Rattle.std.specs.Float.{Format}
use Rattle.std.specs.Float.Ieee.{prec, low, emax, le, eq}
use Rattle.units.specs.Whole.{Whole, nat, ◌≈◌, Within, mag, All}
use Rattle.units.proofs.Powers.{le_or_lt}
use Rattle.units.specs.Rounding.{ceil}
use Rattle.units.proofs.Ceiling.{ceil_ge}
use Rattle.units.specs.Faithful.{Faithful}
use Rattle.units.specs.Walk as units
use Rattle.units.proofs.Turns.{turns, tau_zero, round_closes}
use Rattle.units.proofs.Closing.{close_nothing, close_restart, close_finish, close_further}
use Rattle.ieee.specs.Units.{Number, magnitude, negative, whole}
use Rattle.ieee.proofs.Rounded.{prec_pos}
use Rattle.ieee.proofs.Sum.{whole_mag}
use Rattle.ieee.proofs.Compare.{eq_units}
use Rattle.lists.specs.Each.{Each, each_weaker}
use Rattle.kinds.specs.Limits.{Width, exponent_of}
use Rattle.kinds.specs.State.{State}
use Rattle.extract.specs.Extract.{plus_zero, absolute, largest, last_sum}
use Rattle.extract.specs.ExtractLaws.{largest_bounds}
use Rattle.extract.specs.LargestLaws.{zero_positive, absolute_is}
use Rattle.rounds.specs.Round.{all_taken, all_left, all_zero, fresh_round, least_normal, scaled, finished}
use Rattle.rounds.specs.ClosedLaws.{tau1_of, finishes, further_round, not_finishes}
use Rattle.rounds.proofs.Closes.{restarts, further, above, reached, below_normal, above_normal, threshold}
use Rattle.rounds.specs.InUnits.{wholes, all_ready, gathers, remainders_units, remainders_small}
use Rattle.rounds.specs.Fitting.{Fitting}
use Rattle.rounds.specs.Begun.{first_tau, tau_all}
use Rattle.runs.specs.CloseUnits.{Held}
use Rattle.runs.proofs.CloseUnits.{zero_whole, held, last_sum_lem, tau1_units, answer_units, sum_number, not_zero}
use Rattle.runs.specs.Summing.{Summing}

equals_zero : (f : Format) (x : Float) → Number f x → eq x (plus_zero f) ≡ true → whole f x ≈ nat 0
equals_zero f x X z =
    let h : (whole f x).up + (whole f (plus_zero f)).dn ≡ (whole f (plus_zero f)).up + (whole f x).dn =
    eqb-true _ _ (sym (eq_units f x (plus_zero f) X (zero_positive f).number) ∙ z) in
    rw (zero_whole f) at h

pub all_zero_lem : (f : Format) (xs : List Float) → all_zero f xs ≡ true → All (λ x. x ≈ nat 0) (wholes f xs)
all_zero_lem f xs a = none xs (rw (eqb-true (largest f xs) 0 a) at (largest_bounds f xs))
  where
    none : (zs : List Float) → Each (λ y. magnitude f y ≤ 0) zs → All (λ x. x ≈ nat 0) (wholes f zs)
    none [] h = tt
    none (z ∷ zs) h = (omega (arith, whole_mag f z, h.0), none zs h.1)

module _ {W : Width} {F : Fitting W} {S : Whole} {e : ℕ} {s : State} {xs : List Float} (A : Summing W F S e s xs) where
  pub few : s.n + 2 ≤ 2 ^ exponent_of s.n
  few = ceil_ge (s.n + 2)

  pub two : 2 ≤ exponent_of s.n
  two = large (exponent_of s.n) few
    where
      large : (M : ℕ) → s.n + 2 ≤ 2 ^ M → 2 ≤ M
      large zero h = absurd (omega arith)
      large (suc zero) h = absurd (omega (arith, A.begun.some))
      large (suc (suc M)) h = omega arith

  pub half : exponent_of s.n + exponent_of s.n < prec W.format
  half = omega (arith, F.most_is s.n A.begun.few, F.half)

  tau_units : whole W.format (all_taken W s xs).tau ≡ units.gathered (prec W.format) (exponent_of s.n + e) (nat 0) (wholes W.format xs)
  tau_units =
      let B = A.begun in
      rw (ap (whole W.format) B.tau ∙ zero_whole W.format) at (gathers B.scale xs (first_tau B) B.work (omega (arith, few, B.count))).1

  tau_gathers : units.Gathered (prec W.format) (exponent_of s.n + e) (wholes W.format xs) (whole W.format (all_taken W s xs).tau)
  tau_gathers =
      let f = W.format in
      let σ = A.begun.scale in
      let T = turns (prec f) (prec_pos f) (exponent_of s.n) e σ.some σ.few (wholes f xs) s.n (tau_zero (prec f) (exponent_of s.n) e)
      (all_ready σ xs A.begun.work) (omega (arith, A.opened.count)) (omega (arith, few)) in
      rw tau_units (record { sum = omega (arith, T.1) })

  pub closes : units.Closed (prec W.format) (exponent_of s.n) s.n e S (whole W.format s.t) (whole W.format (all_taken W s xs).tau)
      (wholes W.format (all_left W s xs))
  closes =
      let f = W.format in
      let σ = A.begun.scale in
      rw (remainders_units σ xs A.begun.work)
      (round_closes (prec f) (prec_pos f) (exponent_of s.n) e σ.some σ.few A.opened (omega (arith, few)) tau_gathers)

  -- ---- t', and what is zero
  pub room : F.bound + 5 ≤ low W.format + emax W.format
  room = omega (arith, F.sum_room)

  next_units : (whole W.format (tau1_of W (all_taken W s xs))
      ≡ units.tau1 (prec W.format) (whole W.format s.t) (whole W.format (all_taken W s xs).tau))
      × Held W.format (F.bound + 1) (tau1_of W (all_taken W s xs))
  next_units = tau1_units F.bound room (held A.begun.carried) (held (tau_all A.begun))

  next_zero : eq (tau1_of W (all_taken W s xs)) (plus_zero W.format) ≡ true
      → units.tau1 (prec W.format) (whole W.format s.t) (whole W.format (all_taken W s xs).tau) ≈ nat 0
  next_zero z = rw next_units.0 at (equals_zero W.format (tau1_of W (all_taken W s xs)) next_units.1.number z)

  -- ---- rule W1: S is zero
  pub sums_nothing : eq (tau1_of W (all_taken W s xs)) (plus_zero W.format) ≡ true → all_zero W.format (all_left W s xs) ≡ true → S ≈ nat 0
  sums_nothing z a = close_nothing (prec W.format) (exponent_of s.n) s.n two half few closes (next_zero z) (all_zero_lem W.format (all_left W s xs) a)

  -- ---- rule W2: what is left sums to S
  pub sums_restart : eq (tau1_of W (all_taken W s xs)) (plus_zero W.format) ≡ true → all_zero W.format (all_left W s xs) ≡ false
      → Summing W F S (ceil (largest W.format (all_left W s xs)))
      (fresh_round W s.n (largest W.format (all_left W s xs)) (s.rounds + 1) s.ensemble) (all_left W s xs)
  sums_restart z a = record {
    begun = restarts A.begun a;
    opened = rw (zero_whole f) (close_restart (prec f) (exponent_of s.n) s.n two half few closes (ceil (largest f ys)) (next_zero z)
        (small (2 ^ ceil (largest f ys)) ys (each_weaker _ _ (λ y h. omega (arith, ceil_ge (largest f ys))) ys (largest_bounds f ys))));
  }
    where
      f : Format
      f = W.format

      ys : List Float
      ys = all_left W s xs

      small : (c : ℕ) (zs : List Float) → Each (λ y. magnitude f y ≤ c) zs → All (λ x. Within x c) (wholes f zs)
      small c [] h = tt
      small c (z ∷ zs) h = (omega (arith, whole_mag f z, h.0), small c zs h.1)

  -- ---- rules W3 and W4, by the magnitude of t'
  enough_is : prec W.format ≤ exponent_of s.n + e
      → units.enough (prec W.format) (exponent_of s.n) e ≡ 2 ^ (2 * exponent_of s.n + 1 + (exponent_of s.n + e) - prec W.format)
  enough_is l =
      let M = exponent_of s.n in
      let k = M + e - prec W.format in
      let i : 2 * M + 1 + (M + e) - prec W.format ≡ 1 + (M + M + k) = omega arith in
      rw (i, pow-add 2 1 (M + M + k), pow-add 2 (M + M) k, pow-add 2 M M)

  next_mag : mag (units.tau1 (prec W.format) (whole W.format s.t) (whole W.format (all_taken W s xs).tau))
      ≡ magnitude W.format (tau1_of W (all_taken W s xs))
  next_mag = rw (← next_units.0) (whole_mag W.format (tau1_of W (all_taken W s xs)))

  pub sums_further : finishes W (all_taken W s xs) ≡ false
      → Summing W F S (exponent_of s.n + e - prec W.format) (further_round W (all_taken W s xs)) (all_left W s xs)
  sums_further r =
      let f = W.format in
      let l = above_normal A.begun r in
      let v = (not_finishes W (all_taken W s xs) r).1 in
      record {
        begun = further A.begun r;
        opened = rw next_units.0 (close_further (prec f) (exponent_of s.n) s.n two half few closes l
            (rw (next_mag, enough_is l) (above f (threshold A.begun l) (absolute_is f next_units.1.number) v)));
      }

  -- the sum T of what is left: a number of at most 2^bound units
  left_sum : Number W.format (last_sum W.format (all_left W s xs))
      × (whole W.format (last_sum W.format (all_left W s xs)) ≡ units.summed (prec W.format) (nat 0) (wholes W.format (all_left W s xs)))
      × Within (whole W.format (last_sum W.format (all_left W s xs))) (2 ^ F.bound)
  left_sum =
      let f = W.format in
      let M = exponent_of s.n in
      let ys = all_left W s xs in
      let B = A.begun in
      let inside : M + e ≤ F.bound = omega (arith, F.most_is s.n B.few, B.lowered, F.tau_room) in
      let top : 2 ^ M * 2 ^ e ≤ 2 ^ F.bound = rw (pow-add 2 M e) at (pow_mono inside) in
      let wide : 2 ^ F.bound ≤ 2 ^ (low f + emax f) = pow_mono (omega (arith, room)) in
      let fit : 2 ^ M ≤ 2 ^ prec f = pow_mono (omega (arith, half)) in
      let count : length ys ≤ 2 ^ M = omega (arith, few, closes.count, length-map ys (whole f)) in
      let T = last_sum_lem f e (2 ^ M) (omega arith) fit ys (remainders_small B.scale xs B.work) count in
      (T.0, T.1, omega (arith, T.2))

  -- the answer: a number, in units; and not -0
  abbrev answer : Float
  answer = finished W.format (tau1_of W (all_taken W s xs)) s.t (all_taken W s xs).tau (all_left W s xs)

  pub finished_units : Number W.format answer
      × (whole W.format answer
      ≡ units.answer (prec W.format) (whole W.format s.t) (whole W.format (all_taken W s xs).tau) (wholes W.format (all_left W s xs)))
  finished_units =
      answer_units F.bound room (held A.begun.carried) (held (tau_all A.begun)) (all_left W s xs) left_sum.0 left_sum.1 left_sum.2

  pub finished_plus : eq (tau1_of W (all_taken W s xs)) (plus_zero W.format) ≡ false → magnitude W.format answer ≡ 0 → negative answer ≡ false
  finished_plus z =
      (sum_number F.bound room (held A.begun.carried) (held (tau_all A.begun)) (all_left W s xs)
      (record { number = left_sum.0; within = left_sum.2 })
      (λ m. absurd (not_zero W.format (tau1_of W (all_taken W s xs)) next_units.1.number z m))).1

  pub sums_finish : finishes W (all_taken W s xs) ≡ true
      → Faithful (prec W.format) (whole W.format (finished W.format (tau1_of W (all_taken W s xs)) s.t (all_taken W s xs).tau (all_left W s xs))) S
  sums_finish h = rw finished_units.1 (close_finish (prec f) (exponent_of s.n) s.n two half few closes (rule (le s.sigma (least_normal f)) refl h))
    where
      f : Format
      f = W.format

      large : le (scaled f (2 * exponent_of s.n + 1) s.sigma) (absolute f (tau1_of W (all_taken W s xs))) ≡ true
          → (exponent_of s.n + e < prec f)
          ⊎ (units.enough (prec f) (exponent_of s.n) e ≤ mag (units.tau1 (prec f) (whole f s.t) (whole f (all_taken W s xs).tau)))
      large v = elim (le_or_lt (prec f) (exponent_of s.n + e)) [
        | inl l ↦ inr (rw (next_mag, enough_is l) (reached f (threshold A.begun l) (absolute_is f next_units.1.number) v))
        | inr l ↦ inl l
      ]

      rule : (u : Bool) → le s.sigma (least_normal f) ≡ u
          → (u || le (scaled f (2 * exponent_of s.n + 1) s.sigma) (absolute f (tau1_of W (all_taken W s xs)))) ≡ true
          → (exponent_of s.n + e < prec f)
          ⊎ (units.enough (prec f) (exponent_of s.n) e ≤ mag (units.tau1 (prec f) (whole f s.t) (whole f (all_taken W s xs).tau)))
      rule true u h = inl (below_normal A.begun u)
      rule false u h = large h
