-- A step over any sound state leaves what `AnyState` says, whether a call gave the state out or not. The additions to tau need not be exact then: tau, at most
-- 2^bound units before, is at most twice that after its block. Assumes nothing.
use Rattle.std.specs.Prelude.{◌≡◌, refl, Bool, cond, ℕ, ◌+◌, ◌-◌, ◌*◌, ◌^◌, ◌≤◌, T, eqb, length, drop, Float}
use Rattle.std.proofs.Common.{ap, subst, mul-zero, arith, length-take, length-drop, pow-add, pow_mono}
use Rattle.std.proofs.Math.Bool.{true, false}
use mathlib.Core.List.{List, [], ◌∷◌, map, foldl}
use Rattle.std.proofs.lemmas.List.{length-map}
use Rattle.std.specs.Float.{Format}
use Rattle.std.specs.Float.Ieee.{prec, low, emax, add, eq, fits}
use Rattle.units.specs.Rounding.{ceil}
use Rattle.units.proofs.Ceiling.{ceil_ge, ceil_least}
use Rattle.units.proofs.Powers.{pow_split}
use Rattle.ieee.specs.Units.{Number, magnitude}
use Rattle.lists.specs.Each.{Each, each_map, each_weaker, each_take, each_drop}
use Rattle.kinds.specs.Limits.{Width, exponent_of}
use Rattle.kinds.specs.State.{State}
use Rattle.kinds.specs.Step.{More}
use Rattle.kinds.specs.Verdict.{Good}
use Rattle.extract.specs.Extract.{plus_zero, high_part, gathered, last_sum}
use Rattle.extract.specs.LargestLaws.{Positive, zero_positive}
use Rattle.judge.specs.Table.{size_of}
use Rattle.sound.specs.Sound.{gated}
use Rattle.sound.specs.AdmittedLaws.{Admitted}
use Rattle.sound.specs.Numbers.{FiniteWithin}
use Rattle.rounds.specs.Round.{block_of, turned, taken_state, sigma_of, round_of, fresh, scaled, finished, closed}
use Rattle.rounds.specs.ClosedLaws.{tau1_of, finishes, further_round, fresh_each, closed_each, not_finishes}
use Rattle.rounds.proofs.Closes.{scaled_positive, normal_above}
use Rattle.rounds.specs.Fitting.{Fitting}
use Rattle.rounds.proofs.SigmaLaws.{sigma_positive}
use Rattle.rounds.specs.InUnits.{Small, Scale, high_small}
use Rattle.walk.specs.Walk.{taken, stepped}
use Rattle.walk.proofs.StepLaws.{stepped_good}
use Rattle.walk.specs.Stepping.{sigma_bounds}
use Rattle.walk.proofs.Admitted.{admits, scale, small, turned_small, turned_length, taken_largest, taken_small, taken_eps}
use Rattle.runs.specs.CloseUnits.{Held}
use Rattle.runs.proofs.CloseUnits.{sums, last_sum_lem, held, wider, plus, tau1_units, sum_number, not_zero}
use Rattle.runs.specs.AnyState.{Floats, Shown, StateNumbers, SumNumber, Answered, Stepped}

-- ---- tau, at most 2^bound units, is at most 2^(bound + 1) after at most 2^most high parts: each sum is at most a multiple of 2^j that the format holds
gathered_sum : (f : Format) (sigma tau : Float) (xs : List Float) → gathered f sigma tau xs ≡ foldl (add f) tau (map (high_part f sigma) xs)
unfolding gathered
gathered_sum f sigma tau [] = refl
gathered_sum f sigma tau (x ∷ xs) = gathered_sum f sigma (add f tau (high_part f sigma x)) xs

module _ {W : Width} (F : Fitting W) {M e : ℕ} {sigma : Float} (σ : Scale W.format M e sigma) (below : e ≤ F.top) where
  gathered_held : (tau : Float) (xs : List Float) → Held W.format F.bound tau → Each (Small W.format (2 ^ e)) xs → length xs ≤ 2 ^ F.most
      → Held W.format (F.bound + 1) (gathered W.format sigma tau xs)
  gathered_held tau xs T h l =
      let few : 2 ^ F.most + length qs ≤ 2 ^ (F.most + 1) = rw (length-map xs (high_part f sigma), pow-add 2 F.most 1) (omega arith) in
      let S = sums f j (2 ^ (F.most + 1)) inside (pow_mono (omega (arith, F.half))) qs (2 ^ F.most) tau T.number (rw half_bound T.within) highs few in
      rw (gathered_sum f sigma tau xs) (record { number = S.0; within = rw whole_bound at S.2 })
    where
      f : Format
      f = W.format

      -- 2^bound units are 2^most times 2^j; a high part is at most 2^top units and so at most 2^j, and there are at most 2^most of them
      j : ℕ
      j = F.bound - F.most

      half_bound : 2 ^ F.most * 2 ^ j ≡ 2 ^ F.bound
      half_bound = omega (arith, pow_split {i = F.most} {j = F.bound} (omega (arith, F.tau_room)))

      whole_bound : 2 ^ (F.most + 1) * 2 ^ j ≡ 2 ^ (F.bound + 1)
      whole_bound = omega (arith, half_bound, ap (λ (x : ℕ). x * 2 ^ j) (pow-add 2 F.most 1), pow-add 2 F.bound 1)

      inside : 2 ^ (F.most + 1) * 2 ^ j ≤ 2 ^ (low f + emax f)
      inside = rw whole_bound (pow_mono (omega (arith, F.sum_room)))

      qs : List Float
      qs = map (high_part f sigma) xs

      highs : Each (Small f (2 ^ j)) qs
      highs = each_map (Small f (2 ^ e)) (Small f (2 ^ j)) (high_part f sigma)
          (λ x X. record {
            number = (high_small σ X).number;
            within = omega (arith, (high_small σ X).within, pow_mono {i = e} {j = j} (omega (arith, F.tau_room)));
          }) xs h

-- ---- a state that is sound, and a block that is pending
module _ {W : Width} (F : Fitting W) {s : State} {b : ℕ} {xs : List Float} (P : Admitted W F.top s b xs) (h : Floats W s xs) where
  abbrev f : Format
  f = W.format

  abbrev M : ℕ
  M = exponent_of s.n

  M_most : M ≤ F.most
  M_most = F.most_is s.n P.numbers.counts.few

  σ : Scale f M P.e s.sigma
  σ = scale F P h.work

  abbrev ys : List Float
  ys = turned W s.sigma b xs

  abbrev next : State
  next = taken_state W s b xs

  room : F.bound + 1 + 5 ≤ low f + emax f
  room = omega (arith, F.sum_room)

  kept : {x : Float} → T (fits f x) → FiniteWithin f (size_of W W.carried) x → Held f F.bound x
  kept fit X = held (record { number = record { fit = fit; fini = X.fini }; within = rw F.bound_is at X.small })

  t_held : Held f (F.bound + 1) s.t
  t_held = wider (omega arith) (kept h.t P.numbers.t)

  tau_held : Held f (F.bound + 1) (gathered f s.sigma s.tau (block_of W b xs))
  tau_held = gathered_held F σ P.low s.tau (block_of W b xs) (kept h.tau P.numbers.tau) block fewer
    where
      block : Each (Small f (2 ^ P.e)) (block_of W b xs)
      block = each_take (Small f (2 ^ P.e)) W.block (drop (W.block * b) xs) (each_drop (Small f (2 ^ P.e)) (W.block * b) xs (small F P h.work))

      fewer : length (block_of W b xs) ≤ 2 ^ F.most
      fewer = simp (length-take, length-drop) (omega (arith, P.long, ceil_ge (s.n + 2), pow_mono M_most))

  T_held : Held f (F.bound + 1) (last_sum f ys)
  T_held =
      let S = last_sum_lem f P.e (2 ^ M) (rw (← (pow-add 2 M P.e)) (pow_mono (omega (arith, σ.room)))) (pow_mono (omega (arith, σ.few))) ys
      (turned_small F P h.work) (omega (arith, turned_length F P h.work, P.long, ceil_ge (s.n + 2))) in
      let l : 2 ^ (M + P.e) ≤ 2 ^ (F.bound + 1) = pow_mono (omega (arith, M_most, P.low, F.tau_room)) in
      record { number = S.0; within = omega (arith, S.2, pow-add 2 M P.e, l) }

  tau1_held : Held f (F.bound + 1 + 1) (tau1_of W next)
  tau1_held = (tau1_units (F.bound + 1) room t_held tau_held).1

  -- ---- the largest remainder that is kept, mu of a close
  abbrev mu : ℕ
  mu = magnitude f next.largest

  shown : Shown W next.largest
  shown = let L = taken_largest F P h.work h.largest in record { number = L.number; positive = L.sign }

  -- ---- the next state
  opens : (e : ℕ) {sigma t : Float} (rounds ensemble : ℕ) → Positive f sigma (2 ^ (M + e)) → e ≤ F.top → Number f t
      → StateNumbers W (round_of W s.n sigma t rounds ensemble)
  opens e {sigma} rounds ensemble S l N = record {
    sigma = S.number;
    bounds = sigma_bounds F s.n e S l;
    t = N;
    tau = (zero_positive f).number;
    largest = (zero_positive f).number;
    within = record { fini = (zero_positive f).number.fini; unsigned = (zero_positive f).sign; small = none };
  }
    where
      none : 2 ^ prec f * magnitude f (plus_zero f) ≤ magnitude f sigma
      none = rw ((zero_positive f).units, mul-zero (2 ^ prec f)) (omega arith)

  -- rules W1 and W2
  afresh : (rounds ensemble : ℕ) → Answered W (fresh W (plus_zero f) s.n mu rounds ensemble next.largest)
  afresh rounds ensemble = fresh_each (Answered W) W (plus_zero f) s.n mu rounds ensemble next.largest
      (λ a. record { number = (zero_positive f).number; plus = λ z. (zero_positive f).sign })
      (λ a. (opens (ceil mu) rounds ensemble power least (zero_positive f).number, shown))
    where
      least : ceil mu ≤ F.top
      least = ceil_least (rw F.top_is at (taken_small F P h.work h.largest).within)

      power : Positive f (sigma_of f s.n mu) (2 ^ (M + ceil mu))
      power = sigma_positive F s.n mu P.numbers.counts.few (taken_small F P h.work h.largest).within

  -- rule W4: sigma is above 2^-1022, so that 2^M eps times it is at least 2^M units
  further : finishes W next ≡ false → StateNumbers W (further_round W next)
  further r = opens (M + P.e - prec f) (s.rounds + 1) s.ensemble lowered (omega (arith, σ.few, P.low)) tau1_held.number
    where
      normal : prec f ≤ M + P.e
      normal = normal_above f (M + P.e) σ.power (not_finishes W next r).0

      lowered : Positive f (scaled f M s.sigma) (2 ^ (M + (M + P.e - prec f)))
      lowered = scaled_positive f M (M + P.e) (M + (M + P.e - prec f)) F.fine σ.power (omega (arith, normal)) (omega (arith, σ.few))
          (omega (arith, σ.room, σ.few))

  -- rule W3
  ends : eq (tau1_of W next) (plus_zero f) ≡ false → SumNumber W (finished f (tau1_of W next) s.t next.tau ys)
  ends z =
      let S = sum_number (F.bound + 1) room t_held tau_held ys T_held (λ m. absurd (not_zero f (tau1_of W next) tau1_held.number z m)) in
      record { number = S.0; plus = S.1 }

  closes : Answered W (closed W next ys)
  closes = closed_each (Answered W) W mu next ys (λ z. afresh (s.rounds + 1) s.ensemble) (λ z r. ends z) (λ z r. (further r, shown))

  goes_on : StateNumbers W next
  goes_on = record {
    sigma = σ.power.number;
    bounds = sigma_bounds F s.n P.e σ.power P.low;
    t = t_held.number;
    tau = tau_held.number;
    largest = shown.number;
    within = taken_eps F P h.work h.largest;
  }

  passed : Stepped W (taken W s b xs)
  unfolding taken
  passed = record {
    answer = by (eqb next.pending 0);
    work = each_weaker (Small f (2 ^ P.e)) (Number f) (λ y Y. Y.number) ys (turned_small F P h.work);
  }
    where
      by : (z : Bool) → Answered W (cond z (closed W next ys) (More next next.largest))
      by true = closes
      by false = (goes_on, shown)

pub any_state : {W : Width} (F : Fitting W) (s : State) (k b : ℕ) (xs : List Float) → Floats W s xs → gated W s k b xs ≡ Good → Stepped W (stepped W s k b xs)
any_state {W} F s k b xs h g = subst (Stepped W) (stepped_good W s b xs (gated W s k b xs) g) (passed F (admits F s k b xs h.sigma g) h)
