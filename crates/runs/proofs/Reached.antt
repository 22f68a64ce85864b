-- Every run over an accepted list is in a round of the walk that the undivided call walks, or has ended as that call does; the accepted steps are counted.
-- Assumes nothing.
use Rattle.std.specs.Prelude.{◌≡◌, refl, ◌⊎◌, Bool, true, false, ℕ, suc, ◌+◌, ◌-◌, ◌*◌, ◌≤◌, ◌<◌, eqb, length, Float}
use Rattle.std.proofs.Common.{sym, ◌∙◌, inl, inr, suc-mul, zero-mul, add-one, arith, eqb-true}
use Rattle.std.proofs.Math.Path.{ap, subst}
use mathlib.Core.List.{List, [], ◌∷◌, foldl}
use Rattle.std.proofs.lemmas.Bool.{eqb-false}
use Rattle.std.specs.Float.Ieee.{prec}
use Rattle.units.specs.Whole.{difference}
use Rattle.lists.specs.Bitset.{has, without}
use Rattle.lists.proofs.BitsetLaws.{has_below}
use Rattle.kinds.specs.Limits.{Width, exponent_of, blocks_of}
use Rattle.kinds.specs.Outcome.{outcome}
use Rattle.kinds.specs.State.{State}
use Rattle.kinds.specs.Step.{Step}
use Rattle.kinds.specs.Step.{More, Done, Refused}
use Rattle.kinds.specs.Verdict.{Good}
use Rattle.kinds.specs.Verdict as verdicts
use Rattle.judge.specs.Judge.{floats}
use Rattle.judge.specs.Table.{ListWhen}
use Rattle.sums.specs.Sums.{sum_of}
use Rattle.extract.specs.Extract.{plus_zero}
use Rattle.rounds.specs.Round.{all_zero, in_round, all_taken, all_left, closed}
use Rattle.rounds.specs.Fitting.{Fitting}
use Rattle.rounds.specs.Begun.{begun_rounds}
use Rattle.walk.specs.Walk.{Walked, opened, rounds_from, stepped, undivided_of}
use Rattle.walk.proofs.UndividedLaws.{faithful_done}
use Rattle.sound.specs.Sound.{gated}
use Rattle.walk.proofs.StepLaws.{stepped_refused}
use Rattle.walk.specs.Run.{Running, run_ends, run_goes, run_told}
use Rattle.runs.specs.Taken.{mid_area}
use Rattle.runs.specs.Summing.{Summing}
use Rattle.runs.specs.OpenedSum.{zero_of}
use Rattle.runs.proofs.OpenedSum.{opened_zero, opened_round, opened_summing}
use Rattle.runs.specs.SumRun.{SumNext, ends, goes}
use Rattle.runs.proofs.SumRun.{sums_close}
use Rattle.runs.proofs.MidRound.{Mid, mid_begins, begins_area, begins_some, mid_takes}
use Rattle.runs.proofs.MidStep.{after, mid_goes, mid_closes, mid_refused}
use Rattle.runs.specs.Runs.{Ran, heeded, tried, members}
use Rattle.runs.proofs.MembersLaws.{members_none, members_full, members_without}

pub tried_more : (W : Width) (k : ℕ) (r : Ran) (b : ℕ) (s : State) (told : Float) (xs : List Float) → r.walk ≡ outcome (More s told) xs
    → tried W k r b ≡ heeded r (stepped W s k b xs)
tried_more W k r b s told xs e = rw e

-- a refused step leaves a run as it is
pub tried_refused : (W : Width) (k : ℕ) (r : Ran) (b : ℕ) (s : State) (told : Float) (xs : List Float) → r.walk ≡ outcome (More s told) xs → (l p : ℕ)
    → gated W s k b xs ≡ verdicts.Refused l p → tried W k r b ≡ r
tried_refused W k r b s told xs w l p g =
    let same : xs ≡ r.walk.area = sym (ap (λ (w : Walked). w.area) w) in
    tried_more W k r b s told xs w
    ∙ ap (heeded r) (sym (stepped_refused W s b xs (gated W s k b xs) l p g))
    ∙ (λ i. record { walk = outcome r.walk.answer (same i); steps = r.steps })

module _ (W : Width) (F : Fitting W) (k : ℕ) (ps : List ℕ) (work : List Float) where
  -- in a round of the walk over the list: the state that opened it and the area then, whose numbers sum to S, what of it was taken since, and that what
  -- follows from its opening, whatever was told then, is the undivided walk under k
  pub record During (r : Ran) : Type 0 where
    pub e : ℕ
    pub first : State
    pub xs : List Float
    pub count : first.n ≡ length ps
    pub named : first.ensemble ≡ k
    pub summing : Summing W F (difference (sum_of W.format ps)) e first xs
    pub pending : ℕ
    pub tau : Float
    pub largest : Float
    pub mid : Mid summing.begun pending tau largest
    pub some : 0 < pending
    pub told : Float
    pub walk : r.walk ≡ outcome (More (in_round first tau largest pending) told) (mid_area W first pending xs)
    pub steps : r.steps + members pending (blocks_of W first.n) ≡ first.rounds * blocks_of W first.n + blocks_of W first.n
    pub rest : (m : Float) → rounds_from W (blocks_of W (length ps)) (suc W.rounds - first.rounds) (outcome (More first m) xs) ≡ undivided_of W k ps work

  -- ended, as the undivided walk under k does
  pub record Over (r : Ran) : Type 0 where
    pub sum : Float
    pub rounds : ℕ
    pub answer : r.walk.answer ≡ Done sum rounds
    pub undivided : r.walk ≡ undivided_of W k ps work
    pub steps : r.steps ≡ rounds * blocks_of W (length ps)
    pub lowered : (j : ℕ) → rounds ≡ suc j → j * (prec W.format - exponent_of (length ps)) ≤ F.top

  abbrev pub Reached : Ran → Type 0
  Reached r = During r ⊎ Over r

  -- ---- as a round opens
  opening : {e : ℕ} {s : State} {xs : List Float} → s.n ≡ length ps → s.ensemble ≡ k → (A : Summing W F (difference (sum_of W.format ps)) e s xs)
      (r : Ran) (told : Float) → r.walk ≡ outcome (More s told) xs → r.steps ≡ s.rounds * blocks_of W s.n
      → rounds_from W (blocks_of W (length ps)) (suc W.rounds - s.rounds) (outcome (More s told) xs) ≡ undivided_of W k ps work
      → During r
  opening {e} {s} {xs} n m A r told w c h = record {
    e = e;
    first = s;
    xs = xs;
    count = n;
    named = m;
    summing = A;
    pending = s.pending;
    tau = s.tau;
    largest = s.largest;
    mid = mid_begins A.begun;
    some = begins_some A.begun;
    told = told;
    walk = w ∙ ap (λ (l : List Float). outcome (More s told) l) (sym (begins_area A.begun));
    steps = rw (A.begun.pending, members_full (blocks_of W s.n)) (omega (arith, c));
    rest = λ l. (λ i. rounds_from W (blocks_of W (length ps)) (left i) (outcome (More s l) xs))
        ∙ run_told R (W.rounds - s.rounds) l told
        ∙ (λ i. rounds_from W (blocks_of W (length ps)) (sym left i) (outcome (More s told) xs))
        ∙ h;
  }
    where
      R : Running W F (length ps) s xs
      R = record { e = e; count = n; begun = A.begun }

      left : suc W.rounds - s.rounds ≡ suc (W.rounds - s.rounds)
      left = omega (arith, begun_rounds A.begun)

  -- ---- a step at a pending block
  module _ (r : Ran) (D : During r) (b : ℕ) (h : has D.pending b ≡ true) where
    B : ℕ
    B = blocks_of W D.first.n

    trying : tried W k r b
        ≡ heeded r (stepped W (in_round D.first D.tau D.largest D.pending) D.first.ensemble b (mid_area W D.first D.pending D.xs))
    trying =
        tried_more W k r b (in_round D.first D.tau D.largest D.pending) D.told (mid_area W D.first D.pending D.xs) D.walk
        ∙ (λ i. heeded r (stepped W (in_round D.first D.tau D.largest D.pending) (sym D.named i) b (mid_area W D.first D.pending D.xs)))

    fewer : members (without D.pending b) B + 1 ≡ members D.pending B
    unfolding B
    fewer = members_without D.pending b B h (has_below D.pending b h B D.mid.inside)

    -- not the last of the round
    goes_on : (without D.pending b ≡ 0 → ⊥) → During (tried W k r b)
    unfolding B
    goes_on z = subst During (sym (trying ∙ ap (heeded r) (mid_goes D.summing.begun D.mid b h z))) (record {
      e = D.e;
      first = D.first;
      xs = D.xs;
      count = D.count;
      named = D.named;
      summing = D.summing;
      pending = without D.pending b;
      tau = next.tau;
      largest = next.largest;
      mid = mid_takes D.summing.begun D.mid b h;
      some = omega (arith, z);
      told = next.largest;
      walk = refl;
      steps = omega (arith, D.steps, fewer);
      rest = D.rest;
    })
      where
        next : State
        next = after D.summing.begun D.pending D.tau D.largest b

    -- the last: the round closes
    running : Running W F (length ps) D.first D.xs
    running = record { e = D.e; count = D.count; begun = D.summing.begun }

    left_over_lem : ℕ
    left_over_lem = W.rounds - D.first.rounds

    fuel : suc W.rounds - D.first.rounds ≡ suc left_over_lem
    unfolding left_over_lem
    fuel = omega (arith, begun_rounds D.summing.begun)

    closes : without D.pending b ≡ 0 → Reached (tried W k r b)
    unfolding B left_over_lem
    closes z = subst Reached (sym (trying ∙ ap (heeded r) (mid_closes D.summing.begun D.mid b h z))) (go (sums_close D.summing) refl)
      where
        s : State
        s = D.first

        left : List Float
        left = all_left W s D.xs

        -- what follows is what follows from the round's opening
        walked : ℕ → Walked → Walked
        walked j w = rounds_from W (blocks_of W (length ps)) j w

        again : walked (suc left_over_lem) (outcome (More s D.told) D.xs) ≡ undivided_of W k ps work
        again = ap (λ (j : ℕ). walked j (outcome (More s D.told) D.xs)) (sym fuel) ∙ D.rest D.told

        steps : r.steps + 1 ≡ (s.rounds + 1) * B
        steps =
            let m : members D.pending B ≡ 1 = omega (arith, fewer, rw z at fewer, members_none B) in
            rw (add-one s.rounds, suc-mul s.rounds B) (omega (arith, D.steps))

        go : {a : Step} → SumNext W F (difference (sum_of W.format ps)) s left a → closed W (all_taken W s D.xs) left ≡ a
            → Reached (heeded r (outcome a left))
        go (ends x N G P) e = inr (record {
          sum = x;
          rounds = s.rounds + 1;
          answer = refl;
          undivided = run_ends running left_over_lem D.told x (s.rounds + 1) e ∙ again;
          steps = steps ∙ ap (λ (n : ℕ). (s.rounds + 1) * blocks_of W n) D.count;
          lowered = λ j i. let e : j ≡ s.rounds = omega arith in rw (e, ← D.count) (omega (arith, D.summing.begun.lowered));
        })
        go (goes e' next m same named more A) e =
            let j : suc W.rounds - next.rounds ≡ left_over_lem = omega (arith, more) in
            inl (opening (same ∙ D.count) (named ∙ D.named) A _ m refl (steps ∙ (λ i. sym more i * blocks_of W (sym same i)))
            (ap (λ (j : ℕ). walked j (outcome (More next m) left)) j ∙ sym (run_goes running left_over_lem D.told next m e) ∙ again))

    pub reached_accepts : Reached (tried W k r b)
    reached_accepts = go (eqb (without D.pending b) 0) refl
      where
        go : (c : Bool) → eqb (without D.pending b) 0 ≡ c → Reached (tried W k r b)
        go true e = closes (eqb-true _ 0 e)
        go false e = inl (goes_on (eqb-false _ 0 e))

  -- ---- a step at any other block leaves the run as it is
  pub reached_refuses : (r : Ran) (D : During r) (b : ℕ) → has D.pending b ≡ false → tried W k r b ≡ r
  reached_refuses r D b h =
      let s = in_round D.first D.tau D.largest D.pending in
      let area = mid_area W D.first D.pending D.xs in
      tried_refused W k r b s D.told area D.walk _ _
      (ap (λ (j : ℕ). gated W s j b area) (sym D.named) ∙ mid_refused D.summing.begun D.mid D.some b h)

  pub reached_step : (r : Ran) → Reached r → (b : ℕ) → Reached (tried W k r b)
  reached_step r (inl D) b = go (has D.pending b) refl
    where
      go : (c : Bool) → has D.pending b ≡ c → Reached (tried W k r b)
      go true h = reached_accepts r D b h
      go false h = inl (rw (reached_refuses r D b h) D)
  reached_step r (inr O) b = inr (rw still O)
    where
      still : tried W k r b ≡ r
      still = rw O.answer

  pub reached_run : (bs : List ℕ) (r : Ran) → Reached r → Reached (foldl (tried W k) r bs)
  reached_run [] r h = h
  reached_run (b ∷ bs) r h = reached_run bs (tried W k r b) (reached_step r h b)

  -- ---- from the opening of an accepted list
  pub reached_opens : ListWhen W (eqb (length work) (length ps)) true ps Good → Reached (record { walk = opened W k ps work; steps = 0 })
  reached_opens G = go (all_zero W.format (floats W ps)) refl
    where
      start : Ran
      start = record { walk = opened W k ps work; steps = 0 }

      go : (b : Bool) → all_zero W.format (floats W ps) ≡ b → Reached start
      go true a =
          let e = opened_zero F k ps work G a in
          inr (record {
            sum = zero_of W ps;
            rounds = 0;
            answer = ap (λ (w : Walked). w.answer) e;
            undivided = e ∙ faithful_done F k ps work (Done (zero_of W ps) 0) (floats W ps) (sym e) _ 0 refl;
            steps = sym (zero-mul (blocks_of W (length ps)));
            lowered = λ j i. absurd (omega arith);
          })
      go false a =
          let z : suc W.rounds - 0 ≡ suc W.rounds = omega arith in
          let e = opened_round F k ps work G a in
          inl (opening refl refl (opened_summing F k ps work G a) start (plus_zero W.format) e (sym (zero-mul (blocks_of W (length ps))))
          (λ i. rounds_from W (blocks_of W (length ps)) (z i) (sym e i)))
