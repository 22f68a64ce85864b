-- A run in a round of the walk goes on as `Going` says, and has no more accepted steps than the rounds allow. Assumes nothing.
use Rattle.std.specs.Prelude.{◌≡◌, true, cond, List, [], ◌∷◌, map, ℕ, suc, ◌+◌, ◌*◌, ◌^◌, ◌≤◌, ◌<◌, eqb, ℤ, pos, ◌+ℤ◌, length, drop, Float}
use Rattle.std.proofs.Math.Path.{refl, sym, ap, subst}
use Rattle.std.proofs.Common.{◌∙◌, mul-le-mul_right, suc-mul, arith}
use Rattle.std.specs.Float.{Format}
use Rattle.std.specs.Float.Ieee.{sub, eq}
use Rattle.units.specs.Whole.{◌⊕◌, ◌≈◌, nat, int, difference, exact_sum, total}
use Rattle.units.proofs.Integers.{int_plus, int_same, int_difference}
use Rattle.units.proofs.ExactSum.{sum_total}
use Rattle.units.proofs.Ceiling.{ceil_ge}
use Rattle.ieee.specs.Units.{value, whole}
use Rattle.ieee.proofs.Sum.{value_int}
use Rattle.lists.proofs.Apart.{apart}
use Rattle.lists.specs.Bitset.{has, without}
use Rattle.lists.proofs.BitsetLaws.{has_below}
use Rattle.lists.specs.Each.{Each, each_weaker, each_take, each_drop}
use Rattle.kinds.specs.Limits.{Width, blocks_of}
use Rattle.kinds.specs.Outcome.{outcome}
use Rattle.kinds.specs.State.{State}
use Rattle.kinds.specs.Step.{Step}
use Rattle.kinds.specs.Step.{More, Done, Refused}
use Rattle.kinds.specs.Verdict.{Good}
use Rattle.kinds.specs.Verdict as verdicts
use Rattle.sums.specs.Sums.{sum_of}
use Rattle.extract.specs.Extract.{plus_zero, gathered, largest}
use Rattle.extract.specs.LargestLaws.{Positive}
use Rattle.sound.specs.Sound.{gated}
use Rattle.sound.proofs.GateLaws.{gated_21}
use Rattle.rounds.specs.ClosedLaws.{tau1_of}
use Rattle.rounds.specs.Round.{all_zero, block_of, turned, in_round, taken_state, all_taken, all_left}
use Rattle.rounds.specs.Fitting.{Fitting}
use Rattle.rounds.specs.InUnits.{Small, wholes, taken_exact, gathers_exact}
use Rattle.rounds.specs.Exactness.{Exact, ExactSums}
use Rattle.rounds.specs.Begun.{begun_rounds}
use Rattle.walk.specs.Walk.{Walked, taken}
use Rattle.walk.specs.Told.{Tells}
use Rattle.walk.proofs.Told.{taken_tells}
use Rattle.walk.proofs.StepLaws.{stepped_good}
use Rattle.walk.specs.NoRefusal.{verdict_of}
use Rattle.walk.proofs.NoRefusal.{taken_accepted}
use Rattle.walk.specs.Stepping.{stepping_sound}
use Rattle.runs.proofs.Summing.{sums_nothing}
use Rattle.runs.specs.Taken.{pending_at, taken_of, mid_area}
use Rattle.runs.proofs.TakenLaws.{taken_mixed}
use Rattle.runs.proofs.OneBlock.{own_numbers, own_block, count_then}
use Rattle.runs.proofs.MidRound.{mid_takes, mid_stepping, count_small}
use Rattle.runs.proofs.Conserved.{mid_conserves, finish_conserves}
use Rattle.runs.proofs.MidStep.{last_tau, all_left_lem, mid_accepted, mid_refused}
use Rattle.runs.specs.Runs.{Ran, heeded, tried}
use Rattle.runs.proofs.Reached.{tried_more, tried_refused, During, reached_refuses}
use Rattle.runs.specs.Demand3.{AtClose, Going}

-- the values of floats, summed, are their units summed
sum_values : (f : Format) (xs : List Float) → exact_sum (map (value f) xs) ≡ int (total (wholes f xs))
sum_values f xs = same xs ∙ sum_total (wholes f xs)
  where
    same : (xs : List Float) → exact_sum (map (value f) xs) ≡ exact_sum (map int (wholes f xs))
    same [] = refl
    same (x ∷ xs) = λ i. value_int f x i +ℤ same xs i

-- two numbers and a list, as integers, from their units
sums_to : (f : Format) (x y : Float) (xs : List Float) (S : ℤ) → whole f x ⊕ whole f y ⊕ total (wholes f xs) ≈ difference S
    → value f x +ℤ value f y +ℤ exact_sum (map (value f) xs) ≡ S
sums_to f x y xs S h =
    let a = whole f x in
    let b = whole f y in
    let c = total (wholes f xs) in
    (λ i. value_int f x i +ℤ value_int f y i +ℤ sum_values f xs i)
    ∙ ap (λ (z : ℤ). z +ℤ int c) (sym (int_plus a b))
    ∙ sym (int_plus (a ⊕ b) c)
    ∙ int_same (a ⊕ b ⊕ c) (difference S) h
    ∙ int_difference S

-- a step that the gate lets pass is heeded, and turns its block
pub accepted_walk : (W : Width) (k : ℕ) (r : Ran) (s : State) (told : Float) (xs : List Float) (b : ℕ) → r.walk ≡ outcome (More s told) xs
    → gated W s k b xs ≡ Good → (tried W k r b).walk ≡ taken W s b xs
accepted_walk W k r s told xs b e g =
    ap (λ (q : Ran). q.walk) (tried_more W k r b s told xs e ∙ ap (heeded r) (sym (stepped_good W s b xs (gated W s k b xs) g)))
    ∙ heard (taken W s b xs) (taken_accepted W s b xs).good
  where
    heard : (w : Walked) → verdict_of w.answer ≡ Good → (heeded r w).walk ≡ w
    heard w v = go w.answer w.area v
      where
        go : (a : Step) (ys : List Float) → verdict_of a ≡ Good → (heeded r (outcome a ys)).walk ≡ outcome a ys
        go (More q m) ys v = refl
        go (Done x n) ys v = refl
        go (Refused l p) ys v = apart (cc)

accepted_turns : (W : Width) (k : ℕ) (r : Ran) (s : State) (told : Float) (xs : List Float) (b : ℕ) → r.walk ≡ outcome (More s told) xs
    → gated W s k b xs ≡ Good → (tried W k r b).walk.area ≡ turned W s.sigma b xs
unfolding taken
accepted_turns W k r s told xs b e g = ap (λ (w : Walked). w.area) (accepted_walk W k r s told xs b e g)

module _ {W : Width} (F : Fitting W) (k : ℕ) (ps : List ℕ) (work : List Float) where
  -- ---- a run that goes on
  module _ (r : Ran) (D : During W F k ps work r) where
    at : State
    at = in_round D.first D.tau D.largest D.pending

    area : List Float
    area = mid_area W D.first D.pending D.xs

    small : Each (Small W.format (2 ^ D.e)) area
    unfolding area
    small = (mid_stepping D.summing.begun D.mid D.some).work

    there : (b : ℕ) → has D.pending b ≡ true → b < blocks_of W (length D.xs)
    there b h = rw D.summing.begun.count (has_below D.pending b h (blocks_of W D.first.n) D.mid.inside)

    sums : (b : ℕ) → has D.pending b ≡ true → ExactSums W.format D.first.sigma D.tau (block_of W b area)
    unfolding area
    sums b h =
        let B = D.summing.begun in
        let A = Small W.format (2 ^ D.e) in
        let inside = there b h in
        let c = count_then W F.block D.xs b inside D.pending h in
        rw (own_numbers W F.block D.xs b inside D.pending h D.first.sigma)
        (gathers_exact B.scale (block_of W b D.xs) D.mid.tau_is
        (each_take A W.block (drop (W.block * b) D.xs) (each_drop A (W.block * b) D.xs B.work))
        (omega (arith, c, count_small B (without D.pending b), ceil_ge (D.first.n + 2))))

    kept : value W.format D.first.t +ℤ value W.format D.tau +ℤ exact_sum (map (value W.format) area) ≡ sum_of W.format ps
    unfolding area
    kept = sums_to W.format D.first.t D.tau area (sum_of W.format ps) (mid_conserves D.summing D.mid)

    -- the round that its last block closes, whatever tau and the area are written as
    closing : (tau : Float) (left : List Float) → tau ≡ (all_taken W D.first D.xs).tau
        → left ≡ all_left W D.first D.xs → AtClose W ps D.first.t tau left
    closing tau left e i =
        let f = W.format in
        let tau1 = tau1_of W (all_taken W D.first D.xs) in
        let tau2 = sub f (all_taken W D.first D.xs).tau (sub f tau1 D.first.t) in
        rw (e, i) (record {
          conserves = sums_to f tau1 tau2 (all_left W D.first D.xs) S (finish_conserves D.summing);
          nothing = none;
        })
      where
        S : ℤ
        S = sum_of W.format ps

        none : eq (tau1_of W (all_taken W D.first D.xs)) (plus_zero W.format) ≡ true
            → all_zero W.format (all_left W D.first D.xs) ≡ true → S ≡ pos 0
        none z a = sym (int_difference S) ∙ int_same (difference S) (nat 0) (sums_nothing D.summing z a) ∙ int_difference (pos 0)

    last_tau_of : (b : ℕ) → has D.pending b ≡ true → without D.pending b ≡ 0
        → gathered W.format D.first.sigma D.tau (block_of W b area) ≡ (all_taken W D.first D.xs).tau
    unfolding area
    last_tau_of b h z =
        ap (gathered W.format D.first.sigma D.tau) (own_numbers W F.block D.xs b (there b h) D.pending h D.first.sigma)
        ∙ last_tau D.summing.begun (rw z at (mid_takes D.summing.begun D.mid b h))

    last_area : (b : ℕ) → has D.pending b ≡ true → without D.pending b ≡ 0
        → turned W D.first.sigma b area ≡ all_left W D.first D.xs
    unfolding area
    last_area b h z =
        own_block W F.block D.xs b (there b h) D.pending h D.first.sigma
        ∙ ap (λ (P : ℕ). mid_area W D.first P D.xs) z
        ∙ all_left_lem D.summing.begun

    -- a pending block is accepted by a step that names the ensemble
    lets_pass : (b : ℕ) → has D.pending b ≡ true → gated W at k b area ≡ Good
    unfolding at area
    lets_pass b h = ap (λ (j : ℕ). gated W at j b area) (sym D.named) ∙ mid_accepted D.summing.begun D.mid b h

    strangers : (j b : ℕ) → (j ≡ k → ⊥) → gated W at j b area ≡ verdicts.Refused 21 0
    unfolding at area
    strangers j b n = gated_21 W at j b area (mid_stepping D.summing.begun D.mid D.some).count (λ e. n (e ∙ D.named))

    -- what a step at a pending block tells
    telling : (b : ℕ) → has D.pending b ≡ true → (s' : State) (told : Float)
        → (tried W k (record { walk = outcome (More at D.told) area; steps = r.steps }) b).walk.answer ≡ More s' told
        → Positive W.format told (largest W.format (taken_of (pending_at W (without D.pending b)) 0
        (tried W k (record { walk = outcome (More at D.told) area; steps = r.steps }) b).walk.area))
        × (s'.largest ≡ cond (eqb (without D.pending b) 0) (plus_zero W.format) told)
    unfolding at area taken
    telling b h s' told e =
        let f = W.format in
        let w = accepted_walk W k _ at D.told area b refl (lets_pass b h) in
        let t = subst (Tells next.largest (cond (eqb next.pending 0) (plus_zero f) next.largest)) (ap (λ (w : Walked). w.answer) (sym w) ∙ e)
        (taken_tells W at b area) in
        (rw (ap (λ (w : Walked). w.area) w, t.0) kept_then, t.1 ∙ ap (cond (eqb next.pending 0) (plus_zero f)) (sym t.0))
      where
        next : State
        next = taken_state W at b area

        -- the places of the blocks taken, with this one's, hold their remainders
        kept_then : Positive W.format next.largest (largest W.format (taken_of (pending_at W (without D.pending b)) 0 (taken W at b area).area))
        kept_then =
            let sigma = D.first.sigma in
            rw (
              own_numbers W F.block D.xs b (there b h) D.pending h sigma,
              own_block W F.block D.xs b (there b h) D.pending h sigma,
              taken_mixed (pending_at W (without D.pending b)) W.format sigma 0 D.xs,
            )
            (mid_takes D.summing.begun D.mid b h).kept

    during : Going W k ps (record { walk = outcome (More at D.told) area; steps = r.steps }) at
    unfolding at area
    during = record {
      count = D.count;
      ensemble = D.named;
      sound = stepping_sound (mid_stepping D.summing.begun D.mid D.some);
      accepts = lets_pass;
      refuses = λ b h. ap (λ (j : ℕ). gated W at j b area) (sym D.named) ∙ mid_refused D.summing.begun D.mid D.some b h;
      others = λ j b n. (strangers j b n, tried_refused W j _ b at D.told area refl 21 0 (strangers j b n));
      turns = λ b h. accepted_turns W k _ at D.told area b refl (lets_pass b h);
      unchanged = λ b h. reached_refuses W F k ps work _ (record {
        e = D.e;
        first = D.first;
        xs = D.xs;
        count = D.count;
        named = D.named;
        summing = D.summing;
        pending = D.pending;
        tau = D.tau;
        largest = D.largest;
        mid = D.mid;
        some = D.some;
        told = D.told;
        walk = refl;
        steps = D.steps;
        rest = D.rest;
      }) b h;
      exact = each_weaker (Small W.format (2 ^ D.e)) (Exact W.format D.first.sigma) (λ x X. taken_exact D.summing.begun.scale X) area small;
      gathers = sums;
      plus = D.mid.tau_is.plus;
      keeps = rw (taken_mixed (pending_at W D.pending) W.format D.first.sigma 0 D.xs) D.mid.kept;
      tells = telling;
      conserves = kept;
      closes = λ b h z. closing _ _ (last_tau_of b h z)
          (accepted_turns W k _ at D.told area b refl (lets_pass b h) ∙ last_area b h z);
      steps = D.steps;
      rounds = begun_rounds D.summing.begun;
    }

    pub goes_on : (s : State) (told : Float) → r.walk.answer ≡ More s told → Going W k ps r s
    unfolding at area
    goes_on s told h =
        let m : More at D.told ≡ More s told = sym (ap (λ (w : Walked). w.answer) D.walk) ∙ h in
        let e : at ≡ s = cc in
        let whole : record { walk = outcome (More at D.told) area; steps = r.steps } ≡ r = λ i. record { walk = sym D.walk i; steps = r.steps } in
        subst (λ (q : State). Going W k ps r q) e (subst (λ (q : Ran). Going W k ps q at) whole during)

    pub bounded : r.steps ≤ suc W.rounds * blocks_of W (length ps)
    bounded =
        let B = blocks_of W (length ps) in
        omega (arith, rw D.count at D.steps, mul-le-mul_right B (begun_rounds D.summing.begun), suc-mul W.rounds B)
