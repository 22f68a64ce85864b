-- Rule DR5: under any number a run of a list is the same run, with the same areas and steps, and its states are the same but for the number; so that every run
-- finishes as the undivided call does, which is given none; and steps that name another number are as if they had not been. Assumes nothing.
use Rattle.std.specs.Prelude.{◌≡◌, Bool, cond, ℕ, length, Float}
use Rattle.std.proofs.Math.Path.{refl, ap}
use Rattle.std.proofs.Common.{sym, subst, ◌∙◌, eqb-true}
use Rattle.std.proofs.Math.Bool.{true, false}
use mathlib.Core.List.{List, [], ◌∷◌, foldl}
use Rattle.std.proofs.lemmas.Bool.{eqb-false}
use Rattle.std.proofs.Math.Dec.{eqb}
use Rattle.kinds.specs.Limits.{Width}
use Rattle.kinds.specs.Outcome.{outcome}
use Rattle.kinds.specs.Step.{Step}
use Rattle.kinds.specs.Step.{More, Done, Refused}
use Rattle.kinds.specs.Verdict.{Good}
use Rattle.judge.specs.Table.{ListWhen}
use Rattle.sound.proofs.GateLaws.{gated_4, gated_21}
use Rattle.rounds.specs.Fitting.{Fitting}
use Rattle.walk.specs.Walk.{Walked, opened, stepped, undivided_of, faithful_of}
use Rattle.walk.specs.Ensembles.{walk_under, Named}
use Rattle.walk.proofs.Ensembles.{stepped_named, opened_named, stepped_under, opened_under, undivided_under}
use Rattle.runs.specs.Runs.{Ran, heeded, tried, run_of, Asked, asked, own}
use Rattle.runs.proofs.Faithful.{faithful_promised}
use Rattle.runs.proofs.Reached.{tried_refused}
use Rattle.runs.specs.Numbered.{run_under}

-- the undivided walk of an accepted list ends, and so its number is nowhere to be seen
pub undivided_same : {W : Width} (F : Fitting W) (k : ℕ) (ps : List ℕ) (work : List Float) → ListWhen W (eqb (length work) (length ps)) true ps Good
    → undivided_of W k ps work ≡ faithful_of W ps work
undivided_same {W} F k ps work G =
    let P = faithful_promised F ps work G in
    let w = faithful_of W ps work in
    let same : walk_under k w ≡ w = (λ i. walk_under k (outcome (P.answer i) w.area)) ∙ (λ i. outcome (sym P.answer i) w.area) in
    undivided_under W k 0 ps work ∙ same

module _ (W : Width) (k j : ℕ) where
  heeded_under : (r : Ran) (w : Walked) → heeded (run_under k r) (walk_under k w) ≡ run_under k (heeded r w)
  heeded_under r w = by w.answer w.area
    where
      by : (a : Step) (xs : List Float) → heeded (run_under k r) (walk_under k (outcome a xs)) ≡ run_under k (heeded r (outcome a xs))
      by (More s told) xs = refl
      by (Done x n) xs = refl
      by (Refused l p) xs = refl

  -- a step under k beside the one under j
  tried_under : (r : Ran) (b : ℕ) → Named j r.walk.answer → tried W k (run_under k r) b ≡ run_under k (tried W j r b)
  tried_under r b = by r.walk.answer r.walk.area r.steps
    where
      by : (a : Step) (xs : List Float) (m : ℕ) → Named j a
          → tried W k (run_under k (record { walk = outcome a xs; steps = m })) b ≡ run_under k (tried W j (record { walk = outcome a xs; steps = m }) b)
      by (More s told) xs m N =
          let before : Ran = record { walk = outcome (More s told) xs; steps = m } in
          ap (heeded (run_under k before)) (stepped_under W k s b xs)
          ∙ heeded_under before (stepped W s s.ensemble b xs)
          ∙ ap (λ (i : ℕ). run_under k (heeded before (stepped W s i b xs))) N
      by (Done x n) xs m N = refl
      by (Refused l p) xs m N = refl

  -- the state of a run is of its ensemble
  tried_named : (r : Ran) (b : ℕ) → Named j r.walk.answer → Named j (tried W j r b).walk.answer
  tried_named r b = by r.walk.answer r.walk.area r.steps
    where
      kept : (before : Ran) → Named j before.walk.answer → (w : Walked) → Named j w.answer → Named j (heeded before w).walk.answer
      kept before B w = go w.answer w.area
        where
          go : (a : Step) (xs : List Float) → Named j a → Named j (heeded before (outcome a xs)).walk.answer
          go (More s told) xs N = N
          go (Done x n) xs N = tt
          go (Refused l p) xs N = B

      by : (a : Step) (xs : List Float) (m : ℕ) → Named j a → Named j (tried W j (record { walk = outcome a xs; steps = m }) b).walk.answer
      by (More s told) xs m N =
          kept (record { walk = outcome (More s told) xs; steps = m }) N (stepped W s j b xs)
          (subst (λ (i : ℕ). Named i (stepped W s j b xs).answer) N (stepped_named W s j b xs))
      by (Done x n) xs m N = tt
      by (Refused l p) xs m N = tt

  all_under : (bs : List ℕ) (r : Ran) → Named j r.walk.answer → foldl (tried W k) (run_under k r) bs ≡ run_under k (foldl (tried W j) r bs)
  all_under [] r N = refl
  all_under (b ∷ bs) r N =
      ap (λ (q : Ran). foldl (tried W k) q bs) (tried_under r b N) ∙ all_under bs (tried W j r b) (tried_named r b N)

  -- two runs over one list, block for block
  pub runs_alike : (ps : List ℕ) (work : List Float) (bs : List ℕ) → run_of W k ps work bs ≡ run_under k (run_of W j ps work bs)
  runs_alike ps work bs =
      ap (λ (w : Walked). foldl (tried W k) (record { walk = w; steps = 0 }) bs) (opened_under W k j ps work)
      ∙ all_under bs (record { walk = opened W j ps work; steps = 0 }) (opened_named W j ps work)

-- ---- steps that name another number than the opening was given
stranger : (W : Width) (k j : ℕ) (r : Ran) (b : ℕ) → Named k r.walk.answer → (j ≡ k → ⊥) → tried W j r b ≡ r
stranger W k j r b N n = by r.walk.answer r.walk.area r.steps N
  where
    by : (a : Step) (xs : List Float) (m : ℕ) → Named k a
        → tried W j (record { walk = outcome a xs; steps = m }) b ≡ record { walk = outcome a xs; steps = m }
    by (More s told) xs m N = heard (eqb (length xs) s.n) refl
      where
        before : Ran
        before = record { walk = outcome (More s told) xs; steps = m }

        heard : (c : Bool) → eqb (length xs) s.n ≡ c → tried W j before b ≡ before
        heard true l = tried_refused W j before b s told xs refl 21 0 (gated_21 W s j b xs (eqb-true (length xs) s.n l) (λ e. n (e ∙ N)))
        heard false l = tried_refused W j before b s told xs refl 4 0 (gated_4 W s j b xs (eqb-false (length xs) s.n l))
    by (Done x l) xs m N = refl
    by (Refused l p) xs m N = refl

module _ (W : Width) (k : ℕ) where
  between : (all : List Asked) (r : Ran) → Named k r.walk.answer → foldl (asked W) r all ≡ foldl (tried W k) r (own k all)
  unfolding own
  between [] r N = refl
  between (a ∷ rest) r N = by (eqb a.named k) refl (λ q. between rest q)
    where
      by : (c : Bool) → eqb a.named k ≡ c → ((q : Ran) → Named k q.walk.answer → foldl (asked W) q rest ≡ foldl (tried W k) q (own k rest))
          → foldl (asked W) (asked W r a) rest ≡ foldl (tried W k) r (cond c (a.block ∷ own k rest) (own k rest))
      by true e on =
          ap (λ (j : ℕ). foldl (asked W) (tried W j r a.block) rest) (eqb-true a.named k e)
          ∙ on (tried W k r a.block) (tried_named W k k r a.block N)
      by false e on =
          ap (λ (q : Ran). foldl (asked W) q rest) (stranger W k a.named r a.block N (eqb-false a.named k e)) ∙ on r N

  -- of any list, a run with such steps anywhere in it is the run without them
  pub strangers_between : (ps : List ℕ) (work : List Float) (all : List Asked)
      → foldl (asked W) (record { walk = opened W k ps work; steps = 0 }) all ≡ run_of W k ps work (own k all)
  strangers_between ps work all = between all (record { walk = opened W k ps work; steps = 0 }) (opened_named W k ps work)
