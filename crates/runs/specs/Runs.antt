-- Rule DR1, a run: an opening under the number of an ensemble, then steps at blocks in any order that name it, each with the state and the work area that the
-- opening or the last accepted step left; refused steps may stand between. Definitions only.
use Rattle.std.specs.Prelude.{cond, ℕ, zero, suc, ◌+◌, eqb, Float}
use mathlib.Core.List.{List, [], ◌∷◌, ◌++◌, foldl}
use Rattle.lists.specs.Bitset.{has}
use Rattle.kinds.specs.Limits.{Width}
use Rattle.kinds.specs.Outcome.{outcome}
use Rattle.kinds.specs.Step.{Step}
use Rattle.kinds.specs.Step.{More, Done, Refused}
use Rattle.walk.specs.Walk.{Walked, opened, stepped, onward}
use Rattle.walk.specs.Before.{stepped_before, forgotten}

-- what the opening or the last accepted step left, and how many steps were accepted
pub record Ran : Type 0 where
  pub walk : Walked
  pub steps : ℕ

-- a step that was tried: a refused one is not counted and the answer before it stands, over the work area as the refused step left it
abbrev pub heeded : Ran → Walked → Ran
heeded r w = by w.answer
  where
    by : Step → Ran
    by (More s told) = record { walk = w; steps = r.steps + 1 }
    by (Done x k) = record { walk = w; steps = r.steps + 1 }
    by (Refused k p) = record { walk = outcome r.walk.answer w.area; steps = r.steps }

abbrev pub tried : Width → ℕ → Ran → ℕ → Ran
tried W k r b = by r.walk.answer
  where
    by : Step → Ran
    by (More s told) = heeded r (stepped W s k b r.walk.area)
    by (Done x n) = r
    by (Refused l p) = r

abbrev pub run_of : Width → ℕ → List ℕ → List Float → List ℕ → Ran
run_of W k ps work bs = foldl (tried W k) (record { walk = opened W k ps work; steps = 0 }) bs

-- rule DR5: steps that name any ensemble, and of those the blocks of the ones that name k
pub record Asked : Type 0 where
  pub named : ℕ
  pub block : ℕ

abbrev pub asked : Width → Ran → Asked → Ran
asked W r a = tried W a.named r a.block

unfoldable pub own : ℕ → List Asked → List ℕ
own k [] = []
own k (a ∷ rest) = cond (eqb a.named k) (a.block ∷ own k rest) (own k rest)

-- rule DR6: a run of the walk as it was before, and a run without the largest remainders that are kept and told
abbrev pub tried_before : Width → ℕ → Ran → ℕ → Ran
tried_before W k r b = by r.walk.answer
  where
    by : Step → Ran
    by (More s told) = heeded r (stepped_before W s k b r.walk.area)
    by (Done x n) = r
    by (Refused l p) = r

abbrev pub run_before : Width → ℕ → List ℕ → List Float → List ℕ → Ran
run_before W k ps work bs = foldl (tried_before W k) (record { walk = opened W k ps work; steps = 0 }) bs

abbrev pub forgotten_run : Width → Ran → Ran
forgotten_run W r = record { walk = forgotten W r.walk; steps = r.steps }

-- how many of the numbers below count are in a set
unfoldable pub members : ℕ → ℕ → ℕ
members P zero = 0
members P (suc count) = cond (has P count) 1 0 + members P count

-- the first k orders of a sequence from i on, one after another
unfoldable pub in_turn : (ℕ → List ℕ) → ℕ → ℕ → List ℕ
in_turn π zero i = []
in_turn π (suc k) i = π i ++ in_turn π k (suc i)

-- rule DR4: that many rounds from round i on, each with its blocks in the order that π gives for it
unfoldable pub ordered : Width → (ℕ → List ℕ) → ℕ → ℕ → Walked → Walked
ordered W π zero i w = w
ordered W π (suc k) i w = ordered W π k (suc i) (foldl (onward W) w (π i))
