-- The theorems about runs and about a step over any sound state, at the scope's width and at the numbers for binary32 (2,046 numbers, 2^100, 2^111, 20
-- rounds), a line each. Assumes nothing.
use Rattle.std.specs.Prelude.{◌≡◌, ◌↔◌, true, ℕ, ◌+◌, ◌-◌, ◌*◌, ◌^◌, ◌≤◌, ◌<◌, pos, nat_abs, ◌-ℤ◌, length, Float}
use mathlib.Core.List.{List, ◌++◌, Perm}
use Rattle.std.specs.Float.{binary32, binary64}
use Rattle.std.specs.Float.Ieee.{to_bits}
use Rattle.ieee.specs.Units.{value, nearest_float}
use Rattle.ieee.specs.Accuracy.{NearestTo, EqualOrNeighbouring}
use Rattle.ieee.specs.Zeros.{minus_zero}
use Rattle.kinds.specs.Limits.{doubles, singles, blocks_of}
use Rattle.kinds.specs.Outcome.{outcome}
use Rattle.kinds.specs.Heard.{step_heard, nearest_heard, done, nearest}
use Rattle.kinds.specs.State.{State}
use Rattle.kinds.specs.Step.{More, Done}
use Rattle.kinds.specs.Verdict.{Good}
use Rattle.judge.specs.Judge.{floats, zero_sign}
use Rattle.judge.specs.Table.{ListWhen, MinusZeros, ZeroWhen}
use Rattle.judge.proofs.JudgeLaws.{list_allowed}
use Rattle.sums.specs.Sums.{sum_of, nearest_of}
use Rattle.sums.proofs.SumLaws.{sums_doubles, sums_singles}
use Rattle.sums.proofs.Promised.{nearest_promised}
use Rattle.sums.proofs.ZeroSums.{nearest_minus}
use Rattle.sums.proofs.Reordered.{nearest_reordered}
use Rattle.rounds.specs.Instances.{doubles_fit, singles_fit}
use Rattle.sound.specs.Sound.{gated}
use Rattle.walk.specs.Walk.{opened, rising, stepped, faithful_of}
use Rattle.walk.specs.Before.{faithful_before}
use Rattle.runs.specs.AnyState.{Floats, Stepped}
use Rattle.runs.proofs.AnyStateLaws.{any_state}
use Rattle.runs.specs.Faithful.{FaithfulSum}
use Rattle.runs.proofs.Faithful.{faithful_promised}
use Rattle.runs.proofs.ZeroSum.{opened_minus, faithful_minus, faithful_only, faithful_zero}
use Rattle.runs.specs.Runs.{run_of, in_turn, members, run_before, forgotten_run}
use Rattle.runs.proofs.AnyRun.{any_run}
use Rattle.runs.specs.Demand3.{Going, Finished}
use Rattle.runs.proofs.Unchanged.{unchanged, undivided_unchanged}
use Rattle.runs.proofs.Demand3Laws.{run_goes, run_finishes, run_bounded, run_at_once, run_left, ends_alike}
use Rattle.runs.specs.Reordering.{Summed}
use Rattle.runs.proofs.Reordered.{summed_close, summed_reordered, summed_rounds}
use Rattle.runs.specs.Instances.{Accepted}

-- ---- a step over any sound state
pub any_state_64 : (s : State) (k b : ℕ) (xs : List Float) → Floats doubles s xs → gated doubles s k b xs ≡ Good → Stepped doubles (stepped doubles s k b xs)
any_state_64 = any_state doubles_fit

pub any_state_32 : (s : State) (k b : ℕ) (xs : List Float) → Floats singles s xs → gated singles s k b xs ≡ Good → Stepped singles (stepped singles s k b xs)
any_state_32 = any_state singles_fit

-- ---- rule D2, the faithful sum
pub faithful_64 : (ps : List ℕ) (work : List Float) → Accepted doubles ps work → FaithfulSum doubles ps (faithful_of doubles ps work)
faithful_64 = faithful_promised doubles_fit

pub faithful_32 : (ps : List ℕ) (work : List Float) → Accepted singles ps work → FaithfulSum singles ps (faithful_of singles ps work)
faithful_32 = faithful_promised singles_fit

-- ---- rule D2, the nearest sum, and which zero it is
pub nearest_64 : (ps : List ℕ) → ListWhen doubles true true ps Good → let x = nearest_float binary64 (zero_sign doubles ps) (sum_of binary64 ps) in
    (nearest_heard doubles (nearest_of doubles ps) ≡ nearest (to_bits binary64 x)) × NearestTo binary64 (sum_of binary64 ps) x
nearest_64 = nearest_promised sums_doubles

pub nearest_32 : (ps : List ℕ) → ListWhen singles true true ps Good → let x = nearest_float binary32 (zero_sign singles ps) (sum_of binary32 ps) in
    (nearest_heard singles (nearest_of singles ps) ≡ nearest (to_bits binary32 x)) × NearestTo binary32 (sum_of binary32 ps) x
nearest_32 = nearest_promised sums_singles

pub nearest_minus_64 : (ps : List ℕ) → ListWhen doubles true true ps Good
    → (nearest_heard doubles (nearest_of doubles ps) ≡ nearest 0x8000000000000000) ↔ MinusZeros doubles ps
nearest_minus_64 = nearest_minus sums_doubles

pub nearest_minus_32 : (ps : List ℕ) → ListWhen singles true true ps Good
    → (nearest_heard singles (nearest_of singles ps) ≡ nearest 0x80000000) ↔ MinusZeros singles ps
nearest_minus_32 = nearest_minus sums_singles

-- ---- rule S3: the opening and the faithful sum of nothing but -0; which zero a faithful sum is where the exact sum is zero; and no other sum is -0
pub opened_minus_64 : (ps : List ℕ) (work : List Float) → Accepted doubles ps work → MinusZeros doubles ps
    → (k : ℕ) → opened doubles k ps work ≡ outcome (Done (minus_zero binary64) 0) (floats doubles ps)
opened_minus_64 = opened_minus doubles_fit

pub opened_minus_32 : (ps : List ℕ) (work : List Float) → Accepted singles ps work → MinusZeros singles ps
    → (k : ℕ) → opened singles k ps work ≡ outcome (Done (minus_zero binary32) 0) (floats singles ps)
opened_minus_32 = opened_minus singles_fit

pub minus_64 : (ps : List ℕ) (work : List Float) → Accepted doubles ps work → MinusZeros doubles ps
    → faithful_of doubles ps work ≡ outcome (Done (minus_zero binary64) 0) (floats doubles ps)
minus_64 = faithful_minus doubles_fit

pub minus_32 : (ps : List ℕ) (work : List Float) → Accepted singles ps work → MinusZeros singles ps
    → faithful_of singles ps work ≡ outcome (Done (minus_zero binary32) 0) (floats singles ps)
minus_32 = faithful_minus singles_fit

pub zero_64 : (ps : List ℕ) (work : List Float) → Accepted doubles ps work → sum_of binary64 ps ≡ pos 0
    → (r : ℕ) × ((p : ℕ) → (step_heard doubles (faithful_of doubles ps work).answer ≡ done p r) ↔ ZeroWhen doubles ps p)
zero_64 = faithful_zero doubles_fit

pub zero_32 : (ps : List ℕ) (work : List Float) → Accepted singles ps work → sum_of binary32 ps ≡ pos 0
    → (r : ℕ) × ((p : ℕ) → (step_heard singles (faithful_of singles ps work).answer ≡ done p r) ↔ ZeroWhen singles ps p)
zero_32 = faithful_zero singles_fit

pub only_64 : (ps : List ℕ) (work : List Float) → Accepted doubles ps work
    → (r : ℕ) → step_heard doubles (faithful_of doubles ps work).answer ≡ done 0x8000000000000000 r → MinusZeros doubles ps
only_64 = faithful_only doubles_fit

pub only_32 : (ps : List ℕ) (work : List Float) → Accepted singles ps work
    → (r : ℕ) → step_heard singles (faithful_of singles ps work).answer ≡ done 0x80000000 r → MinusZeros singles ps
only_32 = faithful_only singles_fit

-- ---- rule D3, under the number e of any ensemble
pub any_run_64 : (e : ℕ) (ps : List ℕ) (work : List Float) → Accepted doubles ps work → (π : ℕ → List ℕ)
    → ((i : ℕ) → Perm (π i) (rising (blocks_of doubles (length ps)))) → (run_of doubles e ps work (in_turn π 51 0)).walk ≡ faithful_of doubles ps work
any_run_64 = any_run doubles_fit

pub any_run_32 : (e : ℕ) (ps : List ℕ) (work : List Float) → Accepted singles ps work → (π : ℕ → List ℕ)
    → ((i : ℕ) → Perm (π i) (rising (blocks_of singles (length ps)))) → (run_of singles e ps work (in_turn π 20 0)).walk ≡ faithful_of singles ps work
any_run_32 = any_run singles_fit

module _ (e : ℕ) (ps : List ℕ) (work : List Float) (bs : List ℕ) where
  pub goes_64 : Accepted doubles ps work → (s : State) (told : Float) → (run_of doubles e ps work bs).walk.answer ≡ More s told
      → Going doubles e ps (run_of doubles e ps work bs) s
  goes_64 G = run_goes doubles_fit e ps work G bs

  pub goes_32 : Accepted singles ps work → (s : State) (told : Float) → (run_of singles e ps work bs).walk.answer ≡ More s told
      → Going singles e ps (run_of singles e ps work bs) s
  goes_32 G = run_goes singles_fit e ps work G bs

  pub finishes_64 : Accepted doubles ps work → (x : Float) (k : ℕ) → (run_of doubles e ps work bs).walk.answer ≡ Done x k
      → Finished doubles 2074 ps work (run_of doubles e ps work bs) x k
  unfolding doubles_fit
  finishes_64 G = run_finishes doubles_fit e ps work G bs

  pub finishes_32 : Accepted singles ps work → (x : Float) (k : ℕ) → (run_of singles e ps work bs).walk.answer ≡ Done x k
      → Finished singles 249 ps work (run_of singles e ps work bs) x k
  unfolding singles_fit
  finishes_32 G = run_finishes singles_fit e ps work G bs

  pub bounded_64 : Accepted doubles ps work → (run_of doubles e ps work bs).steps ≤ 51 * blocks_of doubles (length ps)
  bounded_64 G = run_bounded doubles_fit e ps work G bs

  pub bounded_32 : Accepted singles ps work → (run_of singles e ps work bs).steps ≤ 20 * blocks_of singles (length ps)
  bounded_32 G = run_bounded singles_fit e ps work G bs

  pub at_once_64 : Accepted doubles ps work → (x : Float) (k : ℕ) → (opened doubles e ps work).answer ≡ Done x k
      → (k ≡ 0) × ((run_of doubles e ps work bs).steps ≡ 0)
  at_once_64 G = run_at_once doubles_fit e ps work G bs

  pub at_once_32 : Accepted singles ps work → (x : Float) (k : ℕ) → (opened singles e ps work).answer ≡ Done x k
      → (k ≡ 0) × ((run_of singles e ps work bs).steps ≡ 0)
  at_once_32 G = run_at_once singles_fit e ps work G bs

  pub left_64 : Accepted doubles ps work → (s : State) (told : Float) → (run_of doubles e ps work bs).walk.answer ≡ More s told → (cs : List ℕ)
      → (run_of doubles e ps work (bs ++ cs)).steps
      ≤ (run_of doubles e ps work bs).steps + ((50 - s.rounds) * blocks_of doubles (length ps) + members s.pending (blocks_of doubles (length ps)))
  left_64 G = run_left doubles_fit e ps work G bs

  pub left_32 : Accepted singles ps work → (s : State) (told : Float) → (run_of singles e ps work bs).walk.answer ≡ More s told → (cs : List ℕ)
      → (run_of singles e ps work (bs ++ cs)).steps
      ≤ (run_of singles e ps work bs).steps + ((19 - s.rounds) * blocks_of singles (length ps) + members s.pending (blocks_of singles (length ps)))
  left_32 G = run_left singles_fit e ps work G bs

-- ---- rule DR5: two runs that have ended, under any two numbers
pub ends_alike_64 : (j k : ℕ) (ps : List ℕ) (work : List Float) → Accepted doubles ps work → (bs cs : List ℕ) (x y : Float) (m n : ℕ)
    → (run_of doubles j ps work bs).walk.answer ≡ Done x m → (run_of doubles k ps work cs).walk.answer ≡ Done y n
    → (run_of doubles j ps work bs).walk ≡ (run_of doubles k ps work cs).walk
ends_alike_64 = ends_alike doubles_fit

pub ends_alike_32 : (j k : ℕ) (ps : List ℕ) (work : List Float) → Accepted singles ps work → (bs cs : List ℕ) (x y : Float) (m n : ℕ)
    → (run_of singles j ps work bs).walk.answer ≡ Done x m → (run_of singles k ps work cs).walk.answer ≡ Done y n
    → (run_of singles j ps work bs).walk ≡ (run_of singles k ps work cs).walk
ends_alike_32 = ends_alike singles_fit

-- ---- rule DR6: what a state keeps and tells of its remainders changes nothing else
pub unchanged_64 : (k : ℕ) (ps : List ℕ) (work : List Float) (bs : List ℕ)
    → run_before doubles k ps work bs ≡ forgotten_run doubles (run_of doubles k ps work bs)
unchanged_64 = unchanged doubles_fit

pub unchanged_32 : (k : ℕ) (ps : List ℕ) (work : List Float) (bs : List ℕ)
    → run_before singles k ps work bs ≡ forgotten_run singles (run_of singles k ps work bs)
unchanged_32 = unchanged singles_fit

pub undivided_64 : (ps : List ℕ) (work : List Float) → faithful_before doubles ps work ≡ faithful_of doubles ps work
undivided_64 = undivided_unchanged doubles_fit

pub undivided_32 : (ps : List ℕ) (work : List Float) → faithful_before singles ps work ≡ faithful_of singles ps work
undivided_32 = undivided_unchanged singles_fit

-- ---- rule Y5, the nearest sum in any order; rule S7 has it of doubles, in sums/Reordered
pub nearest_reordered_32 : {ps qs : List ℕ} → Perm ps qs → ListWhen singles true true ps Good → nearest_of singles ps ≡ nearest_of singles qs
nearest_reordered_32 π G = nearest_reordered π (list_allowed G)

-- ---- rule S8, faithful sums in any order; rule S9, how far off they are
module _ {ps qs : List ℕ} (π : Perm ps qs) {x y : Float} {j k : ℕ} {xs ys : List Float} where
  pub reordered_64 : Summed doubles ps x j xs → Summed doubles qs y k ys → EqualOrNeighbouring binary64 x y
  reordered_64 = summed_reordered doubles_fit π

  pub reordered_32 : Summed singles ps x j xs → Summed singles qs y k ys → EqualOrNeighbouring binary32 x y
  reordered_32 = summed_reordered singles_fit π

  pub rounds_64 : Summed doubles ps x j xs → Summed doubles qs y k ys → (j ≡ k) × Perm xs ys
  rounds_64 = summed_rounds doubles_fit π

  pub rounds_32 : Summed singles ps x j xs → Summed singles qs y k ys → (j ≡ k) × Perm xs ys
  rounds_32 = summed_rounds singles_fit π

module _ {ps : List ℕ} {x : Float} {k : ℕ} {xs : List Float} where
  pub close_64 : Summed doubles ps x k xs → 0 < nat_abs (sum_of binary64 ps)
      → 2 ^ 52 * nat_abs (value binary64 x -ℤ sum_of binary64 ps) < nat_abs (sum_of binary64 ps)
  close_64 s = (summed_close doubles_fit s).close

  pub close_32 : Summed singles ps x k xs → 0 < nat_abs (sum_of binary32 ps)
      → 2 ^ 23 * nat_abs (value binary32 x -ℤ sum_of binary32 ps) < nat_abs (sum_of binary32 ps)
  close_32 s = (summed_close singles_fit s).close
