-- Rule D3 in clauses: what holds of a run while it goes on, and when it has finished. Definitions only.
use Rattle.std.specs.Prelude.{◌≡◌, true, false, cond, List, map, ℕ, suc, ◌+◌, ◌-◌, ◌*◌, ◌≤◌, leb, eqb, pos, ◌+ℤ◌, length, Float}
use Rattle.std.specs.Float.Ieee.{prec, add, sub, eq}
use Rattle.units.specs.Whole.{exact_sum}
use Rattle.units.specs.Walk.{rounded_up}
use Rattle.ieee.specs.Units.{value, magnitude, negative}
use Rattle.ieee.specs.Accuracy.{FaithfulTo}
use Rattle.lists.specs.Bitset.{has, without}
use Rattle.lists.specs.Each.{Each}
use Rattle.kinds.specs.Limits.{Width, exponent_of, blocks_of}
use Rattle.kinds.specs.State.{State}
use Rattle.kinds.specs.Step.{More}
use Rattle.kinds.specs.Verdict.{Good, Refused}
use Rattle.sums.specs.Sums.{sum_of}
use Rattle.extract.specs.Extract.{plus_zero, gathered, largest}
use Rattle.extract.specs.LargestLaws.{Positive}
use Rattle.sound.specs.Sound.{sound, gated}
use Rattle.rounds.specs.Round.{all_zero, block_of, turned}
use Rattle.rounds.specs.Exactness.{Exact, ExactSums}
use Rattle.walk.specs.Walk.{faithful_of}
use Rattle.runs.specs.Taken.{pending_at, taken_of}
use Rattle.runs.specs.Runs.{Ran, tried, members}

-- as a round closes, with tau and the area that all its blocks have left: tau1 is t', tau2 is tau - (tau1 - t)
pub record AtClose (W : Width) (ps : List ℕ) (t tau : Float) (left : List Float) : Type 0 where
  -- rule WE3, for rule W3
  pub conserves : let f = W.format in let tau1 = add f t tau in let tau2 = sub f tau (sub f tau1 t) in
      value f tau1 +ℤ value f tau2 +ℤ exact_sum (map (value f) left) ≡ sum_of f ps
  -- rule WE3, for rule W1
  pub nothing : eq (add W.format t tau) (plus_zero W.format) ≡ true → all_zero W.format left ≡ true → sum_of W.format ps ≡ pos 0

-- a run over the list ps, under the number k, that goes on with the state s
pub record Going (W : Width) (k : ℕ) (ps : List ℕ) (r : Ran) (s : State) : Type 0 where
  pub count : s.n ≡ length ps
  -- rule WS12
  pub ensemble : s.ensemble ≡ k
  -- rule DR2
  pub sound : sound W s r.walk.area ≡ true
  -- rule DR3; and a refusal changes nothing
  pub accepts : (b : ℕ) → has s.pending b ≡ true → gated W s k b r.walk.area ≡ Good
  pub refuses : (b : ℕ) → has s.pending b ≡ false → gated W s k b r.walk.area ≡ Refused (cond (leb (blocks_of W s.n) b) 6 7) 0
  pub unchanged : (b : ℕ) → has s.pending b ≡ false → tried W k r b ≡ r
  -- rule DR5: a step that names another ensemble is refused with 21, whatever block it asks for, and changes nothing
  pub others : (j b : ℕ) → (j ≡ k → ⊥) → (gated W s j b r.walk.area ≡ Refused 21 0) × (tried W j r b ≡ r)
  -- rule D3: its own block and no other place; `Places` says it of each place
  pub turns : (b : ℕ) → has s.pending b ≡ true → (tried W k r b).walk.area ≡ turned W s.sigma b r.walk.area
  -- rule WE1
  pub exact : Each (Exact W.format s.sigma) r.walk.area
  pub gathers : (b : ℕ) → has s.pending b ≡ true → ExactSums W.format s.sigma s.tau (block_of W b r.walk.area)
  pub plus : magnitude W.format s.tau ≡ 0 → negative s.tau ≡ false
  -- rule WS13: the largest remainder of the blocks taken in this round, whose places hold their remainders; every other block is pending
  pub keeps : Positive W.format s.largest (largest W.format (taken_of (pending_at W s.pending) 0 r.walk.area))
  -- rule WS14: what a step tells is that of its own round, with its own block; the next state keeps it too, unless the round has closed
  pub tells : (b : ℕ) → has s.pending b ≡ true → (s' : State) (told : Float) → (tried W k r b).walk.answer ≡ More s' told
      → Positive W.format told (largest W.format (taken_of (pending_at W (without s.pending b)) 0 (tried W k r b).walk.area))
      × (s'.largest ≡ cond (eqb (without s.pending b) 0) (plus_zero W.format) told)
  -- rule WE2
  pub conserves : value W.format s.t +ℤ value W.format s.tau +ℤ exact_sum (map (value W.format) r.walk.area) ≡ sum_of W.format ps
  pub closes : (b : ℕ) → has s.pending b ≡ true → without s.pending b ≡ 0
      → AtClose W ps s.t (gathered W.format s.sigma s.tau (block_of W b r.walk.area)) (tried W k r b).walk.area
  -- the accepted steps are those of the rounds closed, and the blocks taken since
  pub steps : r.steps + members s.pending (blocks_of W s.n) ≡ s.rounds * blocks_of W s.n + blocks_of W s.n
  pub rounds : s.rounds ≤ W.rounds

-- a run that has finished with the sum x after k rounds; magnitudes are at most 2^top units
pub record Finished (W : Width) (top : ℕ) (ps : List ℕ) (work : List Float) (r : Ran) (x : Float) (k : ℕ) : Type 0 where
  -- rule D3: sum, rounds and remainders of the undivided call
  pub undivided : r.walk ≡ faithful_of W ps work
  -- no number of the format lies strictly between x and S, and x is S where S is one
  pub faithful : FaithfulTo W.format (sum_of W.format ps) x
  -- rule D3: how many steps were accepted
  pub steps : r.steps ≡ k * blocks_of W (length ps)
  -- rule WR3; its 2022 is top + 1 - prec
  pub rounds : k ≤ 1 + rounded_up (top + 1 - prec W.format + exponent_of (length ps)) (prec W.format - exponent_of (length ps))
  pub most : k ≤ suc W.rounds
