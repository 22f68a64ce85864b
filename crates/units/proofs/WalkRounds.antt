-- Each further round of a walk lowers e by p - M or more. Assumes nothing.
use Rattle.std.specs.Prelude.{List, ℕ, suc, ◌+◌, ◌-◌, ◌*◌, ◌^◌, ◌≤◌, ◌<◌}
use Rattle.std.proofs.Common.{inl, inr, suc-mul, arith}
use Rattle.units.specs.Whole.{Whole}
use Rattle.units.specs.Walk.{remainders, Gathered, Opened, Closed, Walk, nothing, restart, finished, further}
use Rattle.units.proofs.Powers.{le_or_lt}
use Rattle.units.proofs.Turns.{round_closes}
use Rattle.units.proofs.Closing.{left_small, left_none, close_restart, close_further}

module _ (p M n : ℕ) (two : 2 ≤ M) (fit : M + M < p) (few : n + 2 ≤ 2 ^ M) where
  pub closes : {e : ℕ} {S t tau : Whole} {xs : List Whole} → Opened p M n e S t xs → Gathered p (M + e) xs tau
      → Closed p M n e S t tau (remainders p (M + e) xs)
  closes {e} O g = round_closes p (omega arith) M e (omega arith) (omega arith) O (omega arith) g

  lowered : (m : ℕ) {e e' : ℕ} → m * (p - M) ≤ e' → e' + (p - M) ≤ e → suc m * (p - M) ≤ e
  lowered m h l = rw (suc-mul m (p - M)) (omega arith)

  -- m further rounds
  pub walk_rounds : {e : ℕ} {S t : Whole} {xs : List Whole} {m : ℕ} {r : Whole} → Opened p M n e S t xs → Walk p M e t xs m r → m * (p - M) ≤ e
  walk_rounds O (nothing g z h) = omega arith
  walk_rounds {e} O (restart {m = m} e' g z o h c w) = elim (le_or_lt p (M + e)) [
    | inl l ↦
        let i = c (M + e - p) (left_small p M n two fit few (closes O g) l) in
        lowered m (walk_rounds (close_restart p M n two fit few (closes O g) e' z h) w) (omega arith)
    | inr l ↦ absurd (o (left_none p M n two fit few (closes O g) l))
  ]
  walk_rounds O (finished g o h) = omega arith
  walk_rounds O (further {m = m} g o l h w) = lowered m (walk_rounds (close_further p M n two fit few (closes O g) l h) w) (omega arith)
