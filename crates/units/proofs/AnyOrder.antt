-- Rounded additions to tau, in whatever order the numbers are taken, gather the exact sum of the high parts. Assumes nothing.
use Rattle.std.proofs.Common.{sym, ◌∙◌, arith}
use mathlib.Core.List.Perm
use mathlib.Core.List.{List, Perm}
use Rattle.std.specs.Prelude.{ℕ, ◌+◌, ◌^◌, ◌≤◌, ◌<◌, length}
use Rattle.units.specs.Whole.{Whole, nat, ◌≈◌, total, All, int}
use Rattle.units.specs.Walk.{high, gathered, Ready, Gathered}
use Rattle.units.proofs.Integers.{int_back}
use Rattle.units.proofs.ExactSum.{sum_reordered, sum_total}
use Rattle.units.proofs.Turns.{tau_zero, turns}

pub total_reordered : {xs ys : List Whole} → Perm xs ys → total xs ≈ total ys
total_reordered {xs} {ys} π = int_back (total xs) (total ys) (sym (sum_total xs) ∙ sum_reordered (Perm.map int π) ∙ sum_total ys)

module _ (p : ℕ) (P : 0 < p) (M e : ℕ) (M⁺ : 0 < M) (M⁻ : M < p) where
  pub any_order : {xs ys : List Whole} → Perm ys xs → All (Ready p e) ys → length ys ≤ 2 ^ M → Gathered p (M + e) xs (gathered p (M + e) (nat 0) ys)
  any_order {xs} {ys} π h l =
      let R = turns p P M e M⁺ M⁻ ys (length ys) (tau_zero p M e) h (omega arith) l in
      record { sum = omega (arith, R.1, total_reordered (Perm.map (high p (M + e)) π)) }
