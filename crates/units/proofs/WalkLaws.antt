-- The walk answers a faithful rounding of S, and each further round lowers e by p - M or more, which bounds the rounds. Document 000's Algorithms 4.4 and
-- 4.8, whatever the order in which a round takes its numbers. Assumes nothing.
use Rattle.std.specs.Prelude.{◌≡◌, List, ℕ, suc, ◌+◌, ◌-◌, ◌*◌, ◌^◌, ◌≤◌, ◌<◌}
use Rattle.std.proofs.Common.{le_trans, le-div_iff_mul-le, lt_of_mul-lt-mul_right, mul-le-mul_left, arith}
use Rattle.units.specs.Whole.{Whole, nat}
use Rattle.units.specs.Faithful.{Faithful}
use Rattle.units.specs.Walk.{rounded_up, Opened, Walk, nothing, restart, finished, further}
use Rattle.units.proofs.FaithfulLaws.{faithful_same, zero_faithful}
use Rattle.units.proofs.Closing.{close_nothing, close_restart, close_finish, close_further}
use Rattle.units.proofs.WalkRounds.{closes, walk_rounds}

module _ (p M n : ℕ) (two : 2 ≤ M) (fit : M + M < p) (few : n + 2 ≤ 2 ^ M) where
  pub walk_faithful : {e : ℕ} {S t : Whole} {xs : List Whole} {m : ℕ} {r : Whole} → Opened p M n e S t xs → Walk p M e t xs m r → Faithful p r S
  walk_faithful {S = S} O (nothing g z h) = let x =
      close_nothing p M n two fit few (closes p M n two fit few O g) z h in faithful_same (nat 0) S (omega arith) (zero_faithful p)
  walk_faithful O (restart e' g z o h c w) = walk_faithful (close_restart p M n two fit few (closes p M n two fit few O g) e' z h) w
  walk_faithful O (finished g o h) = close_finish p M n two fit few (closes p M n two fit few O g) h
  walk_faithful O (further g o l h w) = walk_faithful (close_further p M n two fit few (closes p M n two fit few O g) l h) w

  -- all rounds of a walk that opens with numbers of at most 2 ^ E units, where E + 1 = C + p: the bound as rule WR3 writes it, and a number for it
  walk_rounds_most : (C E : ℕ) → C + p ≡ E + 1 → {e : ℕ} {S t : Whole} {xs : List Whole} {m : ℕ} {r : Whole} → e ≤ E → Opened p M n e S t xs
      → Walk p M e t xs m r → suc m ≤ 1 + rounded_up (C + M) (p - M)
  walk_rounds_most C E l {e} {m = m} i O w =
      rw whole (omega (arith, (le-div_iff_mul-le {k = p - M} (omega arith)).1 (le_trans (walk_rounds p M n two fit few O w) i)))
    where
      whole : C + M + (p - M - 1) ≡ E
      whole = omega arith

  walk_rounds_below : (D E K : ℕ) → M ≤ D → E < K * (p - D) → {e : ℕ} {S t : Whole} {xs : List Whole} {m : ℕ} {r : Whole} → e ≤ E → Opened p M n e S t xs
      → Walk p M e t xs m r → suc m ≤ K
  walk_rounds_below D E K h l {m = m} i O w = lt_of_mul-lt-mul_right (p - D) (omega (arith, walk_rounds p M n two fit few O w, mul-le-mul_left m apart))
    where
      apart : p - D ≤ p - M
      apart = omega arith

  pub walk_bounds : (C D E K : ℕ) → C + p ≡ E + 1 → M ≤ D → E < K * (p - D) → {e : ℕ} {S t : Whole} {xs : List Whole} {m : ℕ} {r : Whole} → e ≤ E
      → Opened p M n e S t xs → Walk p M e t xs m r → Faithful p r S × (suc m ≤ 1 + rounded_up (C + M) (p - M)) × (suc m ≤ K)
  walk_bounds C D E K c d k i O w = (walk_faithful O w, walk_rounds_most C E c i O w, walk_rounds_below D E K d k i O w)
