-- The final estimate: where |tau1| ≥ 2 N² g, with tau2 exact and T the rounded sum of n remainders of magnitude at most g, tau1 + (tau2 + T) rounded is
-- faithful to tau1 + tau2 and the exact remainders. Document 000's Lemma 4.3, for n + 2 ≤ N and 2 N² ≤ 2 ^ p. Assumes nothing.
use Rattle.std.specs.Prelude.{ℕ, suc, ◌+◌, ◌-◌, ◌*◌, ◌^◌, ◌≤◌, ◌<◌}
use Rattle.std.proofs.Common.{ap, pow_pos}
use Rattle.std.proofs.Math.Nat.{mul-sub}
use native.Mathlib.Omega.{arith}
use Rattle.units.specs.Whole.{Whole, ◌⊕◌, ◌⊖◌, ◌⊗◌, ◌≈◌, Within, mag}
use Rattle.units.specs.Rounding.{fl}
use Rattle.units.specs.Faithful.{Faithful}
use Rattle.units.proofs.SignedRounding.{fl_relative, fl_relative_result}
use Rattle.units.proofs.FaithfulLaws.{criterion}
use Rattle.units.specs.RemainderSum.{Summed}
use Rattle.units.proofs.Budget.{budget}

-- ---- from signed numbers to their magnitudes. To go through these keeps `omega` from splitting at each |x|

mag_times : (Q : ℕ) (x : Whole) (c : ℕ) → Within (Q ⊗ x) c → Q * mag x ≤ c
mag_times Q x c h = omega (arith, mul-sub Q x.up x.dn, mul-sub Q x.dn x.up)

within : (x : Whole) → Within x (mag x)
within x = omega arith

mag_least : (x : Whole) (c : ℕ) → Within x c → mag x ≤ c
mag_least x c h = omega arith

from : (x y : Whole) (c d : ℕ) → Within x c → Within (x ⊖ y) d → Within y (c + d)
from x y c d h k = omega arith

last_sum_lem : (f v y t : Whole) (R a c d : ℕ) → Within y a → Within t c → Within (v ⊖ (y ⊕ t)) d
    → (Within (f ⊕ v) R → Within f (R + (a + c + d))) × (Within f R → Within (f ⊕ v) (R + (a + c + d)))
last_sum_lem f v y t R a c d x y' z = omega arith

module _ (p : ℕ) (P : 0 < p) (N j n : ℕ) (few : n + 2 ≤ N) (many : 3 ≤ N) (room : 2 * (N * N) ≤ 2 ^ p) where
  pub finish : (z tau2 : Whole) {T D : Whole} → tau2 ≈ z ⊖ fl p z → Summed p n (2 ^ j) T D → 2 * (N * N * 2 ^ j) ≤ mag (fl p z)
      → Faithful p (fl p (fl p z ⊕ fl p (tau2 ⊕ T))) (z ⊕ D)
  finish z tau2 {T} {D} e L big = criterion p P r s d (within (s ⊖ r)) spare
    where
      Q : ℕ
      Q = 2 ^ p

      g : ℕ
      g = 2 ^ j

      v : Whole
      v = fl p (tau2 ⊕ T)

      r : Whole
      r = fl p z ⊕ v

      s : Whole
      s = z ⊕ D

      A : ℕ
      A = mag (fl p z)

      a : ℕ
      a = mag (fl p z ⊖ z)

      d : ℕ
      d = mag (s ⊖ r)

      d1 : ℕ
      d1 = mag (fl p r ⊖ r)

      d2 : ℕ
      d2 = mag (v ⊖ (tau2 ⊕ T))

      sums : (c : ℕ) → (Within (fl p z ⊕ v) c → Within (fl p z) (c + (a + n * g + d2))) × (Within (fl p z) c → Within (fl p z ⊕ v) (c + (a + n * g + d2)))
      sums c = last_sum_lem (fl p z) v tau2 T c a (n * g) d2 (omega (arith, e)) L.small (within (v ⊖ (tau2 ⊕ T)))

      low : Q * a ≤ A
      low = mag_times Q (fl p z ⊖ z) A (fl_relative_result p P z A (omega arith))

      relative2 : Within (Q ⊗ (v ⊖ (tau2 ⊕ T))) (a + n * g)
      relative2 = fl_relative p P (tau2 ⊕ T) (a + n * g) (omega (arith, e, L.small))

      lost2 : Q * d2 ≤ a + n * g
      lost2 = mag_times Q (v ⊖ (tau2 ⊕ T)) (a + n * g) relative2

      lost1 : Q * d1 ≤ mag r
      lost1 = mag_times Q (fl p r ⊖ r) (mag r) (fl_relative p P r (mag r) (omega arith))

      lost : Q * d ≤ a + n * g + n * n * g
      lost = mag_times Q (s ⊖ r) (a + n * g + n * n * g) (omega (arith, relative2, L.off, ap (λ (x : ℕ). Q * x) e))

      r⁻ : A ≤ mag r + (a + n * g + d2)
      r⁻ = mag_least (fl p z) (mag r + (a + n * g + d2)) ((sums (mag r)).0 (within r))

      r⁺ : mag r ≤ A + (a + n * g + d2)
      r⁺ = mag_least r (A + (a + n * g + d2)) ((sums A).1 (within (fl p z)))

      rounded : mag r ≤ mag (fl p r) + d1
      rounded = mag_least r (mag (fl p r) + d1) (from (fl p r) r (mag (fl p r)) d1 (within (fl p r)) (within (fl p r ⊖ r)))

      spare : suc Q * (2 * d) < mag (fl p r)
      spare = budget Q N g n A a d d1 d2 (mag r) (mag (fl p r)) few many room (pow_pos j) big low lost lost2 lost1 r⁻ r⁺ rounded
