-- How far apart numbers of p bits are, and differences that are exact: the gap between two, Sterbenz's lemma, and that the error of a rounded sum has
-- p bits. Document 000's (2.22), (2.23) and (2.4) in whole units, without pred, succ and the underflow range. Assumes nothing.
use Rattle.std.proofs.Common.{inl, inr, le_of_lt, mul-le-mul_left, arith}
use Rattle.std.specs.Prelude.{ℕ, suc, ◌*◌, ◌^◌, ◌≤◌, ◌<◌}
use Rattle.units.specs.Whole.{Whole, nat, ◌⊕◌, ◌⊖◌, ◌≼◌, ◌≺◌, Within, mag, Multiple}
use Rattle.units.specs.Rounding.{fl, Representable}
use Rattle.units.proofs.Powers.{le_or_lt}
use Rattle.units.proofs.Multiples.{multiple_add, multiple_sub, multiple_finer, multiple_gap}
use Rattle.units.proofs.SignedRounding.{fl_best, fl_multiple}
use Rattle.units.proofs.Shared.{shared}

-- two numbers of p bits that differ do so by the part 1 / (2 ^ p + 1) of either, or more
pub gap : {p : ℕ} {f h : Whole} (d : ℕ) → Representable p f → Representable p h → h ≺ f → f ≼ h ⊕ nat d → Within f (suc (2 ^ p) * d)
gap {p} {f} {h} d F H l u = elim (le_or_lt F.exp H.exp) [
  | inl m ↦ omega (arith, F.small, mul-le-mul_left (2 ^ p) (step F.exp (multiple_sub F.on (multiple_finer m H.on))))
  | inr m ↦ omega (arith, H.small, mul-le-mul_left (2 ^ p) (step H.exp (multiple_sub (multiple_finer (le_of_lt m) F.on) H.on)))
]
  where
    step : (j : ℕ) → Multiple j (f ⊖ h) → 2 ^ j ≤ d
    step j o = omega (arith, multiple_gap o (omega arith))

-- Sterbenz: a difference that is no larger than either number is exact
pub sterbenz : {p : ℕ} {a b : Whole} → Representable p a → Representable p b → Within (a ⊖ b) (mag a) → Within (a ⊖ b) (mag b) → Representable p (a ⊖ b)
sterbenz {p} {a} {b} A B x y = shared (a ⊖ b) A B (λ j m n. multiple_sub m n) x y

-- the error of a rounded sum has p bits
pub error_rep : (p : ℕ) (P : 0 < p) {a b : Whole} → Representable p a → Representable p b → Representable p (a ⊕ b ⊖ fl p (a ⊕ b))
error_rep p P {a} {b} A B =
    shared (a ⊕ b ⊖ fl p (a ⊕ b)) A B (λ j m n. multiple_sub (multiple_add m n) (fl_multiple p P (multiple_add m n)))
    (omega (arith, fl_best p P (a ⊕ b) (mag a) B (omega arith)))
    (omega (arith, fl_best p P (a ⊕ b) (mag b) A (omega arith)))
