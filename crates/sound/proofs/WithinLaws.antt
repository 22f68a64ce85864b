-- Two comparisons of floats that a number has to pass, and no NaN does: it lies between a limit and its negative exactly where it is finite and no larger.
-- Assumes nothing.
use Rattle.std.specs.Prelude.{◌≡◌, refl, Bool, ◌&&◌, ℕ, ◌+◌, ◌≤◌, T, Float}
use Rattle.std.proofs.Common.{ap, arith, leb→le, le→leb}
use Rattle.std.proofs.Math.Bool.{true, false}
use Rattle.std.proofs.Math.Dec.{leb}
use Rattle.std.specs.Float.{nan, inf, fin, Format}
use Rattle.std.specs.Float.Ieee.{le, lt, eq, neg, fits}
use Rattle.std.specs.Float.Ieee.Fits.{and_i, and_l, and_r}
use Rattle.std.specs.Float.Ieee.Scale.{finite}
use Rattle.units.specs.Whole.{nat}
use Rattle.ieee.specs.Units.{Number, negative, magnitude, signed_whole, whole}
use Rattle.ieee.proofs.Fractions.{same_test}
use Rattle.ieee.proofs.Compare.{le_units}
use Rattle.lists.proofs.Apart.{apart}
use Rattle.ieee.proofs.Sum.{neg_number, neg_whole}

-- two tests of numbers that come to one
both : (a b c d m n : ℕ) → (m ≤ n → (a ≤ b) × (c ≤ d)) → (a ≤ b → c ≤ d → m ≤ n) → (leb a b && leb c d) ≡ leb m n
both a b c d m n h k =
    same_test (leb a b && leb c d) (leb m n)
    (λ t. le→leb m n (k (leb→le a b (and_l (leb a b) (leb c d) t)) (leb→le c d (and_r (leb a b) (leb c d) t))))
    (λ t. let g = h (leb→le m n t) in and_i (leb a b) (leb c d) (le→leb a b g.0) (le→leb c d g.1))

-- what a positive number is in units
pub positive_whole : (f : Format) (x : Float) → negative x ≡ false → whole f x ≡ nat (magnitude f x)
unfolding whole
positive_whole f x s = ap (λ (b : Bool). signed_whole b (magnitude f x)) s

-- what is no number does not lie between two numbers
outside : (a x b : Float) → T (finite a) → T (finite b) → finite x ≡ false → (le a x && le x b) ≡ false
unfolding le lt eq
outside nan x b A B n = absurd A
outside (inf s) x b A B n = absurd A
outside (fin s m e) x nan A B n = absurd B
outside (fin s m e) x (inf t) A B n = absurd B
outside (fin s m e) nan (fin t k d) A B n = refl
outside (fin s m e) (inf true) (fin t k d) A B n = refl
outside (fin s m e) (inf false) (fin t k d) A B n = refl
outside (fin s m e) (fin r j c) (fin t k d) A B n = apart (cc)

module _ (f : Format) (x : Float) (fit : T (fits f x)) where
  -- by whether x is a number
  cases : (c : Bool) (a b : Float) → T (finite a) → T (finite b) → (Number f x → (le a x && le x b) ≡ c) → (le a x && le x b) ≡ (finite x && c)
  cases c a b A B h = go (finite x) refl
    where
      go : (t : Bool) → finite x ≡ t → (le a x && le x b) ≡ (finite x && c)
      go true e = rw e (h (record { fit = fit; fini = rw e tt }))
      go false e = rw e (outside a x b A B e)

  -- ---- between a limit and its negative
  module _ {b : Float} (B : Number f b) (s : negative b ≡ false) where
    inside : Number f x → (le (neg b) x && le x b) ≡ leb (magnitude f x) (magnitude f b)
    unfolding whole
    inside X =
        rw (le_units f (neg b) x (neg_number f b B) X, le_units f x b X B, neg_whole f b B.fini, positive_whole f b s)
        (by (negative x) (magnitude f x) (magnitude f b))
      where
        by : (t : Bool) (n m : ℕ) →
            (leb (0 + (signed_whole t n).dn) ((signed_whole t n).up + m) && leb ((signed_whole t n).up + 0) (m + (signed_whole t n).dn)) ≡ leb n m
        by false n m = both (0 + 0) (n + m) (n + 0) (m + 0) n m (omega arith) (omega arith)
        by true n m = both (0 + n) (0 + m) (0 + 0) (m + n) n m (omega arith) (omega arith)

    pub within : (le (neg b) x && le x b) ≡ (finite x && leb (magnitude f x) (magnitude f b))
    within = cases (leb (magnitude f x) (magnitude f b)) (neg b) b (neg_number f b B).fini B.fini inside
