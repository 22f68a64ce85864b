-- FastTwoSum is exact: where x is a + b rounded, q is x - a rounded and y is b - q rounded, x + y is a + b. Document 000's Lemma 2.10, with its bound on b
-- strict: a and b are multiples of 2 ^ j and |b| < 2 ^ (p + j). (At p = 3, a = 3, b = 8: x = 12, q = fl(9) = 8, y = 0, and 12 is not 11.) Assumes nothing.
use Rattle.std.proofs.Math.Logic.{inl, inr}
use Rattle.std.specs.Prelude.{ℕ, zero, suc, ◌+◌, ◌*◌, ◌^◌, ◌≤◌, ◌<◌}
use Rattle.std.proofs.Math.Nat.{pow-succ'}
use Rattle.std.proofs.Common.{arith}
use Rattle.units.specs.Whole.{Whole, nat, ◌⊕◌, ◌⊖◌, neg, ◌⊗◌, ◌≈◌, ◌≼◌, Within, Under, mag, Multiple}
use Rattle.units.specs.Rounding.{fl, Representable}
use Rattle.units.proofs.Powers.{le_or_lt}
use Rattle.units.proofs.Multiples.{multiple_add, multiple_sub, multiple_one, multiple_gap}
use Rattle.units.proofs.SignedRounding.{rep_neg, rep_same, fl_exact, fl_below, fl_above, fl_rep, fl_half, fl_multiple}
use Rattle.units.proofs.Distance.{sterbenz}

module _ (p : ℕ) (P : 0 < p) where
  -- 2 a has p bits, and so has half of a unless a is small
  twice : {a : Whole} → Representable p a → Representable p (a ⊕ a)
  twice A = record {
    exp = suc A.exp;
    on = record { count = A.on.count; is = rw (pow-succ' 2 A.exp) (omega (arith, A.on.is)) };
    small = rw (pow-succ' 2 A.exp) (omega (arith, A.small));
  }

  data Halved (a : Whole) : Type 0 where
    small : Within a (2 ^ p) → Halved a
    half : {h : Whole} → Representable p h → h ⊕ h ≈ a → Halved a

  halve : {a : Whole} → Representable p a → Halved a
  halve {a} A = go A.exp A.on A.small
    where
      go : (e : ℕ) → Multiple e a → Within a (2 ^ p * 2 ^ e) → Halved a
      go zero o s = small (omega arith)
      go (suc e) o s = half {h = 2 ^ e ⊗ o.count} rep same
        where
          same : 2 ^ e ⊗ o.count ⊕ 2 ^ e ⊗ o.count ≈ a
          same = omega (arith, rw (pow-succ' 2 e) at o.is)

          rep : Representable p (2 ^ e ⊗ o.count)
          rep = record { exp = e; on = record { count = o.count; is = omega arith }; small = omega (arith, rw (pow-succ' 2 e) at s, same) }

  -- Dekker: where |b| ≤ a, the rounded sum less a is exact
  dekker_above : {a b : Whole} → Representable p a → Representable p b → nat 0 ≼ a → neg a ≼ b → b ≼ a → Representable p (fl p (a ⊕ b) ⊖ a)
  dekker_above {a} {b} A B h k l = elim (le_or_lt b.dn b.up) [
    | inl up ↦
        let lo : a ≼ x = fl_above p P (a ⊕ b) A (omega arith) in
        let hi : x ≼ a ⊕ a = fl_below p P (a ⊕ b) (twice A) (omega arith) in
        sterbenz X A (omega arith) (omega arith)
    | inr dn ↦ elim (le_or_lt (a.up + 2 * b.up) (a.dn + 2 * b.dn)) [
      | inl n ↦ summed (sterbenz A (rep_neg B) (omega arith) (omega arith))
      | inr n ↦ less (halve A) dn n
    ]
  ]
    where
      x : Whole
      x = fl p (a ⊕ b)

      X : Representable p x
      X = fl_rep p P (a ⊕ b)

      -- the sum is exact
      summed : Representable p (a ⊕ b) → Representable p (x ⊖ a)
      summed R = rep_same (omega (arith, fl_exact p P R)) B

      less : Halved a → b.up < b.dn → a.dn + 2 * b.dn < a.up + 2 * b.up → Representable p (x ⊖ a)
      less (small s) dn n = summed (record { exp = 0; on = multiple_one (a ⊕ b); small = omega arith })
      less (half H e) dn n =
          let lo = fl_above p P (a ⊕ b) H (omega arith) in
          let hi : x ≼ a = fl_below p P (a ⊕ b) A (omega arith) in
          sterbenz X A (omega arith) (omega arith)

  dekker : {a b : Whole} → Representable p a → Representable p b → Within b (mag a) → Representable p (fl p (a ⊕ b) ⊖ a)
  unfolding fl
  dekker {a} {b} A B h = elim (le_or_lt a.dn a.up) [
    | inl l ↦ dekker_above A B (omega arith) (omega arith) (omega arith)
    | inr l ↦ rep_neg (dekker_above (rep_neg A) (rep_neg B) (omega arith) (omega arith) (omega arith))
  ]

  module _ {a b : Whole} (j : ℕ) (A : Representable p a) (B : Representable p b) (x : Multiple j a) (y : Multiple j b) (h : Under b (2 ^ p * 2 ^ j)) where
    pub two_sum_difference : Representable p (fl p (a ⊕ b) ⊖ a)
    two_sum_difference = elim (le_or_lt (mag a) (2 ^ p * 2 ^ j)) [
      | inl l ↦ record { exp = j; on = multiple_sub (fl_multiple p P (multiple_add x y)) x; small = omega (arith, near l, short⁺, short⁻) }
      | inr l ↦ dekker A B (omega arith)
    ]
      where
        top : Multiple j (nat (2 ^ p * 2 ^ j))
        top = record { count = nat (2 ^ p); is = omega arith }

        -- b is a place short of 2 ^ (p + j)
        short⁺ : nat (2 ^ j) ≼ nat (2 ^ p * 2 ^ j) ⊖ b
        short⁺ = multiple_gap (multiple_sub top y) (omega arith)

        short⁻ : nat (2 ^ j) ≼ nat (2 ^ p * 2 ^ j) ⊕ b
        short⁻ = multiple_gap (multiple_add top y) (omega arith)

        near : mag a ≤ 2 ^ p * 2 ^ j → Within (2 ⊗ (fl p (a ⊕ b) ⊖ (a ⊕ b))) (2 * 2 ^ j)
        near l = rw (pow-succ' 2 j) at (fl_half p P (a ⊕ b) (suc j) (rw (pow-succ' 2 j) (omega arith)))
