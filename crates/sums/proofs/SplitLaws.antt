-- One part taken out of a register's words: the pattern withdrawn is the part's, the words stand for what is left, and a loop over the parts goes on.
-- Assumes nothing.
use mathlib.Core.Path.{◌≡◌, refl, sym, ap, ◌∙◌}
use mathlib.Core.Bool.{Bool, false, not}
use mathlib.Core.List.{List, ◌++◌}
use Prim.Native.Nat.{ℕ, ◌+◌, ◌-◌, ◌≤◌, ◌<◌}
use native.Mathlib.Nat.{lt_of_le_of_lt}
use native.Mathlib.Omega.{arith}
use lib.Dec.{T}
use lib.IntN.{ℤ, ◌-ℤ◌, nat_abs}
use lib.ListN.{length, take, set, length-set}
use lib.Seq.{take_all}
use lib.Ieee.{Float, of_bits, to_bits, is_nan}
use lib.Ieee.Bits.{of_bits-to_bits}
use lib.Ieee.Scale.{finite}
use Rattle.ieee.specs.Units.{value, nearest_float, limit}
use Rattle.ieee.proofs.Finite.{finite_no_nan}
use Rattle.ieee.proofs.Nearest.{nearest_number}
use Rattle.kinds.specs.Limits.{doubles}
use Rattle.words.specs.Words.{word_count, whole_of, words_of}
use Rattle.addend.specs.Addend.{units_of}
use Rattle.sums.specs.Sums.{parts}
use Rattle.sums.specs.PartsLaws.{left_smaller, remaining, remaining_none, remaining_next, parts_none, parts_next}
use Rattle.sums.proofs.SumLaws.{whole_words}

module _ {part : Float} (z : Bool) (S : ℤ) (l : nat_abs S < limit doubles.format) (e : part ≡ nearest_float doubles.format z S) where
  pub part_no_nan : T (not (is_nan part))
  part_no_nan = rw e (finite_no_nan (nearest_float doubles.format z S) (nearest_number doubles.format z S l).fini)

  part_back : of_bits doubles.format (to_bits doubles.format part) ≡ part
  part_back = rw e (of_bits-to_bits doubles.format (nearest_float doubles.format z S) (nearest_number doubles.format z S l).fit)

  pub part_finite : T (finite (of_bits doubles.format (to_bits doubles.format part)))
  part_finite = rw (part_back, e) (nearest_number doubles.format z S l).fini

  left_below : nat_abs (S -ℤ value doubles.format (nearest_float doubles.format z S)) < limit doubles.format
  left_below = lt_of_le_of_lt (left_smaller doubles.format z S l) l

  -- the words after the withdrawal
  pub part_left : {ws : List ℕ} → ws ≡ words_of (S -ℤ units_of doubles (to_bits doubles.format part))
      → (whole_of ws ≡ S -ℤ value doubles.format (nearest_float doubles.format z S)) × (nat_abs (whole_of ws) < limit doubles.format)
  part_left {ws} w = (whole, rw whole left_below)
    where
      units : units_of doubles (to_bits doubles.format part) ≡ value doubles.format (nearest_float doubles.format z S)
      units = ap (value doubles.format) (part_back ∙ e)

      whole : whole_of ws ≡ S -ℤ value doubles.format (nearest_float doubles.format z S)
      whole =
          ap whole_of (w ∙ ap (λ (u : ℤ). words_of (S -ℤ u)) units)
          ∙ whole_words doubles.format (S -ℤ value doubles.format (nearest_float doubles.format z S)) left_below

-- ---- a loop over n parts of S: i of them stand in the area, the words hold what is left, and the next zero has the sign `sign`
pub record Splitting (n : ℕ) (z : Bool) (S : ℤ) (ws : List ℕ) (area : List Float) (sign : Bool) (i : ℕ) : Type 0 where
  pub long : length ws ≡ word_count
  pub wide : length area ≡ n
  pub inside : i ≤ n
  pub below : nat_abs (whole_of ws) < limit doubles.format
  pub done : parts doubles.format n z S ≡ take i area ++ parts doubles.format (n - i) sign (whole_of ws)
  pub left : remaining doubles.format n z S ≡ remaining doubles.format (n - i) sign (whole_of ws)

pub splitting_begins : {ws : List ℕ} (area : List Float) (z : Bool) → length ws ≡ word_count → nat_abs (whole_of ws) < limit doubles.format
    → Splitting (length area) z (whole_of ws) ws area z 0
splitting_begins area z l b =
    let n : length area - 0 ≡ length area = omega arith in
    record { long = l; wide = refl; inside = omega arith; below = b; done = rw n; left = rw n }

module _ {n : ℕ} {z : Bool} {S : ℤ} {ws : List ℕ} {area : List Float} {sign : Bool} {i : ℕ} (I : Splitting n z S ws area sign i) where
  pub splitting_goes_on : {part : Float} (es : List ℕ) → i < n → part ≡ nearest_float doubles.format sign (whole_of ws) → length es ≡ word_count
      → es ≡ words_of (whole_of ws -ℤ units_of doubles (to_bits doubles.format part)) → Splitting n z S es (set area i part) false (i + 1)
  splitting_goes_on {part} es h e l w = record {
    long = l;
    wide = length-set area i part ∙ I.wide;
    inside = omega arith;
    below = p.1;
    done = I.done ∙ rw (p.0, e) next;
    left = I.left ∙ rw p.0 (remaining_next doubles.format n i sign (whole_of ws) h);
  }
    where
      p : (whole_of es ≡ whole_of ws -ℤ value doubles.format (nearest_float doubles.format sign (whole_of ws)))
          × (nat_abs (whole_of es) < limit doubles.format)
      p = part_left sign (whole_of ws) I.below e w

      next : take i area ++ parts doubles.format (n - i) sign (whole_of ws)
          ≡ take (i + 1) (set area i (nearest_float doubles.format sign (whole_of ws)))
          ++ parts doubles.format (n - (i + 1)) false (whole_of ws -ℤ value doubles.format (nearest_float doubles.format sign (whole_of ws)))
      next = rw I.wide at (parts_next doubles.format area i sign (whole_of ws) (rw I.wide h))

  pub splitting_ends : n ≤ i → (area ≡ parts doubles.format n z S) × (whole_of ws ≡ remaining doubles.format n z S)
  splitting_ends h = (sym (I.done ∙ rw (none, take_all i area (rw I.wide h)) all), sym (I.left ∙ rw none last))
    where
      none : n - i ≡ 0
      none = omega arith

      all : area ++ parts doubles.format 0 sign (whole_of ws) ≡ area
      all = parts_none doubles.format sign (whole_of ws) area

      last : remaining doubles.format 0 sign (whole_of ws) ≡ whole_of ws
      last = remaining_none doubles.format sign (whole_of ws)
