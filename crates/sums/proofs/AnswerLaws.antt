-- What the nearest sum and the parts answer, case by case: as the list is judged. Assumes nothing.
use Rattle.std.proofs.Common.{inl, inr, sym, ap, ◌∙◌, ne_eqb, not-le_of_lt, pow_pos}
use Rattle.std.specs.Prelude.{◌≡◌, Bool, false, List, map, ℕ, suc, ◌-◌, ◌^◌, ◌≤◌, eqb, ℤ, nat_abs, ◌-ℤ◌, length, Float}
use Rattle.std.proofs.Math.Dec.{eqb-suc-zero}
use Rattle.units.specs.Whole.{exact_sum}
use Rattle.units.proofs.Powers.{le_or_lt}
use Rattle.ieee.specs.Units.{value, nearest_float}
use Rattle.lists.specs.Digits.{number}
use Rattle.lists.proofs.TwosComplement.{signed_low, signed_high}
use Rattle.words.specs.Words.{word_bits, register_bits, whole_of}
use Rattle.kinds.specs.Limits.{Width}
use Rattle.kinds.specs.Outcome.{outcome}
use Rattle.kinds.specs.Verdict.{Verdict}
use Rattle.kinds.specs.Verdict as verdicts
use Rattle.kinds.specs.Nearest as nearests
use Rattle.kinds.specs.Parted as parteds
use Rattle.judge.specs.Judge.{zero_sign}
use Rattle.sums.specs.Sums.{sum_of, nearest_after, parts, add_up, parts_after}
use Rattle.sums.specs.PartsLaws.{remaining, parts_left}

module _ (W : Width) (ps : List ℕ) where
  pub nearest_good : {v : Verdict} → v ≡ verdicts.Good
      → nearest_after W v ps ≡ nearests.Sum (nearest_float W.format (zero_sign W ps) (sum_of W.format ps))
  unfolding nearest_after
  nearest_good e = rw e

  pub nearest_refused : {v : Verdict} (k p : ℕ) → v ≡ verdicts.Refused k p → nearest_after W v ps ≡ nearests.Refused k p
  unfolding nearest_after
  nearest_refused k p e = rw e

  pub parts_refused : {v : Verdict} (area : List Float) (k p : ℕ) → v ≡ verdicts.Refused k p → outcome (parteds.Refused k p) area ≡ parts_after W v ps area
  unfolding parts_after
  parts_refused area k p e = rw e

-- ---- words that stand for zero are all zero
pub whole_zero : (ws : List ℕ) → eqb (number word_bits ws) 0 ≡ eqb (nat_abs (whole_of ws)) 0
whole_zero ws = elim (le_or_lt (2 ^ (register_bits - 1)) u) [
  | inr l ↦ rw (signed_low register_bits l)
  | inl h ↦ some h ∙ sym (ap (λ (z : ℤ). eqb (nat_abs z) 0) (signed_high register_bits h) ∙ eqb-suc-zero (2 ^ register_bits - suc u))
]
  where
    u : ℕ
    u = number word_bits ws

    some : 2 ^ (register_bits - 1) ≤ u → eqb u 0 ≡ false
    some h = ne_eqb u 0 (λ (e : u ≡ 0). not-le_of_lt (pow_pos (register_bits - 1)) (rw e at h))

-- ---- the parts of an allowed list, from the words and the area that are left
pub parts_answer : (W : Width) {v : Verdict} (ps ws : List ℕ) (area xs : List Float) (z b : Bool) → v ≡ verdicts.Good → z ≡ zero_sign W ps
    → xs ≡ parts W.format (length area) z (sum_of W.format ps)
    → whole_of ws ≡ remaining W.format (length area) z (sum_of W.format ps) → b ≡ eqb (number word_bits ws) 0
    → outcome (parteds.Parts b) xs ≡ parts_after W v ps area
unfolding parts_after
parts_answer W ps ws area xs z b e zs x w n = rw (e, ← zs) (λ i. record { answer = parteds.Parts (adds i); area = x i })
  where
    S : ℤ
    S = sum_of W.format ps

    same : whole_of ws ≡ S -ℤ exact_sum (map (value W.format) (parts W.format (length area) z S))
    same = w ∙ sym (parts_left W.format (length area) z S)

    adds : b ≡ add_up W.format (parts W.format (length area) z S) S
    adds = n ∙ whole_zero ws ∙ ap (λ (r : ℤ). eqb (nat_abs r) 0) same
