-- What an addition or a withdrawal answers and leaves, one law per case of `enter`; a withdrawal is the addition of the opposite number.
-- Assumes nothing.
use Rattle.std.specs.Prelude.{◌≡◌, true, false, List, ℕ, ◌*◌, ◌%◌, ◌^◌, ◌<◌, ℤ, ◌+ℤ◌, ◌-ℤ◌, length}
use Rattle.std.proofs.Common.{sym, ◌∙◌, inl, inr}
use Rattle.std.proofs.Math.Path.{ap}
use Rattle.std.proofs.Math.Decide.{ℕ_discrete}
use borrow.Author.Tests.{eq-eqb, ne_eqb}
use Rattle.std.specs.Float.Ieee.{ones, hid, top}
use Rattle.units.proofs.Powers.{le_or_lt}
use Rattle.lists.specs.Digits.{inside}
use Rattle.kinds.specs.Limits.{doubles}
use Rattle.kinds.specs.Outcome.{outcome}
use Rattle.kinds.specs.Entry.{Refused, Entered}
use Rattle.judge.specs.Judge.{fault_of}
use Rattle.judge.specs.FaultLaws.{fault_0, pattern_0, pattern_2, pattern_3, proper_doubles}
use Rattle.words.specs.Words.{word_count, register_bits, whole_of, words_of}
use Rattle.addend.specs.Addend.{units_of}
use Rattle.addend.specs.OppositePattern.{opposite, opposite_mod}
use Rattle.addend.proofs.RegisterWords.{opposite_units}
use Rattle.register.specs.Register.{enter, added, withdrawn}

module _ (ws : List ℕ) (p : ℕ) (z : ℤ) where
  pub enter_long : (length ws ≡ word_count → ⊥) → enter ws p z ≡ outcome (Refused 4 0) ws
  unfolding enter
  enter_long h = rw (ne_eqb (length ws) word_count h)

  pub enter_bad : length ws ≡ word_count → (fault_of doubles p ≡ 0 → ⊥) → enter ws p z ≡ outcome (Refused (fault_of doubles p) 0) ws
  unfolding enter
  enter_bad l h = rw (eq-eqb (length ws) word_count l, ne_eqb (fault_of doubles p) 0 h)

  pub enter_out : length ws ≡ word_count → fault_of doubles p ≡ 0 → inside register_bits z ≡ false → enter ws p z ≡ outcome (Refused 9 0) ws
  unfolding enter
  enter_out l e h = rw (eq-eqb (length ws) word_count l, eq-eqb (fault_of doubles p) 0 e, h)

  pub enter_in : length ws ≡ word_count → fault_of doubles p ≡ 0 → inside register_bits z ≡ true → enter ws p z ≡ outcome Entered (words_of z)
  unfolding enter
  enter_in l e h = rw (eq-eqb (length ws) word_count l, eq-eqb (fault_of doubles p) 0 e, h)

-- ---- a withdrawal is the addition of the opposite number

-- a number with a fault is refused whatever it would come to, and only its fault counts
module _ (ws : List ℕ) (p : ℕ) where
  whatever : (y z : ℤ) → (fault_of doubles p ≡ 0 → ⊥) → enter ws p y ≡ enter ws p z
  unfolding enter
  whatever y z h = rw (ne_eqb (fault_of doubles p) 0 h)

  by_fault : (q : ℕ) (z : ℤ) → fault_of doubles q ≡ fault_of doubles p → enter ws p z ≡ enter ws q z
  unfolding enter
  by_fault q z e = rw e

-- and that is a matter of the pattern without its sign
fault_mod : (p q : ℕ) → q % top doubles.format ≡ p % top doubles.format → fault_of doubles q ≡ fault_of doubles p
fault_mod p q m = elim (le_or_lt (p % top doubles.format) doubles.magnitude) [
  | inl l ↦ pattern_0 doubles proper_doubles q (rw m l) ∙ sym (pattern_0 doubles proper_doubles p l)
  | inr l ↦ elim (le_or_lt (ones doubles.format * hid doubles.format) (p % top doubles.format)) [
    | inl g ↦ pattern_2 doubles proper_doubles q (rw m g) ∙ sym (pattern_2 doubles proper_doubles p g)
    | inr g ↦ pattern_3 doubles proper_doubles q (rw m g) (rw m l) ∙ sym (pattern_3 doubles proper_doubles p g l)
  ]
]

module _ (p : ℕ) (h : p < 2 ^ 64) where
  q : ℕ
  q = opposite doubles.format p

  pub opposite_fault : fault_of doubles (opposite doubles.format p) ≡ fault_of doubles p
  opposite_fault = fault_mod p (opposite doubles.format p) (opposite_mod doubles.format p h)

  pub withdrawn_added : (ws : List ℕ) → withdrawn ws p ≡ added ws (opposite doubles.format p)
  unfolding q
  withdrawn_added ws = by_fault ws p q (whole_of ws -ℤ units_of doubles p) opposite_fault ∙ elim (ℕ_discrete (fault_of doubles p) 0) [
    | yes e ↦ ap (λ (u : ℤ). enter ws q (whole_of ws +ℤ u)) (sym (opposite_units doubles p h ((fault_0 doubles p).0 e).0))
    | no e ↦ whatever ws q (whole_of ws -ℤ units_of doubles p) (whole_of ws +ℤ units_of doubles q) (λ k. e (sym opposite_fault ∙ k))
  ]
