-- Whether a sum of the register and an allowed number is in range, read from the top bits before and after, and that taking the number again gives the
-- words back. Assumes nothing.
use mathlib.Core.Path.{◌≡◌, sym, ap, ◌∙◌}
use mathlib.Core.Logic.{inl, inr}
use mathlib.Core.Bool.{Bool, true, false, not}
use mathlib.Core.List.{List}
use Prim.Native.Nat.{ℕ, ◌-◌, ◌^◌, ◌≤◌}
use native.Mathlib.Nat.{le_trans}
use borrow.Author.Tests.{lt-ltb, le-ltb}
use lib.Dec.{lit<, lit≤}
use lib.IntN.{ℤ, neg_ℤ, ◌+ℤ◌, ◌-ℤ◌, +ℤ-neg_ℤ_cancel}
use lib.Ieee.{top}
use Rattle.units.proofs.Powers.{le_or_lt}
use Rattle.addend.specs.PatternFields.{pattern_plus, pattern_minus}
use Rattle.lists.specs.Digits.{inside}
use Rattle.lists.proofs.SignedDigits.{cut_plus, cut_whole, cut_plus_inside, cut_minus_inside}
use Rattle.kinds.specs.Limits.{doubles}
use Rattle.kinds.specs.Outcome.{outcome}
use Rattle.kinds.specs.Entry.{Refused, Entered}
use Rattle.judge.specs.Judge.{fault_of}
use Rattle.judge.specs.Table.{size_of}
use Rattle.judge.specs.FaultLaws.{fault_0, most_doubles}
use Rattle.words.specs.Words.{word_bits, word_count, register_bits, whole_of, words_of}
use Rattle.addend.specs.Addend.{units_of, Held}
use Rattle.register.specs.Register.{added}
use Rattle.register.specs.Signs.{sign_bit, leaves}
use Rattle.register.proofs.EnterLaws.{enter_out, enter_in}

module _ {ws : List ℕ} (W : Held ws) where
  pub undone : (u : ℤ) → words_of (whole_of (words_of (whole_of ws +ℤ u)) -ℤ u) ≡ ws
  undone u =
      cut_plus word_bits word_count (lit< tt) (neg_ℤ u) (whole_of ws +ℤ u) ∙ ap words_of (+ℤ-neg_ℤ_cancel (whole_of ws) u)
      ∙ cut_whole word_bits word_count (lit< tt) W

  pub in_range_lem : (p : ℕ) → fault_of doubles p ≡ 0
      → inside register_bits (whole_of ws +ℤ units_of doubles p) ≡ not (leaves p (sign_bit ws) (sign_bit (words_of (whole_of ws +ℤ units_of doubles p))))
  in_range_lem p e =
      let a = (fault_0 doubles p).0 e in
      let small : size_of doubles p ≤ 2 ^ (register_bits - 1) = le_trans (rw most_doubles at a.1) (lit≤ tt) in
      elim (le_or_lt (top doubles.format) p) [
        | inl h ↦
            rw (le-ltb p (top doubles.format) h, pattern_minus doubles.format p a.0 h)
            (cut_minus_inside word_bits (lit< tt) (word_count - 1) (size_of doubles p) W small)
        | inr h ↦
            rw (lt-ltb p (top doubles.format) h, pattern_plus doubles.format p a.0 h)
            (cut_plus_inside word_bits (lit< tt) (word_count - 1) (size_of doubles p) W small)
      ]

-- ---- so an addition of p that left the words es is entered, or is refused and undone
module _ {ws es : List ℕ} (W : Held ws) (p : ℕ) (e : fault_of doubles p ≡ 0) (s : es ≡ words_of (whole_of ws +ℤ units_of doubles p)) where
  out : (b : Bool) → leaves p (sign_bit ws) (sign_bit es) ≡ b → inside register_bits (whole_of ws +ℤ units_of doubles p) ≡ not b
  out b l = in_range_lem W p e ∙ ap not (rw s at l)

  pub stayed : leaves p (sign_bit ws) (sign_bit es) ≡ false → outcome Entered es ≡ added ws p
  stayed l = rw s (sym (enter_in ws p (whole_of ws +ℤ units_of doubles p) W.long e (out false l)))

  pub left : {vs : List ℕ} → leaves p (sign_bit ws) (sign_bit es) ≡ true → vs ≡ words_of (whole_of es -ℤ units_of doubles p)
      → outcome (Refused 9 0) vs ≡ added ws p
  left l v = rw (v, s, undone W (units_of doubles p)) (sym (enter_out ws p (whole_of ws +ℤ units_of doubles p) W.long e (out true l)))
