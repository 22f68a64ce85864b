-- The register's words after a sum: a carry equation on their numbers gives every word; and the units of a pattern and of its opposite. Assumes nothing.
use Rattle.std.specs.Prelude.{◌≡◌, List, ℕ, ◌*◌, ◌≤◌, ◌<◌, T, pos, neg_ℤ, ◌+ℤ◌, ◌-ℤ◌, length, get_or}
use Rattle.std.proofs.Common.{sym, ap, ◌∙◌, lit<, Fits}
use Rattle.std.specs.Float.Ieee.{of_bits, top}
use Rattle.std.specs.Float.Ieee.Scale.{finite}
use Rattle.std.specs.Int.{w64}
use Rattle.kinds.specs.Limits.{Width}
use Rattle.lists.specs.Carry.{two, Carried}
use Rattle.lists.proofs.SignedDigits.{cut_add, cut_sub}
use Rattle.words.specs.Words.{word_bits, word_count, whole_of, words_of}
use Rattle.addend.specs.Addend.{units_of, Held, AtWord}
use Rattle.addend.specs.PatternFields.{pattern_plus, pattern_minus}
use Rattle.addend.specs.OppositePattern.{opposite, opposite_value}

-- words of the language are such
pub held : {ws : List ℕ} → length ws ≡ word_count → ((i : ℕ) → Fits w64 (get_or ws i 0)) → Held ws
held l f = record { long = l; below = record { below = λ i. (f i).fits } }

-- ---- es is ws and m, or ws less m, cut off at 2112 bits
module _ {ws es : List ℕ} (W : Held ws) (E : Held es) {m r : ℕ} where
  pub rises : Carried word_bits ws m es (length ws) r → es ≡ words_of (whole_of ws +ℤ pos m)
  rises C = cut_add word_bits word_count (lit< tt) m r W E (rw W.long at C.total)

  pub falls : Carried word_bits es m ws (length ws) r → es ≡ words_of (whole_of ws -ℤ pos m)
  falls C = cut_sub word_bits word_count (lit< tt) m r W E (rw W.long at C.total)

-- ---- the units of a pattern, from its place
module _ (W : Width) {p k lo hi : ℕ} (F : T (finite (of_bits W.format p))) (P : AtWord W.format p k lo hi) where
  pub units_plus : p < top W.format → units_of W p ≡ pos (two word_bits k lo hi)
  units_plus h = pattern_plus W.format p F h ∙ ap pos (sym P.units)

  pub units_minus : top W.format ≤ p → units_of W p ≡ neg_ℤ (pos (two word_bits k lo hi))
  units_minus h = pattern_minus W.format p F h ∙ ap (λ (m : ℕ). neg_ℤ (pos m)) (sym P.units)

pub opposite_units : (W : Width) (p : ℕ) → p < 2 * top W.format → T (finite (of_bits W.format p))
    → units_of W (opposite W.format p) ≡ neg_ℤ (units_of W p)
opposite_units W = opposite_value W.format
