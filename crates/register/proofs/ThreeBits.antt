-- Whether the sum of two registers is in range, read from the top bits of both and of the sum: what a merge answers. Assumes nothing.
use mathlib.Core.Path.{◌≡◌, sym, ap, ◌∙◌}
use mathlib.Core.Bool.{Bool, true, false, not}
use mathlib.Core.List.{List}
use Prim.Native.Nat.{ℕ, ◌-◌}
use lib.Dec.{lit<}
use lib.IntN.{◌+ℤ◌}
use Rattle.lists.specs.Digits.{inside}
use Rattle.lists.proofs.SignedSums.{cut_sum_inside}
use Rattle.kinds.specs.Outcome.{outcome}
use Rattle.kinds.specs.Entry.{Refused, Entered}
use Rattle.words.specs.Words.{word_bits, word_count, register_bits, whole_of, words_of}
use Rattle.addend.specs.Addend.{Held}
use Rattle.addend.proofs.RegisterWords.{held}
use Rattle.std.proofs.Common.{Fits, w64, get_or}
use Rattle.register.specs.Signs.{sign_bit, crosses}
use Rattle.register.specs.Merge.{merged, ThreeRegisters}
use Rattle.register.proofs.MergeLaws.{merged_out, merged_in}

-- ss has the words of the sum
module _ {us vs out ss : List ℕ} (U : Held us) (W : Held vs) (T : ThreeRegisters us vs out) (s : ss ≡ words_of (whole_of us +ℤ whole_of vs)) where
  range : (b : Bool) → crosses (sign_bit us) (sign_bit vs) (sign_bit ss) ≡ b → inside register_bits (whole_of us +ℤ whole_of vs) ≡ not b
  range b e = cut_sum_inside word_bits (lit< tt) (word_count - 1) U W ∙ ap not (rw s at e)

  pub crossed : crosses (sign_bit us) (sign_bit vs) (sign_bit ss) ≡ true → outcome (Refused 9 0) out ≡ merged us vs out
  crossed e = sym (merged_out us vs out T (range true e))

  -- and so has what was written
  pub fits : {es : List ℕ} → es ≡ words_of (whole_of us +ℤ whole_of vs) → crosses (sign_bit us) (sign_bit vs) (sign_bit ss) ≡ false
      → outcome Entered es ≡ merged us vs out
  fits h e = rw h (sym (merged_in us vs out T (range false e)))

-- the same of what is left of both registers, as the code holds them
module _ {us vs out ss : List ℕ} (U : (i : ℕ) → Fits w64 (get_or us i 0)) (V : (i : ℕ) → Fits w64 (get_or vs i 0)) (T : ThreeRegisters us vs out)
    (s : ss ≡ words_of (whole_of us +ℤ whole_of vs)) where
  pub merged_crossed : crosses (sign_bit us) (sign_bit vs) (sign_bit ss) ≡ true → outcome (Refused 9 0) out ≡ merged us vs out
  merged_crossed = crossed (held T.first U) (held T.second V) T s

  pub merged_fits : {es : List ℕ} → es ≡ words_of (whole_of us +ℤ whole_of vs) → crosses (sign_bit us) (sign_bit vs) (sign_bit ss) ≡ false
      → outcome Entered es ≡ merged us vs out
  merged_fits = fits (held T.first U) (held T.second V) T s
