-- How long each line is, and when a refusal's line tells a place. Assumes nothing.
use Rattle.std.specs.Prelude.{◌≡◌, refl, true, false, ◌++◌, ℕ, suc, ◌+◌, ◌^◌, ◌≤◌, ◌<◌, length}
use Rattle.std.proofs.Math.Path.{ap}
use Rattle.std.proofs.Common.{◌∙◌, arith, length-append}
use Rattle.kinds.specs.Limits.{doubles}
use Rattle.kinds.specs.Heard.{Refusal, place_of, tells}
use Rattle.numerals.specs.Numerals.{decimal_of, hex_of, capitals_of}
use Rattle.numerals.specs.Put.{Put}
use Rattle.numerals.specs.declared.Text.{Text}
use Rattle.numerals.proofs.NumeralLaws.{decimal_length}
use Rattle.numerals.proofs.TextLaws.{put_room}
use Rattle.lines.specs.Lines.{refused_word, at_word, line_end, count_line, faithful_line, refused_line, longest}

pub hex_length : (p : ℕ) → length (hex_of p) ≡ 16
unfolding capitals_of
hex_length p = refl

pub count_length : (n : ℕ) → length (count_line n) ≡ 7 + length (decimal_of n)
unfolding count_line
count_length n = simp length-append (omega arith)

pub faithful_length : (p rounds : ℕ) → length (faithful_line p rounds) ≡ 34 + length (decimal_of rounds)
unfolding faithful_line
faithful_length p rounds = simp (length-append, hex_length) (omega arith)

-- rules L4 and WR3
pub counted_length : (n : ℕ) → n ≤ doubles.length → length (decimal_of n) ≤ 4
counted_length n h = decimal_length 3 n (omega arith)

pub rounds_length : (rounds : ℕ) → rounds ≤ suc doubles.rounds → length (decimal_of rounds) ≤ 2
rounds_length rounds h = decimal_length 1 rounds (omega arith)

-- a refusal's number or place
pub word_length : (k : ℕ) → k < 2 ^ 32 → length (decimal_of k) ≤ 10
word_length k h = decimal_length 9 k (omega arith)

-- any word of 64 bits, and the room behind a refusal's in an area for the longest lines
pub wide_length : (n : ℕ) → n < 2 ^ 64 → length (decimal_of n) ≤ 20
wide_length n h = decimal_length 19 n (omega arith)

pub numbered_room : {n : ℕ} {t u : Text} → n < 2 ^ 64 → t.end + longest ≤ length t.area.now → Put (refused_word ++ decimal_of n) t u
    → u.end + 44 ≤ length u.area.now
numbered_room {n} h room P = put_room 44 (omega (arith, wide_length n h)) P

-- ---- a refusal's place
module _ {k p : ℕ} (R : Refusal doubles.length k p) where
  pub line_told : tells k ≡ true → refused_line k (place_of k p) ≡ refused_word ++ decimal_of k ++ (at_word ++ decimal_of p) ++ line_end
  unfolding refused_line
  line_told t = ap (refused_line k) R.as_told ∙ rw t

  pub line_silent : tells k ≡ false → refused_line k (place_of k p) ≡ refused_word ++ decimal_of k ++ line_end
  unfolding refused_line
  line_silent t = ap (refused_line k) R.as_told ∙ rw t
