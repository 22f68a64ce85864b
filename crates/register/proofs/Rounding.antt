-- What rounding a register answers, by the bits of the double nearest to it: a pattern from the infinity's on stands for no finite double. Assumes nothing.
use Rattle.std.specs.Prelude.{◌≡◌, List, ℕ, ◌+◌, ◌*◌, ◌<◌, ◌≤◌, Float, from_bits, if◌then◌else◌, false, nat_abs, length}
use Rattle.std.proofs.Common.{sym, ap, ◌∙◌}
use Rattle.std.specs.Float.{binary64}
use Rattle.std.specs.Float.Ieee.{hid, ones, top}
use Rattle.nearest.specs.declared.bits.Bits.{Bits}
use Rattle.nearest.specs.Bits.{bits_of}
use Rattle.nearest.proofs.NearestBits.{bits_finite, bits_infinite, bits_nearest}
use Rattle.kinds.specs.Nearest.{Sum, Refused}
use Rattle.words.specs.Words.{word_count, whole_of}
use Rattle.register.specs.Register.{rounded}
use Rattle.register.proofs.RoundedLaws.{rounded_beyond, rounded_sum}

module _ (ws : List ℕ) (b : Bits) (l : length ws ≡ word_count) (e : b ≡ bits_of binary64 false (whole_of ws)) where
  magnitude : b.magnitude ≡ (bits_of binary64 false (whole_of ws)).magnitude
  magnitude = ap (λ (b : Bits). b.magnitude) e

  pub beyond : ones binary64 * hid binary64 ≤ b.magnitude → Refused 10 0 ≡ rounded ws
  beyond h = sym (rounded_beyond ws l (bits_infinite binary64 (nat_abs (whole_of ws)) (rw magnitude at h)))

  pub sum : (x : Float) → b.magnitude < ones binary64 * hid binary64
      → x ≡ from_bits binary64 ((if b.negative then top binary64 else 0) + b.magnitude) → Sum x ≡ rounded ws
  sum x h f =
      let l' = (bits_finite binary64 (nat_abs (whole_of ws))).0 (rw magnitude at h) in
      ap Sum (f ∙ ap (λ (b : Bits). from_bits binary64 ((if b.negative then top binary64 else 0) + b.magnitude)) e
      ∙ bits_nearest binary64 false (whole_of ws) l')
      ∙ sym (rounded_sum ws l l')
