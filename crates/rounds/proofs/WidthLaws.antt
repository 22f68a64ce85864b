-- The words of patterns that `enough` and `scaled` work on, one law for both widths. Assumes nothing.
use Rattle.std.specs.Prelude.{◌≡◌, refl, false, not, leb, ℕ, suc, ◌+◌, ◌-◌, ◌*◌, ◌/◌, ◌%◌, ◌^◌, ◌≤◌, ◌<◌, T, Float}
use Rattle.std.proofs.Common.{arith, ◌∙◌}
use Rattle.std.specs.Float.{binary32, binary64}
use Rattle.std.specs.Float.Ieee.{prec, hid, nan_bits, to_bits, le, fits}
use Rattle.ieee.specs.Units.{Number, negative}
use Rattle.ieee.proofs.Pattern.{pattern_no_nan}
use Rattle.exponent.specs.Power.{powers}
use Rattle.kinds.specs.Limits.{Width}
use Rattle.kinds.specs.Known.{Known, is_doubles, is_singles}
use Rattle.rounds.specs.Round.{least_normal}
use Rattle.rounds.specs.Closable.{PowerFrom}
use Rattle.rounds.proofs.PatternLaws.{normal_bits, power_field}

-- the weight of a field
weight : {W : Width} {d s i l m c r : ℕ} → Known W d s i l m c r → 1 * 2 ^ d % 2 ^ 64 ≡ hid W.format
weight is_doubles = refl
weight is_singles = refl

-- which is the least normal number's pattern
pub least_word : {W : Width} {d s i l m c r n p : ℕ} → Known W d s i l m c r → {x : Float} → Number W.format x → negative x ≡ false → n ≡ d
    → p ≡ to_bits W.format x → leb p (1 * 2 ^ n % 2 ^ 64) ≡ le x (least_normal W.format)
least_word {W} K X s n e = rw (n, e, weight K) (normal_bits W.format X s)

-- a pattern q whose field went down and is still one
pub record Lower (W : Width) (k j q : ℕ) : Type 0 where
  pub y : ℕ
  pub pattern : q ≡ suc y * hid W.format
  pub digit : prec W.format - 1 + y ≡ k + j - prec W.format
  pub no_nan : T (not (nan_bits W.format q))

-- the pattern p of 2^k units, of which d digits are stored, and what its field goes down by
pub record Fields (W : Width) (d k j p : ℕ) : Type 0 where
  pub digits : d + 1 ≡ prec W.format
  pub few : d < 64
  pub leading : 0 < 1 * 2 ^ d % 2 ^ 64
  pub field : p / (1 * 2 ^ d % 2 ^ 64) + d ≡ suc k
  pub reach : k < 4096
  pub lower : (d + 1 - j) * 2 ^ d % 2 ^ 64 < p → Lower W k j (p - (d + 1 - j) * 2 ^ d % 2 ^ 64)

fields : {W : Width} {d s i l m c r : ℕ} → Known W d s i l m c r → (k : ℕ) {j p : ℕ} → prec W.format ≤ k → k ≤ powers W.format - 1 → j ≤ prec W.format
    → p ≡ suc (k - (prec W.format - 1)) * hid W.format → Fields W d k j p
fields is_doubles k {j} {p} a b h e = record {
  digits = refl;
  few = omega arith;
  leading = omega arith;
  field = omega arith;
  reach = omega arith;
  lower = λ l. record { y = k + j - 105; pattern = omega arith; digit = omega arith; no_nan = pattern_no_nan binary64 (omega arith) };
}
fields is_singles k {j} {p} a b h e = record {
  digits = refl;
  few = omega arith;
  leading = omega arith;
  field = omega arith;
  reach = omega arith;
  lower = λ l. record { y = k + j - 47; pattern = omega arith; digit = omega arith; no_nan = pattern_no_nan binary32 (omega arith) };
}

-- in the code's own words
pub fields_of : {W : Width} {d s i l m c r n j p : ℕ} → Known W d s i l m c r → {x : Float} (P : PowerFrom W.format (prec W.format) x) → T (fits W.format x)
    → n ≡ d → j ≤ prec W.format → p ≡ to_bits W.format x → Fields W n P.k j p
fields_of {W} K P fit n h e = rw n (fields K P.k P.from P.to h (e ∙ power_field W.format P fit))
