-- A power of two's pattern as a word: it doesn't wrap, and is a number's. Assumes nothing.
use Rattle.std.specs.Prelude.{◌≡◌, ℕ, suc, ◌+◌, ◌-◌, ◌*◌, ◌/◌, ◌%◌, ◌^◌, ◌≤◌, ◌<◌}
use Rattle.std.proofs.Common.{arith}
use Rattle.std.proofs.Math.Pow.{pow-lt}
use Rattle.std.specs.Float.Ieee.{prec, hid, ones, top}
use Rattle.kinds.specs.Limits.{Width}
use Rattle.exponent.specs.Power.{powers}
use Rattle.kinds.specs.Known.{Known, is_doubles, is_singles}

-- ---- below the digits that are stored, one digit
pub record Low (W : Width) (d k : ℕ) : Type 0 where
  pub word : 1 * 2 ^ k % 2 ^ 64 ≡ 2 ^ k
  pub number : 2 ^ k < ones W.format * hid W.format
  pub fits : 2 ^ k < 2 * top W.format
  pub digit : k < prec W.format - 1

pub low_word : {W : Width} {d s i l m c r : ℕ} → Known W d s i l m c r → (k : ℕ) → k < d → Low W d k
low_word is_doubles k h = let l : 2 ^ k < 2 ^ 52 = pow-lt h in record { word = omega arith; number = omega arith; fits = omega arith; digit = omega arith }
low_word is_singles k h = let l : 2 ^ k < 2 ^ 23 = pow-lt h in record { word = omega arith; number = omega arith; fits = omega arith; digit = omega arith }

-- ---- from there on, a field
pub record High (W : Width) (d k : ℕ) : Type 0 where
  pub word : (k + 1 - d) * 2 ^ d % 2 ^ 64 ≡ suc (k - d) * hid W.format
  pub number : suc (k - d) * hid W.format < ones W.format * hid W.format
  pub fits : suc (k - d) * hid W.format < 2 * top W.format
  pub digit : prec W.format - 1 + (k - d) ≡ k

pub high_word : {W : Width} {d s i l m c r : ℕ} → Known W d s i l m c r → (k : ℕ) → d ≤ k → k < powers W.format → High W d k
high_word is_doubles k l h = record { word = omega arith; number = omega arith; fits = omega arith; digit = omega arith }
high_word is_singles k l h = record { word = omega arith; number = omega arith; fits = omega arith; digit = omega arith }

-- ---- a number's pattern as digits and a field
pub record Digits (W : Width) (d p : ℕ) : Type 0 where
  pub stored : d ≡ prec W.format - 1
  pub few : d ≤ 52
  pub word : 1 * 2 ^ d % 2 ^ 64 ≡ hid W.format
  pub leading : 0 < hid W.format
  pub field : p / hid W.format < 2 ^ 11
  pub wide : p < 2 ^ 64
  pub above : hid W.format ≤ p → p / hid W.format ≡ suc (p / hid W.format - 1)

pub digits_of : {W : Width} {d s i l m c r : ℕ} → Known W d s i l m c r → (p : ℕ) → p < ones W.format * hid W.format → Digits W d p
digits_of is_doubles p h =
    record {
      stored = omega arith;
      few = omega arith;
      word = omega arith;
      leading = omega arith;
      field = omega arith;
      wide = omega arith;
      above = λ a. omega arith;
    }
digits_of is_singles p h =
    record {
      stored = omega arith;
      few = omega arith;
      word = omega arith;
      leading = omega arith;
      field = omega arith;
      wide = omega arith;
      above = λ a. omega arith;
    }
