-- The figures of a width, one law for both. Assumes nothing.
use Rattle.std.specs.Prelude.{◌≡◌, refl, ℕ, suc, ◌*◌, ◌%◌, ◌^◌, ◌≤◌, ◌<◌}
use Rattle.std.proofs.Common.{arith}
use Rattle.std.specs.Float.Ieee.{prec, hid, ones, top}
use Rattle.kinds.specs.Limits.{Width}
use Rattle.kinds.specs.Known.{Known, is_doubles, is_singles}

-- what generic code's constants are, and how large
pub record Figures (W : Width) (d s i l m c r : ℕ) : Type 0 where
  pub digits : suc d ≡ prec W.format
  pub sign : s ≡ top W.format
  pub infinity : i ≡ ones W.format * hid W.format
  pub length : l ≡ W.length
  pub magnitude : m ≡ W.magnitude
  pub carried : c ≡ W.carried
  pub rounds : r ≡ W.rounds
  pub block : W.block ≡ 64
  pub few : W.length ≤ 4094
  pub proper : W.magnitude < ones W.format * hid W.format
  pub wide : 2 * top W.format ≤ 2 ^ 64
  -- a field's weight as a word, and how many fields there are
  pub weight : 1 * 2 ^ d % 2 ^ 64 ≡ hid W.format
  pub some : 0 < hid W.format
  pub light : hid W.format ≤ 2 ^ 52
  pub fields : ones W.format ≤ 2047

pub figures : {W : Width} {d s i l m c r : ℕ} → Known W d s i l m c r → Figures W d s i l m c r
figures is_doubles = record {
  digits = refl;
  sign = refl;
  infinity = refl;
  length = refl;
  magnitude = refl;
  carried = refl;
  rounds = refl;
  block = refl;
  few = omega arith;
  proper = omega arith;
  wide = omega arith;
  weight = refl;
  some = omega arith;
  light = omega arith;
  fields = omega arith;
}
figures is_singles = record {
  digits = refl;
  sign = refl;
  infinity = refl;
  length = refl;
  magnitude = refl;
  carried = refl;
  rounds = refl;
  block = refl;
  few = omega arith;
  proper = omega arith;
  wide = omega arith;
  weight = refl;
  some = omega arith;
  light = omega arith;
  fields = omega arith;
}
