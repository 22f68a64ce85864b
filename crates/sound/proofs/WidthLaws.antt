-- The largest magnitude of a width and the room above it, one law for both widths. Assumes nothing.
use Rattle.std.specs.Prelude.{◌≡◌, ℕ, ◌+◌, ◌*◌, ◌^◌, ◌≤◌, ◌<◌}
use Rattle.std.proofs.Common.{arith, lit<}
use Rattle.std.specs.Float.Ieee.{ones, hid}
use Rattle.units.specs.Rounding.{ceil}
use Rattle.exponent.specs.Power.{powers}
use Rattle.kinds.specs.Limits.{Width, exponent_of}
use Rattle.kinds.specs.Known.{Known, is_doubles, is_singles}
use Rattle.judge.specs.Table.{most}
use Rattle.judge.specs.FaultLaws.{most_doubles, most_singles}
use Rattle.sound.proofs.LimitLaws.{magnitude_doubles, magnitude_singles, room_doubles, room_singles}

-- the largest magnitude is 2^height units
pub record Height (W : Width) : Type 0 where
  pub height : ℕ
  pub few : height ≤ 2074
  pub most_is : most W ≡ 2 ^ height
  pub magnitude_is : ceil (most W) ≡ height
  pub room : (n : ℕ) → n ≤ W.length → exponent_of n + height < powers W.format
  pub reach : powers W.format ≤ 4096
  pub carried : W.carried < ones W.format * hid W.format

pub height_of : {W : Width} {d s i l m c r : ℕ} → Known W d s i l m c r → Height W
height_of is_doubles =
    record {
      height = 2074;
      few = omega arith;
      most_is = most_doubles;
      magnitude_is = magnitude_doubles;
      room = room_doubles;
      reach = omega arith;
      carried = lit< tt;
    }
height_of is_singles =
    record {
      height = 249;
      few = omega arith;
      most_is = most_singles;
      magnitude_is = magnitude_singles;
      room = room_singles;
      reach = omega arith;
      carried = lit< tt;
    }
