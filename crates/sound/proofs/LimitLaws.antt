-- A pattern that bounds magnitudes stands for a number that isn't negative; the exponent of the largest magnitude of a width; and that its largest sigma is a
-- float. Assumes nothing.
use Rattle.std.specs.Prelude.{◌≡◌, false, ℕ, ◌+◌, ◌*◌, ◌^◌, ◌≤◌, ◌<◌}
use Rattle.std.proofs.Common.{ap, ◌∙◌, mod-eq_of_lt, arith, lit<, lit≤}
use Rattle.std.specs.Float.{Format}
use Rattle.std.specs.Float.Ieee.{hid, ones, top, of_bits}
use Rattle.units.specs.Rounding.{ceil}
use Rattle.units.proofs.CeilingLaws.{ceil_power}
use Rattle.ieee.specs.Units.{pattern_units}
use Rattle.ieee.proofs.Finite.{is_units}
use Rattle.ieee.proofs.Pattern.{pattern_positive, pattern_no_nan}
use Rattle.ieee.proofs.PatternBounds.{pattern_number}
use Rattle.exponent.specs.Power.{powers}
use Rattle.kinds.specs.Limits.{Width, doubles, singles, exponent_of}
use Rattle.kinds.proofs.LimitsLaws.{exponent_most}
use Rattle.judge.specs.Table.{most}
use Rattle.judge.specs.FaultLaws.{most_doubles, most_singles}
use Rattle.sound.specs.LimitLaws.{Limit}

pub limit_at : (f : Format) (p : ℕ) → p < ones f * hid f → Limit f p
limit_at f p h =
    let l : p < top f = omega arith in
    record {
      no_nan = pattern_no_nan f h;
      number = pattern_number f p (rw (mod-eq_of_lt l) h);
      positive = (is_units f (of_bits f p) false (pattern_units f p) (pattern_positive f p h)).0;
    }

-- ---- of a width with M at most m and a largest magnitude of 2^k units
pub magnitude_exponent : (W : Width) {k : ℕ} → most W ≡ 2 ^ k → ceil (most W) ≡ k
magnitude_exponent W {k} e = ap ceil e ∙ ceil_power k

pub sigma_room : (W : Width) (m k : ℕ) → W.length + 2 ≤ 2 ^ m → m + k < powers W.format → (n : ℕ) → n ≤ W.length → exponent_of n + k < powers W.format
sigma_room W m k h r n l = omega (arith, exponent_most W h n l)

-- ---- 2^1000 at binary64, and 2^100 at binary32
pub magnitude_doubles : ceil (most doubles) ≡ 2074
magnitude_doubles = magnitude_exponent doubles most_doubles

pub magnitude_singles : ceil (most singles) ≡ 249
magnitude_singles = magnitude_exponent singles most_singles

pub room_doubles : (n : ℕ) → n ≤ doubles.length → exponent_of n + 2074 < powers doubles.format
room_doubles = sigma_room doubles 12 2074 (lit≤ tt) (lit< tt)

pub room_singles : (n : ℕ) → n ≤ singles.length → exponent_of n + 249 < powers singles.format
room_singles = sigma_room singles 11 249 (lit≤ tt) (lit< tt)
