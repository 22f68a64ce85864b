-- M for every list that isn't too long is at most 12, and at binary32 at most 11; and B blocks of 64 cover a list, and one fewer doesn't. Assumes nothing.
use Rattle.std.specs.Prelude.{◌≡◌, refl, ℕ, ◌+◌, ◌*◌, ◌^◌, ◌≤◌, ◌<◌}
use Rattle.std.proofs.Common.{arith, lit≤}
use Rattle.units.proofs.Ceiling.{ceil_least}
use Rattle.kinds.specs.Limits.{Width, doubles, singles, exponent_of, blocks_of}

pub exponent_most : (W : Width) {m : ℕ} → W.length + 2 ≤ 2 ^ m → (n : ℕ) → n ≤ W.length → exponent_of n ≤ m
exponent_most W h n l = ceil_least (omega arith)

pub exponent_doubles : (n : ℕ) → n ≤ doubles.length → exponent_of n ≤ 12
exponent_doubles = exponent_most doubles (lit≤ tt)

pub exponent_singles : (n : ℕ) → n ≤ singles.length → exponent_of n ≤ 11
exponent_singles = exponent_most singles (lit≤ tt)

-- rules L8 and L9, in figures of their own
pub blocks_cover : (W : Width) → W.block ≡ 64 → (n : ℕ) → (n ≤ 64 * blocks_of W n) × (64 * blocks_of W n < n + 64)
blocks_cover W e n = rw e (omega arith, omega arith)

pub blocks_doubles : (n : ℕ) → (n ≤ 64 * blocks_of doubles n) × (64 * blocks_of doubles n < n + 64)
blocks_doubles = blocks_cover doubles refl

pub blocks_singles : (n : ℕ) → (n ≤ 64 * blocks_of singles n) × (64 * blocks_of singles n < n + 64)
blocks_singles = blocks_cover singles refl
