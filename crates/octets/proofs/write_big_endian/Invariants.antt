-- `octets::write_big_endian` meets its contract: the bytes from i on stand in front of what was behind all of them, and the rest is the number without them.
-- Assumes nothing.
use Rattle.std.proofs.Common.{◌≡◌, ◌++◌, ◌+◌, ◌*◌, ◌/◌, ◌-◌, ◌^◌, ◌≤◌, take, drop}
use Rattle.octets.specs.Octets.{big_endian}
use Rattle.octets.proofs.write_big_endian.Given as goal

abbrev pub invariant-loop-i : goal.invariant-loop-i
invariant-loop-i l =
    (l.at ≤ l.i)
    × (l.rest ≡ l.v / 2 ^ (8 * (l.at + l.count - l.i)))
    × (l.bytes ≡ take l.i l.initial.bytes ++ (big_endian (l.at + l.count - l.i) l.v ++ drop (l.at + l.count) l.initial.bytes))
