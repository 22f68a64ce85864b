-- `octets::big_endian` meets its contract: after i bytes the number is theirs and below 2^(8 i), so that eight of them fit. Assumes nothing.
use Rattle.std.proofs.Common.{◌≡◌, ◌*◌, ◌^◌, ◌<◌}
use Rattle.octets.specs.Octets.{big, bytes_at}
use Rattle.octets.proofs.big_endian.Given as goal

abbrev pub invariant-loop-b : goal.invariant-loop-b
invariant-loop-b l = (l.v ≡ big (bytes_at l.bytes l.at l.b-index)) × (l.v < 2 ^ (8 * l.b-index))
