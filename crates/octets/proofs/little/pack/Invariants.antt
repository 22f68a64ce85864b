-- `octets::little::pack` meets its contract: the bytes passed are those of the first i numbers. Assumes nothing.
use Rattle.std.proofs.Common.{◌≡◌, ◌++◌, ◌*◌, take, drop}
use Rattle.octets.specs.Octets.{packed}
use Rattle.octets.proofs.little.pack.Given as goal

abbrev pub invariant-loop-i : goal.invariant-loop-i
invariant-loop-i l = l.bytes ≡ packed (take l.i l.numbers) ++ drop (8 * l.i) l.initial.bytes
