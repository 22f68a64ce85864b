-- `octets::little::unpack` meets its contract: the places passed hold the numbers that the bytes stand for. Assumes nothing.
use Rattle.std.proofs.Common.{◌≡◌, ◌++◌, drop}
use Rattle.octets.specs.Octets.{unpacked}
use Rattle.octets.proofs.little.unpack.Given as goal

abbrev pub invariant-loop-i : goal.invariant-loop-i
invariant-loop-i l = l.numbers ≡ unpacked l.i l.bytes ++ drop l.i l.initial.numbers
