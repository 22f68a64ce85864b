-- `numerals::capitals` meets its contract: from the last place down to i the digits stand in the area. Assumes nothing.
use Rattle.std.proofs.Common.{length}
use Rattle.numerals.proofs.NumeralLaws.{Spelling}
use Rattle.numerals.proofs.capitals.Given as goal

abbrev pub invariant-loop-i : goal.invariant-loop-i
invariant-loop-i l = Spelling l.p (length l.initial.digits) l.digits l.rest l.i
