-- `numerals::capitals` meets its contract: from the last place down to i the digits stand in the area. Assumes nothing.
use Rattle.std.proofs.Common.{◌≡◌, arith}
use Rattle.numerals.proofs.NumeralLaws.{spelling_begins, spelling_goes_on, spelling_ends}
use Rattle.numerals.proofs.capitals.Goals as goal

pub loop-i-init : goal.loop-i-init
loop-i-init c = let a = c.args in spelling_begins a.p a.digits.now

pub loop-i-preserved : goal.loop-i-preserved
loop-i-preserved c = rw c.capital.ensures (spelling_goes_on c.loop-i.i c.loop-i.invariant c.loop-i-test.true)

pub returns : goal.returns
returns c =
    let e : c.loop-i.i ≡ 0 = omega arith in
    spelling_ends (rw e at c.loop-i.invariant)
