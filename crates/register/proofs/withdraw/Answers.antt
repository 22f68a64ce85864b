-- `register::withdraw` meets its contract: a withdrawal is the addition of the opposite number. Assumes nothing.
use Rattle.register.proofs.EnterLaws.{withdrawn_added}
use Rattle.register.proofs.withdraw.Goals as goal

pub returns : goal.returns
returns c = rw (withdrawn_added c.args.p c.ranges.p.fits c.args.register.now, ← c.opposite.ensures) c.add.ensures
