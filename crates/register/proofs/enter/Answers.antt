-- `register::enter` meets its contract: the top bits before and after say whether the sum left the range, and taking the number again gives the words back.
-- Assumes nothing.
use Rattle.std.proofs.Common.{sym, ◌∙◌}
use Rattle.kinds.specs.Limits.{doubles}
use Rattle.judge.specs.FaultLaws.{fault_0}
use Rattle.addend.proofs.RegisterWords.{held}
use Rattle.register.proofs.TopBits.{left, stayed}
use Rattle.register.proofs.enter.Goals as goal

pub returns-then-left : goal.returns-then-left
returns-then-left c =
    let tested = rw (c.sign-before.ensures, c.sign.ensures) at c.left.ensures in
    left (held c.requires.0 c.slice_known-1.given) c.args.p c.requires.1 c.add.ensures (sym tested ∙ c.if-left.true) c.withdraw.ensures

pub returns : goal.returns
returns c =
    let tested = rw (c.sign-before.ensures, c.sign.ensures) at c.left.ensures in
    stayed (held c.requires.0 c.slice_known-1.given) c.args.p c.requires.1 c.add.ensures (sym tested ∙ c.if-left.false)

pub add-requires : goal.add-requires
add-requires c = (c.requires.0, ((fault_0 doubles c.args.p).0 c.requires.1).0)

pub withdraw-requires : goal.withdraw-requires
withdraw-requires c = (c.add.auto.words ∙ c.requires.0, ((fault_0 doubles c.args.p).0 c.requires.1).0)
