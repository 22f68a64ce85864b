-- `addend::sides::settle` meets its contract: the borrow equation of the two halves gives every word. Assumes nothing.
use Rattle.std.proofs.Common.{◌∙◌}
use Rattle.addend.proofs.RegisterWords.{held}
use Rattle.addend.proofs.SidesLaws.{side_left}
use Rattle.addend.proofs.sides.settle.Goals as goal

pub returns : goal.returns
returns c =
    side_left {ws = c.args.both.now} c.requires.0 (record { below = λ i. (c.type_inv.both i).fits })
    (held (c.sub.auto.difference ∙ c.requires.1) c.type_inv.words)
    (rw (c.split_at.ensures.front, c.split_at.ensures.back) at c.sub.ensures)
