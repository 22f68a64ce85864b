-- `register::two::total` meets its contract: the carry equation of all words gives every word. Assumes nothing.
use Rattle.std.proofs.Common.{◌-◌, ◌∙◌, lit<}
use Rattle.lists.proofs.SignedSums.{cut_sum}
use Rattle.words.specs.Words.{word_bits, word_count}
use Rattle.addend.proofs.RegisterWords.{held}
use Rattle.register.proofs.two.total.Goals as goal

pub returns : goal.returns
returns c =
    cut_sum word_bits (lit< tt) (word_count - 1)
    (held c.requires.first c.type_inv.a)
    (held c.requires.second c.type_inv.b)
    c.add.result
    (held (c.add.auto.sum ∙ c.requires.third) c.type_inv.out)
    (rw c.requires.first at c.add.ensures.total)
