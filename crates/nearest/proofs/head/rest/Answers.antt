-- `nearest::head::rest` meets its contract: something is below exactly where a word is in use. Assumes nothing.
use Rattle.std.proofs.Common.{◌≡◌, ◌+◌, take, zero-add}
use Rattle.lists.specs.Digits.{number}
use Rattle.lists.specs.LeadingDigits.{used_some}
use Rattle.words.specs.Words.{word_bits}
use Rattle.nearest.proofs.head.rest.Goals as goal

pub returns-else-cut-ne0 : goal.returns-else-cut-ne0
returns-else-cut-ne0 c =
    let e : 0 + number word_bits (take c.args.n c.args.words.now) ≡ number word_bits (take c.args.n c.args.words.now) = zero-add _ in
    rw (c.if-cut-ne0.false, e) (used_some word_bits c.args.words.now c.used.result c.requires c.used.ensures)
