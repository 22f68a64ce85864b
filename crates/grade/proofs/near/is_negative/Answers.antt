-- `grade::near::is_negative` meets its contract: the top word tells the sign. Assumes nothing.
use Rattle.grade.proofs.WordLaws.{top_word}
use Rattle.grade.proofs.near.is_negative.Goals as goal

pub returns : goal.returns
returns c = top_word c.args.words.now c.requires (record { below = λ i. (c.type_inv.words i).fits })
