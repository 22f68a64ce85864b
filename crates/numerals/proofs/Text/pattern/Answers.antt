-- `numerals::Text::pattern` meets its contract: 16 places are filled with digits, and stand behind the word. Assumes nothing.
use Rattle.std.proofs.Common.{arith}
use Rattle.numerals.proofs.TextLaws.{put_behind}
use Rattle.numerals.proofs.Text.pattern.Goals as goal

pub returns-clause-longer : goal.returns-clause-longer
returns-clause-longer c = put_behind (omega arith) c.put.ensures.longer (rw c.capitals.ensures at c.put-2.ensures.longer)
