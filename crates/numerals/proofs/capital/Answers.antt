-- `numerals::capital` meets its contract: each return is a case of the definition. Assumes nothing.
use Rattle.std.proofs.Common.{arith, lt-ltb, le-ltb}
use Rattle.numerals.proofs.capital.Goals as goal

pub returns-then-digit-lt10 : goal.returns-then-digit-lt10
returns-then-digit-lt10 c = rw (lt-ltb c.args.digit 10 c.if-digit-lt10.true)

pub returns-else-digit-lt10 : goal.returns-else-digit-lt10
returns-else-digit-lt10 c = rw (le-ltb c.args.digit 10 c.if-digit-lt10.false) (omega arith)
