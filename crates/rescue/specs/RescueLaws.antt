-- What the theorems of proofs/RescueLaws.antt speak of. Definitions only.
use Rattle.rescue.specs.Rescue.{Rescuing}
use Rattle.rescue.specs.Rescued.{Rescued}

abbrev pub answer_of : Rescuing → Rescued
answer_of x = x.answer
