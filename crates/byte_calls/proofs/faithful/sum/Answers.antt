-- `byte_calls::faithful::sum` meets its contract: N places hold the list, and the walk's own begin as the first of them. Assumes nothing.
use Rattle.calls.proofs.CallsLaws.{front_bytes, front_own}
use Rattle.byte_calls.proofs.faithful.sum.Goals as goal

pub within-requires : goal.within-requires
within-requires g c = (front_bytes c.requires.0, front_own c.requires.0, c.requires.2)
