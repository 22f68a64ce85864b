-- `sums::split::split` meets its contract: i parts stand in the area, and the words hold what they leave. Assumes nothing.
use lib.ListN.{length}
use Rattle.words.specs.Words.{whole_of}
use Rattle.sums.proofs.SplitLaws.{Splitting}
use Rattle.sums.proofs.split.split.Given as goal

abbrev pub invariant-loop-place : goal.invariant-loop-place
invariant-loop-place l = Splitting (length l.initial.area) l.zero (whole_of l.initial.words) l.words l.area l.sign l.place-index
