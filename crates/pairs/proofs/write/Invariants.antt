-- `pairs::write` meets its contract: after i pairs the first 2 i places hold their products and errors. Assumes nothing.
use mathlib.Core.Path.{◌≡◌}
use mathlib.Core.List.{◌++◌, zip}
use Prim.Native.Nat.{◌*◌}
use lib.ListN.{take, drop}
use Rattle.kinds.specs.Limits.{doubles}
use Rattle.pairs.specs.Pairs.{products_of}
use Rattle.pairs.proofs.write.Given as goal

abbrev pub invariant-loop-i : goal.invariant-loop-i
invariant-loop-i l =
    l.out ≡ products_of doubles.format (take l.i (zip l.a l.b)) ++ drop (2 * l.i) l.initial.out
