-- `addend::sides::add` meets its contract: the two words of a magnitude, added at the place of its sign. Assumes nothing.
use mathlib.Core.Path.{subst}
use native.Mathlib.Omega.{arith}
use Prim.Native.Nat.{ℕ, ◌/◌, ◌^◌, ◌≤◌, ◌<◌}
use lib.ListN.{length}
use Rattle.lists.specs.Carry.{Carried}
use Rattle.kinds.specs.Limits.{doubles}
use Rattle.words.specs.Words.{word_bits}
use Rattle.addend.proofs.SidesLaws.{side_at}
use Rattle.addend.proofs.sides.add.Goals as goal

pub returns : goal.returns
returns c =
    let p = c.args.p in
    let e = c.place-at.ensures in
    let s = side_at doubles c.requires.1 e (p / 2 ^ 63) (λ (h : p < 2 ^ 63). omega arith) (λ (h : 2 ^ 63 ≤ p). omega (arith, c.ranges.p.fits)) in
    let ws = c.args.words.now in
    subst (λ (n : ℕ). Carried word_bits ws n c.add_at.new.words (length ws) c.add_at.result) s c.add_at.ensures
