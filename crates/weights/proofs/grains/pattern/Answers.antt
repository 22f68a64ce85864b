-- `weights::grains::pattern` meets its contract: the digits move up by 22 to 52 places, and neither shift loses one. Assumes nothing.
use mathlib.Core.Path.{◌≡◌, sym, ap, ◌∙◌}
use Prim.Native.Nat.{ℕ, ◌+◌, ◌-◌, ◌*◌, ◌%◌, ◌^◌}
use native.Mathlib.Omega.{arith}
use Rattle.kinds.specs.Limits.{doubles}
use Rattle.weights.specs.Weights.{pattern_for}
use Rattle.weights.specs.FieldLaws.{Moved}
use Rattle.weights.proofs.FieldLaws.{fine_doubles, pattern_zero, pattern_some, moved}
use Rattle.weights.proofs.grains.pattern.Goals as goal

pub returns-then-k-eq0 : goal.returns-then-k-eq0
returns-then-k-eq0 c = sym (ap (pattern_for doubles) c.if-k-eq0.true ∙ pattern_zero doubles fine_doubles)

pub overflow_sub-k : goal.overflow_sub-k
overflow_sub-k c = (moved c.args.k (omega arith) c.requires).0

pub overflow_add-result : goal.overflow_add-result
overflow_add-result c =
    let M = (moved c.args.k (omega arith) c.requires).1 in
    record { fits = rw c.from-up.ensures (omega (arith, M.most, M.least, M.to)) }

-- nothing is cut off
whole : (k j : ℕ) → Moved k j → (1044 - j) * 2 ^ 52 % 2 ^ 64 + k * 2 ^ j % 2 ^ 64 ≡ (1044 - j) * 2 ^ 52 + k * 2 ^ j
whole k j M = omega (arith, M.most, M.least, M.to)

pub returns : goal.returns
returns c =
    let k = c.args.k in
    let M = (moved k (omega arith) c.requires).1 in
    rw c.from-up.ensures (whole k _ M) ∙ sym (pattern_some doubles fine_doubles k _ c.requires (omega (arith, M.most)) M.from M.to)
