-- `walk::opening::zero` meets its contract, by computing both zeros at each width. Assumes nothing.
use Rattle.std.specs.Prelude.{◌≡◌, refl, Bool, true, false, ℕ, pos}
use Rattle.std.proofs.Common.{sym, ap, ◌∙◌}
use Rattle.std.specs.Float.Ieee.{of_bits, neg}
use Rattle.ieee.specs.Units.{nearest_float}
use Rattle.kinds.specs.Limits.{Width}
use Rattle.kinds.specs.Known.{Known, is_doubles, is_singles}
use Rattle.walk.proofs.opening.zero.Goals as goal

minus : {W : Width} {d s i l m c r : ℕ} → Known W d s i l m c r → neg (of_bits W.format 0) ≡ nearest_float W.format true (pos 0)
unfolding neg of_bits nearest_float
minus is_doubles = refl
minus is_singles = refl

plus : {W : Width} {d s i l m c r : ℕ} → Known W d s i l m c r → of_bits W.format 0 ≡ nearest_float W.format false (pos 0)
unfolding of_bits nearest_float
plus is_doubles = refl
plus is_singles = refl

pub returns-then-negative : goal.returns-then-negative
returns-then-negative g c =
    g.met.F.Floating.negated _ _ c.neg.ensures ∙ ap neg c.zero.ensures ∙ minus g.met.F.Floating.known
    ∙ ap (λ (s : Bool). nearest_float g.F.Floating.width.format s (pos 0)) (sym c.if-negative.true)

pub returns-else-negative : goal.returns-else-negative
returns-else-negative g c =
    c.zero-else-negative.ensures ∙ plus g.met.F.Floating.known ∙ ap (λ (s : Bool). nearest_float g.F.Floating.width.format s (pos 0)) (sym c.if-negative.false)
