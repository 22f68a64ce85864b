-- `extract::grouped::join` meets its contract: its additions are those of the definition. Assumes nothing.
use mathlib.Core.Path.{◌≡◌, sym, ap, ◌∙◌}
use Prim.Native.Nat.{ℕ, ◌<◌}
use native.Mathlib.Omega.{arith}
use borrow.Author.Rules.{rules}
use lib.Ieee.{nan}
use lib.ListN.{length, get_or}
use Rattle.std.proofs.lemmas.List.{get_or-map}
use Rattle.extract.specs.Grouped.{joined}
use Rattle.extract.proofs.grouped.join.Goals as goal

pub returns : goal.returns
unfolding joined
returns g c =
    let v = g.F.Floating.value in
    let ts = c.args.taus in
    let n : length ts ≡ 8 = search rules in
    let add = g.met.F.Floating.added in
    let at : (i : ℕ) (d : _) → i < 8 → v (get_or ts i d) ≡ get_or (g.F.Floating.values ts) i nan =
    λ i d h. sym (get_or-map v ts i d nan (omega (arith, n))) ∙ ap (λ xs. get_or xs i nan) (sym (g.met.F.Floating.each_value ts)) in
    rw (
      add _ _ _ c.add-7.ensures,
      add _ _ _ c.add-3.ensures,
      add _ _ _ c.add-6.ensures,
      add _ _ _ c.add.ensures,
      add _ _ _ c.add-2.ensures,
      add _ _ _ c.add-4.ensures,
      add _ _ _ c.add-5.ensures,
      at 0 _ (omega arith),
      at 1 _ (omega arith),
      at 2 _ (omega arith),
      at 3 _ (omega arith),
      at 4 _ (omega arith),
      at 5 _ (omega arith),
      at 6 _ (omega arith),
      at 7 _ (omega arith),
    )
