-- The register of a list in another order, and all sums of it. Assumes nothing.
use Rattle.std.specs.Prelude.{◌≡◌, ℕ, ◌^◌, ◌<◌, length}
use Rattle.std.proofs.Common.{lt_of_le_of_lt, lit<}
use Rattle.std.proofs.Math.Bool.{true}
use mathlib.Core.List.Perm
use mathlib.Core.List.{List, map, Perm}
use Rattle.std.proofs.lemmas.List.{length-map}
use Rattle.kinds.specs.Limits.{doubles}
use Rattle.kinds.specs.Verdict.{Good}
use Rattle.judge.specs.Table.{Allowed, ListWhen}
use Rattle.judge.proofs.JudgeLaws.{list_passed, list_allowed}
use Rattle.register.specs.Entries.{add, run, zeros}
use Rattle.register.proofs.RunLaws.{patterns}
use Rattle.sums.specs.Reordering.{SameSums}
use Rattle.sums.proofs.Reordered.{nearest_reordered, parts_reordered, history_reordered}

pub register_reordered : {ps qs : List ℕ} → Perm ps qs → length ps < 2 ^ 37 → Allowed doubles ps → run zeros (map add ps) ≡ run zeros (map add qs)
register_reordered {ps} π h A = history_reordered (Perm.map add π) (rw (length-map ps add) h) (rw (patterns ps) A)

-- all of it, for an allowed list of doubles
pub sums_reordered : {ps qs : List ℕ} → Perm ps qs → ListWhen doubles true true ps Good → SameSums ps qs
sums_reordered π G = record {
  nearest = nearest_reordered π (list_allowed G);
  parts = parts_reordered π (list_allowed G);
  register = register_reordered π (lt_of_le_of_lt (list_passed G).few (lit< tt)) (list_allowed G);
}
