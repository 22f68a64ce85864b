-- Lanes and the sum: lanes that began with nothing and to which a list was added, settled and rounded, give its nearest sum, where the list isn't nothing
-- but -0: lanes know no -0. Assumes nothing.
use Rattle.std.specs.Prelude.{◌≡◌, List, map, true, ℕ, ◌≤◌, length}
use Rattle.std.proofs.Common.{ap, ◌∙◌, le_trans, lit≤}
use Rattle.std.proofs.lemmas.List.{length-map}
use Rattle.kinds.specs.Limits.{doubles}
use Rattle.kinds.specs.Verdict.{Good}
use Rattle.judge.specs.Table.{ListWhen, MinusZeros}
use Rattle.judge.proofs.JudgeLaws.{list_passed}
use Rattle.words.specs.Words.{word_count}
use Rattle.register.specs.Register.{rounded}
use Rattle.register.specs.Entries.{add, run, zeros}
use Rattle.register.proofs.RunLaws.{allowed_most}
use Rattle.lanes.specs.Lanes.{most_calls, settled}
use Rattle.lanes.specs.Runs.{begun, Act, lane_run, changes_of}
use Rattle.lanes.proofs.Promise.{promise}
use Rattle.sums.specs.Sums.{nearest_of}
use Rattle.sums.specs.Merged.{added_up}
use Rattle.sums.proofs.Merged.{added_nearest}

-- additions of a list's numbers, with settlings between or without
module _ (out : List ℕ) (l : length out ≡ word_count) (hs : List Act) (ps : List ℕ) (e : changes_of hs ≡ map add ps)
    (G : ListWhen doubles true true ps Good) where
  settled_words : let r = lane_run (begun out) hs in (settled r.lanes r.calls r.words).words ≡ added_up ps
  settled_words =
      let few : length (map add ps) ≤ most_calls = rw (length-map ps add) (le_trans (list_passed G).few (lit≤ tt)) in
      (promise out l hs (rw e (le_trans (allowed_most (map add ps)) few))).words
      ∙ ap (run zeros) e

  pub settled_nearest : (MinusZeros doubles ps → ⊥)
      → let r = lane_run (begun out) hs in rounded (settled r.lanes r.calls r.words).words ≡ nearest_of doubles ps
  settled_nearest n = ap rounded settled_words ∙ added_nearest ps G n
