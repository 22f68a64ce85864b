-- Rules M8 and M10: over the list of the products of accepted pairs the undivided call ends, and every faithful walk that has ended, undivided or with its
-- blocks in any order, has a sum that is faithful to the exact sum of the products; a register that took the list holds that sum; the pairs in another order
-- have equal or neighbouring faithful sums, and everything else the same. Assumes nothing.
use Rattle.std.specs.Prelude.{◌≡◌, true, ℕ, ◌*◌, ◌^◌, T, eqb, ℤ, pos, ◌*ℤ◌, length, Float}
use Rattle.std.proofs.Common.{sym, ap, ◌∙◌, lt_of_le_of_lt, eq-eqb, lit<}
use mathlib.Core.List.{List, zip, map}
use Rattle.std.specs.Float.{binary64}
use Rattle.std.specs.Float.Ieee.{low}
use Rattle.ieee.specs.Accuracy.{EqualOrNeighbouring}
use Rattle.kinds.specs.Limits.{doubles}
use Rattle.kinds.specs.Step.{Done}
use Rattle.kinds.specs.Verdict.{Good}
use Rattle.judge.specs.Table.{ListWhen}
use Rattle.judge.proofs.JudgeLaws.{list_passed, list_allowed}
use Rattle.words.specs.Words.{whole_of}
use Rattle.register.specs.Entries.{add, run, zeros}
use Rattle.register.proofs.RunLaws.{list_whole}
use Rattle.sums.specs.Reordering.{SameSums}
use Rattle.sums.proofs.SumsReordered.{sums_reordered}
use Rattle.rounds.specs.Instances.{doubles_fit}
use Rattle.walk.specs.Walk.{faithful_of}
use Rattle.runs.proofs.Faithful.{faithful_promised}
use Rattle.runs.specs.Reordering.{Summed}
use Rattle.runs.proofs.Reordered.{summed_faithful, summed_reordered}
use Rattle.pairs.specs.Limits.{double_pairs}
use Rattle.pairs.specs.Pairs.{products_of, weighted_sum}
use Rattle.pairs.specs.Table.{PairsWhen}
use Rattle.pairs.specs.Promise.{PairsList, FaithfulWeighted, BothReordered}
use Rattle.pairs.proofs.JudgedLaws.{when_matching, when_allowed}
use Rattle.pairs.proofs.Reordered.{products_reordered}
use Rattle.pairs.proofs.Promised.{pairs_list}
use Rattle.pairs.proofs.Instances.{roomy_doubles}

module _ (ps qs : List ℕ) (G : PairsWhen double_pairs true ps qs Good) where
  abbrev out : List ℕ
  out = products_of binary64 (zip ps qs)

  L : PairsList double_pairs ps qs out
  L = pairs_list double_pairs roomy_doubles (when_matching G) (when_allowed G)

  listed : ListWhen doubles true true out Good
  listed = L.taken true true tt tt

  -- ---- however a walk over the list has ended
  pub weighted_faithful : {x : Float} {k : ℕ} {xs : List Float} → Summed doubles (products_of binary64 (zip ps qs)) x k xs
      → FaithfulWeighted binary64 (zip ps qs) x
  weighted_faithful S = record { units = _; exact = L.sum; faithful = summed_faithful doubles_fit S }

  -- and the undivided call ends, over every work area with two places for each pair
  pub weighted_ends : (work : List Float) → length work ≡ 2 * length ps
      → (x : Float) × (k : ℕ) × ((faithful_of doubles (products_of binary64 (zip ps qs)) work).answer ≡ Done x k) × FaithfulWeighted binary64 (zip ps qs) x
  weighted_ends work e =
      let t : T (eqb (length work) (length out)) = rw (eq-eqb (length work) (length out) (e ∙ sym L.as_long)) tt in
      let F = faithful_promised doubles_fit out work (L.taken (eqb (length work) (length out)) true t tt) in
      (F.sum, F.rounds, F.answer, record { units = _; exact = L.sum; faithful = F.faithful })

  -- ---- a register of zeros that took the list holds the exact sum of the products, in whole units
  pub weighted_register : pos (2 ^ low binary64) *ℤ whole_of (run zeros (map add (products_of binary64 (zip ps qs)))) ≡ weighted_sum binary64 (zip ps qs)
  weighted_register =
      ap (λ (z : ℤ). pos (2 ^ low binary64) *ℤ z) (list_whole out (lt_of_le_of_lt (list_passed listed).few (lit< tt)) (list_allowed listed)) ∙ L.sum

  -- ---- the same pairs in another order
  module _ (rs ss : List ℕ) (π : BothReordered ps qs rs ss) where
    pub weighted_same : SameSums (products_of binary64 (zip ps qs)) (products_of binary64 (zip rs ss))
    weighted_same = sums_reordered (products_reordered binary64 π.order) listed

    pub weighted_neighbours : {x y : Float} {j k : ℕ} {xs ys : List Float}
        → Summed doubles (products_of binary64 (zip ps qs)) x j xs → Summed doubles (products_of binary64 (zip rs ss)) y k ys → EqualOrNeighbouring binary64 x y
    weighted_neighbours = summed_reordered doubles_fit (products_reordered binary64 π.order)
