-- `pairs::nearest` meets its contract: the words hold the exact sum of the products of allowed pairs, and are rounded; a refusal is the judge's. Assumes
-- nothing.
use Rattle.std.specs.Prelude.{◌≡◌, List, true, false, ℕ, ◌<◌, nat_abs, ◌+ℤ◌, replicate}
use Rattle.std.proofs.Common.{rules, sym, ap, ◌∙◌}
use Rattle.std.proofs.lemmas.Result.{err_from_is_err_and}
use mathlib.Core.List.{zip}
use Rattle.ieee.specs.Units.{nearest_float, limit}
use Rattle.kinds.specs.Limits.{doubles}
use Rattle.kinds.specs.Verdict.{Good}
use Rattle.kinds.specs.Nearest.{Sum}
use Rattle.judge.proofs.JudgeLaws.{list_passed, list_allowed}
use Rattle.words.specs.Words.{word_count, whole_of, words_of}
use Rattle.sums.specs.Sums.{sum_of}
use Rattle.sums.proofs.SumLaws.{sums_doubles, sum_below_limit, total_whole}
use Rattle.pairs.specs.Limits.{double_pairs}
use Rattle.pairs.specs.Pairs.{products_of}
use Rattle.pairs.specs.Table.{PairsWhen}
use Rattle.pairs.proofs.JudgedLaws.{pairs_when, when_matching, when_allowed}
use Rattle.pairs.proofs.TableLaws.{refused_weighs}
use Rattle.pairs.proofs.PairLaws.{each_pair}
use Rattle.pairs.proofs.ListLaws.{products_taken, weighted_float}
use Rattle.pairs.proofs.Instances.{roomy_doubles}
use Rattle.pairs.proofs.nearest.Goals as goal

pub total-requires : goal.total-requires
total-requires c =
    let W = (pairs_when double_pairs true c.args.a.now c.args.b.now Good).0 (sym c.in_ok-judge.ensures) in
    (when_matching W, when_allowed W, search rules)

-- the words afterwards stand for the exact sum, which is far below the limit
record Summed (ws xs ys : List ℕ) : Type 0 where
  pub below : nat_abs (whole_of ws) < limit doubles.format
  pub whole : whole_of ws ≡ sum_of doubles.format (products_of doubles.format (zip xs ys))

summed : {ws xs ys : List ℕ} → PairsWhen double_pairs true xs ys Good
    → ws ≡ words_of (whole_of (replicate word_count 0) +ℤ sum_of doubles.format (products_of doubles.format (zip xs ys))) → Summed ws xs ys
summed {ws} {xs} {ys} W e =
    let G = products_taken double_pairs (each_pair double_pairs roomy_doubles) xs ys (when_matching W) (when_allowed W) roomy_doubles.twice true true tt tt in
    let l = sum_below_limit sums_doubles (list_passed G).few (list_allowed G) in
    let w = total_whole doubles.format (sum_of doubles.format (products_of doubles.format (zip xs ys))) l e in
    record { below = rw w l; whole = w }

pub nearest_float-requires : goal.nearest_float-requires
nearest_float-requires c =
    let W = (pairs_when double_pairs true c.args.a.now c.args.b.now Good).0 (sym c.in_ok-judge.ensures) in
    (search rules, (summed W c.total.ensures).below)

pub returns-in_err-judge : goal.returns-in_err-judge
returns-in_err-judge c =
    let q = err_from_is_err_and c.from_residual.result c.from_residual.ensures.1 in
    rw (q.1, q.2) (sym (refused_weighs double_pairs c.args.a.now c.args.b.now _ _ (sym c.in_err-judge.ensures)))

pub returns : goal.returns
returns c =
    let a = c.args in
    let W = (pairs_when double_pairs true a.a.now a.b.now Good).0 (sym c.in_ok-judge.ensures) in
    ap Sum (c.nearest_float.ensures ∙ ap (nearest_float doubles.format false) (summed W c.total.ensures).whole)
    ∙ sym (weighted_float double_pairs (each_pair double_pairs roomy_doubles) a.a.now a.b.now (when_matching W) (when_allowed W) roomy_doubles.twice)
