-- `weights::weighed` meets its contract: each return is a case of the definition. Assumes nothing.
use Rattle.std.specs.Prelude.{◌≡◌, List, ℕ, ◌+◌, ◌<◌, length, get_or}
use Rattle.std.proofs.Common.{sym, ap, ◌∙◌, arith}
use Rattle.std.proofs.lemmas.List.{length-map}
use Rattle.lists.proofs.Front.{map_at}
use Rattle.kinds.specs.Limits.{doubles}
use Rattle.kinds.specs.Verdict.{Refused}
use Rattle.weights.specs.Weights.{grains, weight_of, weights_of, total, staying}
use Rattle.weights.proofs.WeightLaws.{good_below}
use Rattle.weights.proofs.FieldLaws.{fine_doubles}
use Rattle.weights.proofs.GrainLaws.{split}
use Rattle.weights.proofs.HandedLaws.{all_weighed, weighed_14, weighed_15, weighed_16, weighed_17, weighed_good}
use Rattle.weights.proofs.LoopLaws.{place_some, place_none}
use Rattle.weights.proofs.weighed.Goals as goal

pub returns-in-Some : goal.returns-in-Some
returns-in-Some c =
    let a = c.args in
    let s = place_some c.in-Some.ensures in
    ap (Refused 14) (sym s.0) ∙ sym (weighed_14 doubles a.list.now a.leaver s.1)

pub total-whole-requires : goal.total-whole-requires
total-whole-requires c =
    let none = place_none c.bad_weight.ensures c.in_default.not-Some in
    (c.requires, all_weighed doubles c.args.list.now none)

pub returns-then-not-whole : goal.returns-then-not-whole
returns-then-not-whole c =
    let a = c.args in
    let none = place_none c.bad_weight.ensures c.in_default.not-Some in
    sym (weighed_15 doubles a.list.now a.leaver none (λ e. omega (arith, c.total-whole.ensures, c.if-not-whole.true, e)))

pub returns-then-list-leaver : goal.returns-then-list-leaver
returns-then-list-leaver c =
    let a = c.args in
    let none = place_none c.bad_weight.ensures c.in_default.not-Some in
    sym (weighed_16 doubles a.list.now a.leaver none (omega (arith, c.total-whole.ensures, c.if-not-whole.false)) (omega arith))

pub grains_of-all-requires : goal.grains_of-all-requires
grains_of-all-requires c =
    let a = c.args in
    let none = place_none c.bad_weight.ensures c.in_default.not-Some in
    good_below doubles fine_doubles _ ((all_weighed doubles a.list.now none).each a.leaver (omega arith))

-- the leaver's grains and those of the others are the total
parts : (ps : List ℕ) (at : ℕ) {n : ℕ} → at < length ps → n ≡ weight_of doubles (get_or ps at 0)
    → total (weights_of doubles ps) ≡ n + total (staying at (weights_of doubles ps))
parts ps at h e =
    rw (e ∙ sym (map_at (weight_of doubles) ps at 0 0 h)) (split (weights_of doubles ps) at (rw (length-map ps (weight_of doubles)) h))

pub returns-then-all : goal.returns-then-all
returns-then-all c =
    let a = c.args in
    let none = place_none c.bad_weight.ensures c.in_default.not-Some in
    let p = parts a.list.now a.leaver (omega arith) c.grains_of-all.ensures.0 in
    let s : total (weights_of doubles a.list.now) ≡ grains = omega (arith, c.total-whole.ensures, c.if-not-whole.false) in
    sym (weighed_17 doubles a.list.now a.leaver none s (omega arith) (omega (arith, p, s, c.if-all.true)))

pub returns : goal.returns
returns c =
    let a = c.args in
    let none = place_none c.bad_weight.ensures c.in_default.not-Some in
    let p = parts a.list.now a.leaver (omega arith) c.grains_of-all.ensures.0 in
    let s : total (weights_of doubles a.list.now) ≡ grains = omega (arith, c.total-whole.ensures, c.if-not-whole.false) in
    sym (weighed_good doubles a.list.now a.leaver none s (omega arith) (λ o. c.if-all.false (omega (arith, p, s, o))))
