-- `weights::hand_on` meets its contract: what was not refused is a weight list, in which the shares are no more than the leaver had. Assumes nothing.
use Rattle.std.specs.Prelude.{map, ℕ, ◌-◌}
use Rattle.std.proofs.Common.{sym, ap, ◌∙◌, arith, le_of_eq}
use Rattle.std.proofs.lemmas.Result.{err_from_is_err_and}
use Rattle.kinds.specs.Limits.{doubles}
use Rattle.kinds.specs.Outcome.{outcome}
use Rattle.weights.specs.Handed.{Shared}
use Rattle.weights.specs.Weights.{weights_of, pattern_for, staying, left_over, spread}
use Rattle.weights.proofs.WeightLaws.{good_below}
use Rattle.weights.proofs.FieldLaws.{fine_doubles}
use Rattle.weights.proofs.TableLaws.{verdict_good, good_hands, refused_leaves}
use Rattle.weights.proofs.AcceptedLaws.{leaver_weight, light, most, adds_up}
use Rattle.weights.proofs.hand_on.Goals as goal

pub returns-in_err-judged : goal.returns-in_err-judged
returns-in_err-judged c =
    let q = err_from_is_err_and c.from_residual.result c.from_residual.ensures.1 in
    let a = c.args in
    rw (q.1, q.2) (sym (refused_leaves doubles fine_doubles a.list.now a.leaver a.out.now (sym c.in_err-judged.ensures)))

pub offset_bounds-list-leaver : goal.offset_bounds-list-leaver
offset_bounds-list-leaver c =
    let a = c.args in
    let A = verdict_good doubles fine_doubles a.list.now a.leaver a.out.now (sym c.in_ok-judged.ensures) in
    omega (arith, A.inside)

pub bounds-list-leaver : goal.bounds-list-leaver
bounds-list-leaver c =
    let a = c.args in
    let A = verdict_good doubles fine_doubles a.list.now a.leaver a.out.now (sym c.in_ok-judged.ensures) in
    A.inside

pub grains_of-w-requires : goal.grains_of-w-requires
grains_of-w-requires c =
    let a = c.args in
    let A = verdict_good doubles fine_doubles a.list.now a.leaver a.out.now (sym c.in_ok-judged.ensures) in
    good_below doubles fine_doubles _ (A.list.weights.each _ A.inside)

pub shares-requires : goal.shares-requires
shares-requires c =
    let a = c.args in
    let A = verdict_good doubles fine_doubles a.list.now a.leaver a.out.now (sym c.in_ok-judged.ensures) in
    (light A c.grains_of-w.ensures.0, A.list.weights, most A c.grains_of-w.ensures.0)

pub overflow_sub-w : goal.overflow_sub-w
overflow_sub-w c =
    let a = c.args in
    let A = verdict_good doubles fine_doubles a.list.now a.leaver a.out.now (sym c.in_ok-judged.ensures) in
    omega (arith, c.shares.ensures, most A c.grains_of-w.ensures.0)

pub write-requires : goal.write-requires
write-requires c =
    let a = c.args in
    let A = verdict_good doubles fine_doubles a.list.now a.leaver a.out.now (sym c.in_ok-judged.ensures) in
    let w = c.grains_of-w.ensures.0 in
    (light A w, A.list.weights, A.fitting.room, rw c.shares.ensures (le_of_eq (adds_up A w)))

pub returns : goal.returns
returns c =
    let a = c.args in
    let A = verdict_good doubles fine_doubles a.list.now a.leaver a.out.now (sym c.in_ok-judged.ensures) in
    let stay = staying a.leaver (weights_of doubles a.list.now) in
    ap (outcome Shared)
    (c.write.ensures
    ∙ ap (λ (n : ℕ). map (pattern_for doubles) (spread c.grains_of-w.result (c.grains_of-w.result - n) stay)) c.shares.ensures
    ∙ ap (λ (n : ℕ). map (pattern_for doubles) (spread n (left_over n stay) stay)) (leaver_weight A c.grains_of-w.ensures.0))
    ∙ sym (good_hands doubles fine_doubles a.list.now a.leaver a.out.now (sym c.in_ok-judged.ensures))
