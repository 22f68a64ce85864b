-- `lane_calls::kewohiata_lanes_withdraw` meets its contract: what is refused is one of the table's. Assumes nothing.
use Rattle.std.proofs.Common.{sym, ap, subst, ◌∙◌, ℕ}
use Rattle.kinds.specs.Outcome.{outcome}
use Rattle.lanes.specs.Lanes.{Laying}
use Rattle.lane_calls.specs.LaneArrays.{LaidRefusal}
use Rattle.lane_calls.proofs.LaneArraysLaws.{laid_other, laid_answered, lay_laid}
use Rattle.lane_calls.proofs.kewohiata_lanes_withdraw.Goals as goal

pub returns-then-out-ne-VALUES : goal.returns-then-out-ne-VALUES
returns-then-out-ne-VALUES c = rw c.refusal.ensures (sym (laid_other _ _ _ c.if-out-ne-VALUES.true))

pub answer-requires : goal.answer-requires
answer-requires c = (c.if-out-ne-VALUES.false, subst LaidRefusal (sym (ap (λ (l : Laying). l.answer) c.withdraw.ensures)) (lay_laid _ _ _ _))

pub returns : goal.returns
returns c =
    laid_answered _ c.args.lanes.now c.args.out.now c.if-out-ne-VALUES.false c.withdraw.ensures
    (ap (λ (n : ℕ). outcome n c.answer.new.out) c.code.ensures ∙ c.answer.ensures.written)
