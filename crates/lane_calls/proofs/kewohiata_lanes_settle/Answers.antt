-- `lane_calls::kewohiata_lanes_settle` meets its contract: what is refused is one of the table's. Assumes nothing.
use Rattle.std.proofs.Common.{sym, ap, subst, ◌∙◌, ℕ}
use Rattle.kinds.specs.Outcome.{outcome}
use Rattle.lanes.specs.Lanes.{Settling}
use Rattle.lane_calls.specs.LaneArrays.{LaidRefusal}
use Rattle.lane_calls.proofs.LaneArraysLaws.{settle_other, settle_answered, settle_laid}
use Rattle.lane_calls.proofs.kewohiata_lanes_settle.Goals as goal

pub returns-then-out-ne-VALUES : goal.returns-then-out-ne-VALUES
returns-then-out-ne-VALUES c = rw c.refusal.ensures (sym (settle_other _ _ _ _ c.if-out-ne-VALUES.true))

pub answer-requires : goal.answer-requires
answer-requires c = (
  c.if-out-ne-VALUES.false,
  subst LaidRefusal (sym (ap (λ (s : Settling). s.answer) c.settle.ensures)) (settle_laid _ _ _),
)

pub returns : goal.returns
returns c =
    let a = c.args in
    settle_answered a.lanes.now a.count a.words.now a.out.now c.if-out-ne-VALUES.false
    c.settle.ensures (ap (λ (n : ℕ). outcome n c.answer.new.out) c.code.ensures ∙ c.answer.ensures.written)
