-- `register_calls::kewohiata_words_round` meets its contract: what is refused is one of the table's. Assumes nothing.
use Rattle.std.proofs.Common.{sym, ap, subst, ◌∙◌, ℕ}
use Rattle.kinds.specs.Limits.{doubles}
use Rattle.kinds.specs.Outcome.{outcome}
use Rattle.kinds.specs.Heard.{nearest_heard}
use Rattle.kinds.specs.Nearest.{Nearest}
use Rattle.arrays.specs.Arrays.{code_of, values_of}
use Rattle.arrays.specs.Inner.{NearestRefusal}
use Rattle.register_calls.proofs.RegisterArraysLaws.{round_other, round_rounded, round_refusal}
use Rattle.register_calls.proofs.kewohiata_words_round.Goals as goal

pub returns-then-out-ne-VALUES : goal.returns-then-out-ne-VALUES
returns-then-out-ne-VALUES c =
    let a = c.args in
    ap (λ (n : ℕ). outcome n a.out.now) c.refusal.ensures ∙ sym (round_other a.words.now a.out.now c.if-out-ne-VALUES.true)

pub nearest-requires : goal.nearest-requires
nearest-requires c = (c.if-out-ne-VALUES.false, subst NearestRefusal (sym c.round.ensures) (round_refusal c.args.words.now))

pub code-requires : goal.code-requires
code-requires c = c.nearest.ensures.told

pub returns : goal.returns
returns c =
    let a = c.args in
    ap (λ (n : ℕ). outcome n c.nearest.new.out) c.code.ensures
    ∙ c.nearest.ensures.written
    ∙ ap (λ (n : Nearest). outcome (code_of (nearest_heard doubles n)) (values_of (nearest_heard doubles n) a.out.now)) c.round.ensures
    ∙ sym (round_rounded a.words.now a.out.now c.if-out-ne-VALUES.false)
