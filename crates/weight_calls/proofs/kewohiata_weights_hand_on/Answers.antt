-- `weight_calls::kewohiata_weights_hand_on` meets its contract: what is refused is one of the table's. Assumes nothing.
use Rattle.std.specs.Prelude.{◌≡◌, refl, ⊤, ℕ, Result, Ok, Err}
use Rattle.std.proofs.Common.{sym, ap, ◌∙◌}
use Rattle.kinds.specs.declared.refusal.Refusal.{Refusal}
use Rattle.kinds.specs.Limits.{doubles}
use Rattle.kinds.specs.Outcome.{Outcome}
use Rattle.calls.specs.Inner.{code}
use Rattle.weights.specs.Answers.{as_handed}
use Rattle.weights.specs.Handed.{Handed}
use Rattle.weights.specs.Weights.{handed_heard}
use Rattle.weights.proofs.TableLaws.{handed_when, handed_refusal}
use Rattle.weights.proofs.FieldLaws.{fine_doubles}
use Rattle.arrays.specs.Arrays.{code_of}
use Rattle.arrays.proofs.ArraysLaws.{code_returned}
use Rattle.arrays.proofs.Refused.{if_refused}
use Rattle.weight_calls.proofs.kewohiata_weights_hand_on.Goals as goal

pub code-requires : goal.code-requires
code-requires c =
    let a = c.args in
    let answered = ap (λ (x : Outcome Handed ℕ). x.answer) c.hand_on.ensures in
    if_refused c.hand_on.result (λ r e. (handed_refusal doubles fine_doubles a.list.now a.leaver a.out.now
    ((handed_when doubles fine_doubles a.list.now a.leaver a.out.now _).0 (sym answered ∙ ap as_handed e))).place)

coded : (r : Result ⊤ Refusal) → code r ≡ code_of (handed_heard (as_handed r))
coded (Ok x) = refl
coded (Err q) = refl

pub returns : goal.returns
returns c = code_returned handed_heard (c.code.ensures ∙ coded c.hand_on.result) c.hand_on.ensures refl
