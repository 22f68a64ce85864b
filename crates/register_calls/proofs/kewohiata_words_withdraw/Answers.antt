-- `register_calls::kewohiata_words_withdraw` meets its contract: what is refused is one of the table's. Assumes nothing.
use Rattle.std.proofs.Common.{refl, sym, ap, subst, ◌∙◌}
use Rattle.register.specs.Register.{Changed}
use Rattle.kinds.specs.Heard.{entry_heard}
use Rattle.calls.specs.Inner.{EntryRefusal}
use Rattle.calls.proofs.RefusalLaws.{entry_refusal}
use Rattle.arrays.proofs.ArraysLaws.{code_returned}
use Rattle.register_calls.proofs.RegisterArraysLaws.{entry_told, entry_coded}
use Rattle.register_calls.proofs.kewohiata_words_withdraw.Goals as goal

pub code-requires : goal.code-requires
code-requires c = entry_told _ (subst EntryRefusal (sym (ap (λ (e : Changed). e.answer) c.withdraw.ensures)) (entry_refusal _ _ _))

pub returns : goal.returns
returns c = code_returned entry_heard (c.code.ensures ∙ entry_coded _) c.withdraw.ensures refl
