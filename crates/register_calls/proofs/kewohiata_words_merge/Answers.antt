-- `register_calls::kewohiata_words_merge` meets its contract: what is refused is one of the table's. Assumes nothing.
use Rattle.std.proofs.Common.{refl, sym, ap, subst, ◌∙◌}
use Rattle.register.specs.Register.{Changed}
use Rattle.kinds.specs.Heard.{entry_heard}
use Rattle.calls.specs.Inner.{EntryRefusal}
use Rattle.arrays.proofs.ArraysLaws.{code_returned}
use Rattle.register_calls.proofs.RegisterArraysLaws.{merge_refusal, entry_told, entry_coded}
use Rattle.register_calls.proofs.kewohiata_words_merge.Goals as goal

pub code-requires : goal.code-requires
code-requires c = entry_told _ (subst EntryRefusal (sym (ap (λ (e : Changed). e.answer) c.merge.ensures)) (merge_refusal _ _ _))

pub returns : goal.returns
returns c = code_returned entry_heard (c.code.ensures ∙ entry_coded _) c.merge.ensures refl
