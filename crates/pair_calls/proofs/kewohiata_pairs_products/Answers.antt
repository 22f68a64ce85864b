-- `pair_calls::kewohiata_pairs_products` meets its contract: what is refused is one of the table's. Assumes nothing.
use Rattle.std.specs.Prelude.{◌≡◌, refl, ⊤, ℕ, Result, Ok, Err}
use Rattle.std.proofs.Common.{sym, ap, ◌∙◌}
use Rattle.kinds.specs.declared.refusal.Refusal.{Refusal}
use Rattle.kinds.specs.Outcome.{Outcome}
use Rattle.calls.specs.Inner.{code}
use Rattle.pairs.specs.Answers.{as_paired}
use Rattle.pairs.specs.Paired.{Paired}
use Rattle.pairs.specs.Pairs.{paired_heard}
use Rattle.arrays.specs.Arrays.{code_of}
use Rattle.arrays.proofs.ArraysLaws.{code_returned}
use Rattle.arrays.proofs.Refused.{if_refused}
use Rattle.pair_calls.proofs.PairArraysLaws.{products_refusal}
use Rattle.pair_calls.proofs.kewohiata_pairs_products.Goals as goal

pub code-requires : goal.code-requires
code-requires c =
    let a = c.args in
    let answered = ap (λ (x : Outcome Paired ℕ). x.answer) c.products.ensures in
    if_refused c.products.result (λ r e. (products_refusal a.a.now a.b.now a.out.now _ _ (sym answered ∙ ap as_paired e)).place)

coded : (r : Result ⊤ Refusal) → code r ≡ code_of (paired_heard (as_paired r))
coded (Ok x) = refl
coded (Err q) = refl

pub returns : goal.returns
returns c = code_returned paired_heard (c.code.ensures ∙ coded c.products.result) c.products.ensures refl
