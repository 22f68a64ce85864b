-- What the call gives is its answer: two that are read as the same are the same. Assumes nothing.
use Rattle.std.specs.Prelude.{◌≡◌, refl, ⊤, Result, Ok, Err}
use Rattle.std.proofs.Common.{ap}
use Rattle.lists.proofs.Apart.{apart}
use Rattle.kinds.specs.declared.refusal.Refusal.{Refusal}
use Rattle.kinds.proofs.AnswersLaws.{refusal_same}
use Rattle.pairs.specs.Answers.{as_paired}

pub paired_same : (a b : Result ⊤ Refusal) → as_paired a ≡ as_paired b → a ≡ b
paired_same (Ok x) (Ok y) e = refl
paired_same (Ok x) (Err q) e = apart (cc)
paired_same (Err r) (Ok y) e = apart (cc)
paired_same (Err r) (Err q) e = ap Err (refusal_same r q (cc) (cc))
