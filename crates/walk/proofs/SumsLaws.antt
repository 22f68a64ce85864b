-- What the undivided call gives is its answer: two that are read as the same are the same, and none is a state. Assumes nothing.
use Rattle.std.specs.Prelude.{◌≡◌, Float, Result, Ok, Err}
use Rattle.std.proofs.Common.{ap}
use Rattle.lists.proofs.Apart.{apart}
use Rattle.kinds.specs.declared.refusal.Refusal.{Refusal}
use Rattle.kinds.specs.Answers.{itself}
use Rattle.kinds.specs.State.{State}
use Rattle.kinds.specs.Step.{More}
use Rattle.kinds.proofs.AnswersLaws.{refusal_same}
use Rattle.walk.specs.declared.sum.Sum.{Sum}
use Rattle.walk.specs.Sums.{as_sum, as_faithful}

sum_same : (a b : Sum Float) → as_sum itself a ≡ as_sum itself b → a ≡ b
sum_same a b e =
    let x : a.sum ≡ b.sum = cc in
    let r : a.rounds ≡ b.rounds = cc in
    λ i. record { sum = x i; rounds = r i }

pub faithful_same : (a b : Result (Sum Float) Refusal) → as_faithful itself a ≡ as_faithful itself b → a ≡ b
faithful_same (Ok a) (Ok b) e = ap Ok (sum_same a b e)
faithful_same (Ok a) (Err q) e = apart (cc)
faithful_same (Err r) (Ok b) e = apart (cc)
faithful_same (Err r) (Err q) e = ap Err (refusal_same r q (cc) (cc))

-- at any width: no state is given
pub never_more : {F : Type 0} (value : F → Float) (a : Result (Sum F) Refusal) (s : State) (told : Float) → as_faithful value a ≡ More s told → ⊥
never_more value (Ok a) s told e = apart (cc)
never_more value (Err r) s told e = apart (cc)
