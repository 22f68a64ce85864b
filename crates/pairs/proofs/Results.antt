-- Rule K1 for what the calls give: any two results that meet a contract are equal, and so are the areas. Assumes nothing.
use Rattle.std.specs.Prelude.{◌≡◌, List, ℕ, Float, ⊤, Result}
use Rattle.kinds.specs.declared.refusal.Refusal.{Refusal}
use Rattle.kinds.specs.Outcome.{outcome}
use Rattle.kinds.specs.Answers.{itself, as_nearest}
use Rattle.kinds.proofs.AnswersLaws.{nearest_same}
use Rattle.pairs.specs.Answers.{as_paired}
use Rattle.pairs.specs.Limits.{Pairing}
use Rattle.pairs.specs.Pairs.{multiplied_of, weighted_of}
use Rattle.pairs.proofs.PairedSame.{paired_same}
use Rattle.pairs.proofs.TableLaws.{multiplied_determined, weighted_determined}

pub multiplied_results : (P : Pairing) (ps qs area : List ℕ) {r q : Result ⊤ Refusal} {xs ys : List ℕ}
    → outcome (as_paired r) xs ≡ multiplied_of P ps qs area → outcome (as_paired q) ys ≡ multiplied_of P ps qs area → (r ≡ q) × (xs ≡ ys)
multiplied_results P ps qs area {r} {q} e f = let d = multiplied_determined P ps qs area e f in (paired_same r q d.0, d.1)

pub weighted_results : (P : Pairing) (ps qs : List ℕ) {r q : Result Float Refusal} → as_nearest itself r ≡ weighted_of P ps qs
    → as_nearest itself q ≡ weighted_of P ps qs → r ≡ q
weighted_results P ps qs {r} {q} e f = nearest_same r q (weighted_determined P ps qs e f)
