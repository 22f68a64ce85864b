-- The weights at the scope's width, in its figures. Assumes nothing.
use Rattle.std.specs.Prelude.{◌≡◌, refl, ◌↔◌, List, ℕ, ◌^◌, pos}
use Rattle.std.proofs.Common.{sym, ◌∙◌, lit<, lit≤}
use Rattle.std.specs.Float.{binary64}
use Rattle.kinds.specs.Limits.{doubles}
use Rattle.weights.specs.Weights.{grains, grain, pattern_for, handed_of}
use Rattle.weights.specs.Table.{Accepted, HandedWhen}
use Rattle.weights.specs.Promise.{sum_units, HandedOn}
use Rattle.weights.proofs.WeightLaws.{one_is, one_units, pattern_unique}
use Rattle.weights.proofs.FieldLaws.{fine_doubles}
use Rattle.weights.proofs.TableLaws.{handed_when}
use Rattle.weights.proofs.Promised.{handed_promised}
use Rattle.weights.specs.Handed.{Handed}

pub grain_64 : grain binary64 ≡ 2 ^ 1044
grain_64 = refl

-- 2^30 grains are 1
pub one_64 : pattern_for doubles grains ≡ 0x3FF0000000000000
one_64 = pattern_unique doubles fine_doubles grains (lit≤ tt) 0x3FF0000000000000 (lit< tt) (one_units doubles fine_doubles ∙ sym (one_is doubles fine_doubles))

module _ (ps : List ℕ) (at : ℕ) (area : List ℕ) where
  pub when_64 : (r : Handed) → ((handed_of doubles ps at area).answer ≡ r) ↔ HandedWhen doubles ps at area r
  when_64 = handed_when doubles fine_doubles ps at area

  module _ (A : Accepted doubles ps at area) where
    pub promised_64 : HandedOn doubles ps at (handed_of doubles ps at area).area
    promised_64 = handed_promised doubles fine_doubles A

    pub sum_64 : sum_units binary64 (handed_of doubles ps at area).area ≡ pos (2 ^ 1074)
    sum_64 = promised_64.whole
