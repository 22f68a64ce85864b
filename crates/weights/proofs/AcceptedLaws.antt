-- What is known of a weight list that is handed on: the leaver hasn't all the weight, the shares of the others are no more than it had, and the new weights add
-- up to 1. w is the leaver's weight. Assumes nothing.
use Rattle.std.specs.Prelude.{◌≡◌, List, map, ℕ, ◌≤◌, ◌<◌, length, get_or}
use Rattle.std.proofs.Common.{sym, ◌∙◌}
use Rattle.std.proofs.lemmas.List.{length-map}
use Rattle.lists.proofs.Front.{map_at}
use Rattle.kinds.specs.Limits.{Width}
use Rattle.weights.specs.Weights.{grains, weight_of, weights_of, total, share, staying, left_over, spread}
use Rattle.weights.specs.Table.{Accepted}
use Rattle.weights.proofs.GrainLaws.{leaver_light, shares_most, conserved}
use Rattle.weights.proofs.HandedLaws.{other_positive}

module _ {W : Width} {ps : List ℕ} {at : ℕ} {area : List ℕ} (A : Accepted W ps at area) where
  pub at_inside : at < length (weights_of W ps)
  at_inside = rw (length-map ps (weight_of W)) A.inside

  pub others_weigh : 0 < total (staying at (weights_of W ps))
  others_weigh = other_positive W ps at A.other

  module _ {w : ℕ} (e : w ≡ weight_of W (get_or ps at 0)) where
    pub leaver_weight : w ≡ get_or (weights_of W ps) at 0
    leaver_weight = e ∙ sym (map_at (weight_of W) ps at 0 0 A.inside)

    pub light : w < grains
    light = rw leaver_weight (leaver_light at (weights_of W ps) A.list.sum at_inside others_weigh)

    pub most : total (map (share w) (staying at (weights_of W ps))) ≤ w
    most = rw leaver_weight (shares_most at (weights_of W ps) A.list.sum at_inside others_weigh)

    pub adds_up : total (spread w (left_over w (staying at (weights_of W ps))) (staying at (weights_of W ps))) ≡ grains
    adds_up = rw leaver_weight (conserved at (weights_of W ps) A.list.sum at_inside others_weigh)
