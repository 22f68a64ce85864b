-- What is promised of the products of two lists and of the nearest weighted sum holds for every call that is accepted; and a call on the same pairs in another
-- order is accepted too, with the same sum. Assumes nothing.
use Rattle.std.specs.Prelude.{◌≡◌, refl, true, ℕ, zero, suc, ◌+◌, ◌*◌, ◌<◌, length, get_or, Float}
use Rattle.std.proofs.Common.{sym, ap, ◌∙◌, arith}
use mathlib.Core.List.{List, [], ◌∷◌, zip}
use Rattle.std.specs.Float.{binary64}
use Rattle.std.specs.Float.Ieee.{to_bits}
use Rattle.ieee.specs.Units.{nearest_float}
use Rattle.lists.proofs.Reordered.{length_reordered}
use Rattle.kinds.specs.Limits.{doubles}
use Rattle.kinds.specs.Heard.{nearest_heard, nearest}
use Rattle.kinds.specs.Verdict.{Good}
use Rattle.judge.specs.Judge.{zero_sign}
use Rattle.judge.proofs.JudgeLaws.{list_allowed}
use Rattle.sums.specs.Sums.{sum_of, nearest_of}
use Rattle.sums.proofs.Promised.{nearest_promised}
use Rattle.sums.proofs.SumLaws.{sums_doubles}
use Rattle.sums.proofs.Reordered.{nearest_reordered}
use Rattle.pairs.specs.Limits.{Pairing, double_pairs}
use Rattle.pairs.specs.Pairs.{Pair, product_of, error_of, products_of, two_each, multiplied_of, weighted_of}
use Rattle.pairs.specs.Table.{pair_at, AllowedPairs, Matching, PairsWhen, allowed}
use Rattle.pairs.specs.Promise.{TwoNumbers, PairsList, NearestWeighted, BothReordered}
use Rattle.pairs.proofs.ZipLaws.{zip_length, zip_at}
use Rattle.pairs.proofs.JudgedLaws.{pairs_when, when_matching, when_allowed}
use Rattle.pairs.proofs.TableLaws.{good_multiplies}
use Rattle.pairs.proofs.WriteLaws.{products_length}
use Rattle.pairs.specs.PairLaws.{Roomy}
use Rattle.pairs.proofs.PairLaws.{each_pair}
use Rattle.pairs.proofs.ListLaws.{faultless_pairs, pairs_back, products_sum, products_taken, weighted_nearest}
use Rattle.pairs.proofs.Reordered.{products_reordered, faultless_reordered}
use Rattle.pairs.proofs.Instances.{roomy_doubles}

-- ---- the list, place by place
products_at : (P : Pairing) (cs : List Pair) (d : Pair) (i : ℕ) → i < length cs
    → let f = P.width.format in
    let c = get_or cs i d in
    (get_or (products_of f cs) (2 * i) 0 ≡ to_bits f (product_of f c)) × (get_or (products_of f cs) (2 * i + 1) 0 ≡ to_bits f (error_of f c))
unfolding products_of
products_at P [] d i h = absurd (omega arith)
products_at P (c ∷ cs) d zero h = (refl, refl)
products_at P (c ∷ cs) d (suc i) h =
    let f = P.width.format in
    let l = to_bits f (product_of f c) ∷ to_bits f (error_of f c) ∷ products_of f cs in
    let r = products_at P cs d i (omega arith) in
    let e : 2 * suc i ≡ suc (suc (2 * i)) = omega arith in
    let g : 2 * suc i + 1 ≡ suc (suc (2 * i + 1)) = omega arith in
    (ap (λ (n : ℕ). get_or l n 0) e ∙ r.0, ap (λ (n : ℕ). get_or l n 0) g ∙ r.1)

-- ---- the products of two lists
module _ (P : Pairing) (R : Roomy P) {ps qs : List ℕ} where
  module _ (M : Matching P ps qs) (A : AllowedPairs P ps qs) where
    two : (i : ℕ) → i < length ps
        → let out = products_of P.width.format (zip ps qs) in
        TwoNumbers P.width (pair_at ps qs i) (get_or out (2 * i) 0) (get_or out (2 * i + 1) 0)
    two i h =
        let at = products_at P (zip ps qs) (0, 0) i (rw (zip_length ps qs M.alike) h) in
        rw (at.0, at.1, zip_at ps qs M.alike 0 0 i h) (each_pair P R (pair_at ps qs i) (A.none i h))

    pub pairs_list : PairsList P ps qs (products_of P.width.format (zip ps qs))
    pairs_list = record {
      as_long = products_length P.width.format (zip ps qs) ∙ ap (λ (n : ℕ). 2 * n) (zip_length ps qs M.alike);
      two = two;
      taken = products_taken P (each_pair P R) ps qs M A R.twice;
      sum = products_sum P (each_pair P R) (zip ps qs) (faultless_pairs P ps qs M.alike A);
    }

  -- what an accepted call leaves
  pub multiplied_promised : (area : List ℕ) → PairsWhen P (two_each ps area) ps qs Good → PairsList P ps qs (multiplied_of P ps qs area).area
  multiplied_promised area G =
      rw (good_multiplies P ps qs area ((pairs_when P (two_each ps area) ps qs Good).1 G)) (pairs_list (when_matching G) (when_allowed G))

  -- the nearest weighted sum is the nearest sum of the list
  pub weighted_list : PairsWhen P true ps qs Good → weighted_of P ps qs ≡ nearest_of P.width (products_of P.width.format (zip ps qs))
  weighted_list G = weighted_nearest P (each_pair P R) ps qs (when_matching G) (when_allowed G) R.twice

-- ---- the same pairs in another order
module _ (P : Pairing) (R : Roomy P) {ps qs rs ss : List ℕ} (π : BothReordered ps qs rs ss) (G : PairsWhen P true ps qs Good) where
  pub pairs_again : PairsWhen P true rs ss Good
  pairs_again = allowed matching tt
      (pairs_back P rs ss π.alike (faultless_reordered P π.order (faultless_pairs P ps qs (when_matching G).alike (when_allowed G))))
    where
      matching : Matching P rs ss
      matching =
          let l : length ps ≡ length rs = sym (zip_length ps qs (when_matching G).alike) ∙ length_reordered π.order ∙ zip_length rs ss π.alike in
          record { few = omega (arith, l, (when_matching G).few); alike = π.alike }

  pub weighted_reordered : weighted_of P ps qs ≡ weighted_of P rs ss
  weighted_reordered =
      weighted_list P R G
      ∙ nearest_reordered (products_reordered P.width.format π.order) {W = P.width}
      (list_allowed ((pairs_list P R (when_matching G) (when_allowed G)).taken true true tt tt))
      ∙ sym (weighted_list P R pairs_again)

-- ---- at the scope's width: the double nearest to the exact sum of the products
pub weighted_promised : (ps qs : List ℕ) → PairsWhen double_pairs true ps qs Good
    → (x : Float) × (nearest_heard doubles (weighted_of double_pairs ps qs) ≡ nearest (to_bits binary64 x)) × NearestWeighted binary64 (zip ps qs) x
weighted_promised ps qs G =
    let L = pairs_list double_pairs roomy_doubles (when_matching G) (when_allowed G) in
    let out = products_of binary64 (zip ps qs) in
    let n = nearest_promised sums_doubles out (L.taken true true tt tt) in (
      nearest_float binary64 (zero_sign doubles out) (sum_of binary64 out),
      ap (nearest_heard doubles) (weighted_list double_pairs roomy_doubles G) ∙ n.0,
      record { units = sum_of binary64 out; exact = L.sum; nearest = n.1 },
    )
