-- The list of the products of pairs that have no fault: no list is refused for it, it is not nothing but -0, its exact sum is that of the products, and its
-- nearest sum the nearest weighted sum. Of pairs it takes what is promised of their two numbers. Assumes nothing.
use Rattle.std.specs.Prelude.{◌≡◌, Bool, false, ℕ, ◌-◌, ◌*◌, ◌^◌, ◌≤◌, ◌<◌, T, ℤ, ◌+ℤ◌, ◌*ℤ◌, length}
use Rattle.std.proofs.Common.{sym, ◌∙◌, arith}
use Rattle.std.proofs.Math.Path.{ap}
use Rattle.std.proofs.Math.Bool.{true}
use mathlib.Core.List.{List, [], ◌∷◌, zip}
use Rattle.std.proofs.Math.IntN.{pos, +ℤ_assoc, *ℤ-zero}
use Rattle.std.proofs.Math.Pow.{pow_pos}
use Rattle.std.specs.Float.{Format}
use Rattle.std.specs.Float.Ieee.{prec, low, top, of_bits, to_bits}
use Rattle.units.proofs.ScaledSums.{scale_plus}
use Rattle.ieee.specs.Units.{value, nearest_float}
use Rattle.ieee.proofs.Zeros.{minus_value}
use Rattle.lists.specs.Each.{each_at, each_from}
use Rattle.kinds.specs.Verdict.{Good}
use Rattle.kinds.specs.Nearest as nearests
use Rattle.judge.specs.Judge.{zero_sign}
use Rattle.judge.specs.Table.{Allowed, ListWhen, MinusZeros, allowed}
use Rattle.judge.specs.FaultLaws.{fault_0}
use Rattle.judge.proofs.AllowedLaws.{allowed_none, allowed_more}
use Rattle.judge.proofs.JudgeLaws.{list_when}
use Rattle.judge.proofs.ZeroLaws.{zero_plus}
use Rattle.sums.specs.Sums.{sum_of, nearest_after, nearest_of}
use Rattle.pairs.specs.Limits.{Pairing}
use Rattle.pairs.specs.Pairs.{Pair, nearest_product, product_of, error_of, products_of, weighted_sum, pair_fault, weighted_of}
use Rattle.pairs.specs.Table as pair-rows
use Rattle.pairs.specs.Table.{AllowedPairs, Matching}
use Rattle.pairs.proofs.ZipLaws.{zip_length, zip_at}
use Rattle.pairs.proofs.JudgedLaws.{pairs_when}
use Rattle.pairs.proofs.TableLaws.{good_weighs}
use Rattle.pairs.proofs.WriteLaws.{products_length}
use Rattle.pairs.proofs.ProductLaws.{nearest_scaled}
use Rattle.pairs.specs.ListLaws.{EachPair, Faultless}

pub faultless_pairs : (P : Pairing) (ps qs : List ℕ) → length ps ≡ length qs → AllowedPairs P ps qs → Faultless P (zip ps qs)
faultless_pairs P ps qs e A = each_from (λ (c : Pair). pair_fault P c ≡ 0) (zip ps qs) (0, 0) (λ i h.
    let l : i < length ps = rw (zip_length ps qs e) at h in
    ap (pair_fault P) (zip_at ps qs e 0 0 i l) ∙ A.none i l)

pub pairs_back : (P : Pairing) (ps qs : List ℕ) → length ps ≡ length qs → Faultless P (zip ps qs) → AllowedPairs P ps qs
pairs_back P ps qs e F = record {
  none = λ i h.
      sym (ap (pair_fault P) (zip_at ps qs e 0 0 i h))
      ∙ each_at (λ (c : Pair). pair_fault P c ≡ 0) (zip ps qs) i (0, 0) F (rw (zip_length ps qs e) h);
}

module _ (P : Pairing) (N : EachPair P) where
  abbrev f : Format
  f = P.width.format

  pub products_sum : (cs : List Pair) → Faultless P cs
      → pos (2 ^ low P.width.format) *ℤ sum_of P.width.format (products_of P.width.format cs) ≡ weighted_sum P.width.format cs
  unfolding products_of
  products_sum [] F = *ℤ-zero (pos (2 ^ low f))
  products_sum (c ∷ cs) F =
      let l = pos (2 ^ low f) in
      let x = value f (of_bits f (to_bits f (product_of f c))) in
      let y = value f (of_bits f (to_bits f (error_of f c))) in
      let S = sum_of f (products_of f cs) in
      ap (λ (z : ℤ). l *ℤ z) (sym (+ℤ_assoc x y S))
      ∙ scale_plus (2 ^ low f) (x +ℤ y) S
      ∙ (λ i. (N c F.0).exact i +ℤ products_sum cs F.1 i)

  pub products_allowed : (cs : List Pair) → Faultless P cs → Allowed P.width (products_of P.width.format cs)
  unfolding products_of
  products_allowed [] F = allowed_none
  products_allowed (c ∷ cs) F =
      let n = N c F.0 in
      allowed_more ((fault_0 P.width _).1 (n.product.fini, n.small_product))
      (allowed_more ((fault_0 P.width _).1 (n.error.fini, n.small_error)) (products_allowed cs F.1))

  -- an error is never -0
  none_minus : (cs : List Pair) → Faultless P cs → MinusZeros P.width (products_of f cs) → ⊥
  unfolding products_of
  none_minus [] F M = omega (arith, M.some)
  none_minus (c ∷ cs) F M =
      let y = to_bits f (error_of f c) in
      let e : y ≡ top f = M.each.1.0 in
      let z : y ≡ 0 = (N c F.0).plus (ap (λ (p : ℕ). value f (of_bits f p)) e ∙ minus_value f) in
      omega (arith, e, z, pow_pos (prec f - 1))

  pub products_plus : (cs : List Pair) → Faultless P cs → zero_sign P.width (products_of P.width.format cs) ≡ false
  products_plus cs F = (zero_plus P.width (products_of f cs)).1 (none_minus cs F)

  -- ---- of two lists
  module _ (ps qs : List ℕ) (M : Matching P ps qs) (A : AllowedPairs P ps qs) (twice : 2 * P.length ≤ P.width.length) where
    abbrev cs : List Pair
    cs = zip ps qs

    F : Faultless P cs
    F = faultless_pairs P ps qs M.alike A

    list_length : length (products_of f cs) ≡ 2 * length ps
    list_length = products_length f cs ∙ ap (λ (n : ℕ). 2 * n) (zip_length ps qs M.alike)

    pub products_taken : (area parts : Bool) → T area → T parts → ListWhen P.width area parts (products_of P.width.format (zip ps qs)) Good
    products_taken area parts a b = allowed (record { few = omega (arith, list_length, M.few); right_area = a; right_parts = b }) (products_allowed cs F)

    pub products_nearest : nearest_of P.width (products_of P.width.format (zip ps qs))
        ≡ nearests.Sum (nearest_product P.width.format (weighted_sum P.width.format (zip ps qs)))
    unfolding nearest_after
    products_nearest =
        let S = sum_of f (products_of f cs) in
        rw ((list_when P.width true true (products_of f cs) Good).1 (products_taken true true tt tt), products_plus cs F)
        (ap nearests.Sum (sym (nearest_scaled f S) ∙ ap (nearest_product f) (products_sum cs F)))

    -- so the call's answer is the nearest sum of the list, and the nearest float of its exact sum
    answered : weighted_of P ps qs ≡ nearests.Sum (nearest_product f (weighted_sum f cs))
    answered = good_weighs P ps qs ((pairs_when P true ps qs Good).1 (pair-rows.allowed M tt A))

    pub weighted_nearest : weighted_of P ps qs ≡ nearest_of P.width (products_of P.width.format (zip ps qs))
    weighted_nearest = answered ∙ sym products_nearest

    pub weighted_float : weighted_of P ps qs
        ≡ nearests.Sum (nearest_float P.width.format false (sum_of P.width.format (products_of P.width.format (zip ps qs))))
    weighted_float = answered ∙ ap nearests.Sum (sym (sym (nearest_scaled f (sum_of f (products_of f cs))) ∙ ap (nearest_product f) (products_sum cs F)))
