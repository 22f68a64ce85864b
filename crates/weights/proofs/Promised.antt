-- What is promised of the new weights holds for every accepted call. Assumes nothing.
use Rattle.std.specs.Prelude.{◌≡◌, true, ℕ, suc, ◌+◌, ◌*◌, ◌≤◌, ◌<◌, ◌+ℤ◌, length, get_or}
use Rattle.std.proofs.Math.Path.{refl, ap}
use Rattle.std.proofs.Common.{sym, ◌∙◌, arith, get_or-set_other}
use mathlib.Core.List.{List, [], ◌∷◌, map}
use Rattle.std.proofs.Math.IntN.{pos}
use Rattle.std.proofs.lemmas.List.{length-map}
use Rattle.std.specs.Float.Ieee.{of_bits}
use Rattle.lists.proofs.Front.{map_at}
use Rattle.kinds.specs.Limits.{Width}
use Rattle.weights.specs.Weights.{grains, grain, whole_weight, weight_good, weight_of, pattern_for, total}
use Rattle.weights.specs.Weights.{share, staying, left_over, handed, weights_of, handed_of}
use Rattle.weights.specs.Table.{Weighed, WeightList, Other, Accepted}
use Rattle.weights.specs.Promise.{sum_units, weight_at, positives, Stays, HandedOn}
use Rattle.weights.specs.WeightLaws.{Fine}
use Rattle.weights.proofs.WeightLaws.{one_is, is_value, good_is, good_pattern, pattern_good, pattern_weight}
use Rattle.weights.proofs.FieldLaws.{pattern_zero}
use Rattle.weights.proofs.GrainLaws as grain-laws
use Rattle.weights.specs.GrainLaws.{grain_at}
use Rattle.weights.proofs.HandedLaws.{at_most_total}
use Rattle.weights.proofs.TableLaws.{accepted_hands}
use Rattle.weights.proofs.AcceptedLaws.{at_inside, others_weigh}

module _ (W : Width) (F : Fine W) where
  -- ---- the exact sum of weights is that of their grains
  first : {p : ℕ} {ps : List ℕ} {n : ℕ} → Weighed W (p ∷ ps) (suc n) → weight_good W p ≡ true
  first N = N.each 0 (omega arith)

  others : {p : ℕ} {ps : List ℕ} {n : ℕ} → Weighed W (p ∷ ps) (suc n) → Weighed W ps n
  others N = record { each = λ j h. N.each (suc j) (omega arith) }

  pub weights_sum : (ps : List ℕ) → Weighed W ps (length ps) → sum_units W.format ps ≡ pos (total (weights_of W ps) * grain W.format)
  unfolding total
  weights_sum [] N = ap pos (omega arith)
  weights_sum (p ∷ ps) N =
      (λ i. is_value W.format (of_bits W.format p) _ _ (good_is W F p (first N)) i +ℤ weights_sum ps (others N) i) ∙ ap pos (omega arith)

  -- ---- patterns of grains are weights, with these grains
  back : (ns : List ℕ) → total ns ≤ grains → weights_of W (map (pattern_for W) ns) ≡ ns
  unfolding total
  back [] h = refl
  back (n ∷ ns) h = λ i. pattern_weight W F n (omega arith) i ∷ back ns (omega arith) i

  -- and patterns of good weights are those weights' own
  forth : (ps : List ℕ) → Weighed W ps (length ps) → map (pattern_for W) (weights_of W ps) ≡ ps
  forth [] N = refl
  forth (p ∷ ps) N = λ i. good_pattern W F p (first N) i ∷ forth ps (others N) i

  -- ---- a call that is accepted
  module _ {ps : List ℕ} {at : ℕ} {area : List ℕ} (A : Accepted W ps at area) where
    abbrev ks : List ℕ
    ks = weights_of W ps

    abbrev new : List ℕ
    new = handed at ks

    abbrev qs : List ℕ
    qs = map (pattern_for W) new

    sum : total new ≡ grains
    sum = grain-laws.conserved at ks A.list.sum (at_inside A) (others_weigh A)

    long : length new ≡ length ps
    long = grain-laws.handed_length at ks ∙ length-map ps (weight_of W)

    -- a place's pattern is that of its grains, of which there are 2^30 at most
    module _ (i : ℕ) (h : i < length ps) where
      in_new : i < length new
      in_new = rw long h

      pattern_at : get_or qs i 0 ≡ pattern_for W (get_or new i 0)
      pattern_at = map_at (pattern_for W) new i 0 0 in_new

      small : get_or new i 0 ≤ grains
      small = omega (arith, at_most_total new i in_new, sum)

      new_weight : weight_at W qs i ≡ get_or new i 0
      new_weight = ap (weight_of W) pattern_at ∙ pattern_weight W F (get_or new i 0) small

      good_at : weight_good W (get_or qs i 0) ≡ true
      good_at = ap (weight_good W) pattern_at ∙ pattern_good W F (get_or new i 0) small

      old_weight : get_or ks i 0 ≡ weight_at W ps i
      old_weight = map_at (weight_of W) ps i 0 0 h

      no_weight : get_or new i 0 ≡ 0 → get_or qs i 0 ≡ 0
      no_weight e = pattern_at ∙ ap (pattern_for W) e ∙ pattern_zero W F

    -- ---- the new list
    new_length : length qs ≡ length ps
    new_length = length-map new (pattern_for W) ∙ long

    new_list : WeightList W qs
    new_list = record {
      weights = record { each = λ j h. good_at j (rw new_length at h) };
      sum = ap total (back new (omega (arith, sum))) ∙ sum;
    }

    one_whole : (xs : List ℕ) → WeightList W xs → sum_units W.format xs ≡ pos (whole_weight W.format)
    one_whole xs L = weights_sum xs L.weights ∙ ap pos (ap (λ (n : ℕ). n * grain W.format) L.sum ∙ one_is W F)

    -- ---- what one that stays gains
    module _ (i : ℕ) (S : Stays ps at i) where
      gains : weight_at W qs i ≡ weight_at W ps i + share (weight_at W ps at) (weight_at W ps i) + grain_at at ks i
      gains =
          new_weight i S.inside
          ∙ grain-laws.stayer_gains at ks i (rw (length-map ps (weight_of W)) S.inside) S.other
          ∙ (λ j. old_weight i S.inside j + share (old_weight at A.inside j) (old_weight i S.inside j) + grain_at at ks i)

    -- ---- two that stay
    in_ks : {i : ℕ} → Stays ps at i → i < length ks
    in_ks S = rw (length-map ps (weight_of W)) S.inside

    lowest : (i j : ℕ) → Stays ps at i → Stays ps at j → i < j → 0 < weight_at W ps i
        → weight_at W qs j ≡ weight_at W ps j + share (weight_at W ps at) (weight_at W ps j) + 1
        → weight_at W qs i ≡ weight_at W ps i + share (weight_at W ps at) (weight_at W ps i) + 1
    lowest i j I J l p e =
        let stays : get_or (staying at ks) i 0 ≡ weight_at W ps i = get_or-set_other ks at i 0 0 I.other ∙ old_weight i I.inside in
        let g : grain_at at ks j ≡ 1 = omega (arith, gains j J, e) in
        let h : grain_at at ks i ≡ 1 = grain-laws.lowest_first at ks i j l (rw stays p) g in
        gains i I ∙ ap (λ (n : ℕ). weight_at W ps i + share (weight_at W ps at) (weight_at W ps i) + n) h

    near : (i j : ℕ) → Stays ps at i → Stays ps at j → weight_at W ps i ≡ weight_at W ps j → weight_at W qs i ≤ weight_at W qs j + 1
    near i j I J e =
        let same = old_weight i I.inside ∙ e ∙ sym (old_weight j J.inside) in
        rw (new_weight i I.inside, new_weight j J.inside) (grain-laws.equal_near at ks i j (in_ks I) (in_ks J) I.other J.other same)

    in_order : (i j : ℕ) → Stays ps at i → Stays ps at j → weight_at W ps i < weight_at W ps j → weight_at W qs i ≤ weight_at W qs j
    in_order i j I J l =
        let lighter : get_or ks i 0 < get_or ks j 0 = rw (old_weight i I.inside, old_weight j J.inside) l in
        let light = grain-laws.leaver_light at ks A.list.sum (at_inside A) (others_weigh A) in
        rw (new_weight i I.inside, new_weight j J.inside) (grain-laws.heavier_above at ks i j (in_ks I) (in_ks J) I.other J.other light lighter)

    left : left_over (weight_at W ps at) (staying at ks) < positives (staying at ks)
    left = rw (old_weight at A.inside) at (grain-laws.left_less at ks A.list.sum (at_inside A) (others_weigh A))

    unchanged : weight_at W ps at ≡ 0 → qs ≡ ps
    unchanged e = ap (map (pattern_for W)) (grain-laws.zero_leaves at ks (old_weight at A.inside ∙ e)) ∙ forth ps A.list.weights

    hands_on : HandedOn W ps at qs
    hands_on = record {
      as_long = new_length;
      conserved = one_whole qs new_list ∙ sym (one_whole ps A.list);
      whole = one_whole qs new_list;
      again = new_list;
      leaver = no_weight at A.inside (grain-laws.leaver_nothing at ks (at_inside A));
      least = λ i S. omega (arith, gains i S);
      most = λ i S. omega (arith, gains i S, grain-laws.grain_most at ks i);
      nothing = λ i S e. no_weight i S.inside (grain-laws.zero_nothing at ks i (in_ks S) S.other (old_weight i S.inside ∙ e));
      left = left;
      lowest = lowest;
      unchanged = unchanged;
      near = near;
      in_order = in_order;
    }

    -- it can be handed on again, by any clock, as long as another has weight
    again : {next : ℕ} {room : List ℕ} → length room ≡ length ps → next < length ps → Other W qs next → Accepted W qs next room
    again r h O = record {
      fitting = record { few = rw new_length A.fitting.few; room = rw new_length r };
      list = new_list;
      inside = rw new_length h;
      other = O;
    }

    pub handed_again : {next : ℕ} {room : List ℕ} → length room ≡ length ps → next < length ps → Other W (handed_of W ps at area).area next
        → Accepted W (handed_of W ps at area).area next room
    handed_again = rw (accepted_hands W F ps at area A) again

    -- what the call leaves in the area
    pub handed_promised : HandedOn W ps at (handed_of W ps at area).area
    handed_promised = rw (accepted_hands W F ps at area A) hands_on
