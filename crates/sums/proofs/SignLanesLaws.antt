-- A number put into lanes by sign: what its side gains, and that the other side and the room of the lanes stay. Assumes nothing.
use Rattle.std.specs.Prelude.{◌≡◌, refl, List, ℕ, zero, suc, ◌+◌, ◌*◌, ◌%◌, ◌^◌, ◌≤◌, ◌<◌, T, length, get_or, set, take, drop, replicate}
use Rattle.std.proofs.Common.{sym, ap, ◌∙◌, inl, inr, arith, length-drop, length-take-le, drop-set-lt, get_or-take, get_or-drop, get_or-set_same}
use Rattle.std.proofs.Common.{get_or-set_other}
use Rattle.std.specs.Float.Ieee.{of_bits}
use Rattle.std.specs.Float.Ieee.Scale.{finite}
use Rattle.std.proofs.Math.Seq.{take-set-lt}
use Rattle.std.proofs.lemmas.List.{take-set-le, drop-set-add}
use Rattle.units.proofs.Powers.{le_or_lt}
use Rattle.units.specs.Whole.{Whole, nat, neg, difference, int}
use Rattle.units.proofs.Integers.{int_same}
use Rattle.ieee.specs.Units.{magnitude}
use Rattle.lists.specs.Digits.{number}
use Rattle.lists.specs.DigitLaws.{number_set}
use Rattle.kinds.specs.Limits.{doubles}
use Rattle.addend.specs.PatternFields.{pattern_plus, pattern_minus}
use Rattle.addend.specs.Sides.{sides_of}
use Rattle.addend.proofs.SidesLaws.{minus_side}
use Rattle.sums.specs.Sums.{sum_of}
use Rattle.sums.specs.ListSides.{list_sides}
use Rattle.sums.proofs.SideSums.{sides_sum}
use Rattle.sums.specs.SignLanes.{lane_bits, side_lanes, lane_sides, Lanes, Empty, Room, AtLane, Put, Gathered}
use Rattle.sums.specs.SignLanesLaws.{raised}

rises : (xs : List ℕ) (k d : ℕ) → k < length xs → number lane_bits (raised xs k d) ≡ number lane_bits xs + d * 2 ^ (lane_bits * k)
rises xs k d h = omega (arith, number_set lane_bits xs k (get_or xs k 0 + d) h)

module _ (xs : List ℕ) (d : ℕ) (long : length xs ≡ side_lanes + side_lanes) where
  -- a lane of the first side
  low_side : (k : ℕ) → k < side_lanes → (number lane_bits (take side_lanes (raised xs k d)) ≡ number lane_bits (take side_lanes xs) + d * 2 ^ (lane_bits * k))
      × (number lane_bits (drop side_lanes (raised xs k d)) ≡ number lane_bits (drop side_lanes xs))
  low_side k h = (
    ap (number lane_bits) (take-set-lt side_lanes xs k (get_or xs k 0 + d) h)
        ∙ ap (λ (x : ℕ). number lane_bits (set (take side_lanes xs) k (x + d))) (sym (get_or-take side_lanes xs k 0 h))
        ∙ rises (take side_lanes xs) k d (omega (arith, length-take-le side_lanes xs (omega arith))),
    ap (number lane_bits) (drop-set-lt side_lanes xs k (get_or xs k 0 + d) h),
  )

  -- and of the second
  high_side : (j : ℕ) → j < side_lanes → (number lane_bits (take side_lanes (raised xs (side_lanes + j) d)) ≡ number lane_bits (take side_lanes xs))
      × (number lane_bits (drop side_lanes (raised xs (side_lanes + j) d)) ≡ number lane_bits (drop side_lanes xs) + d * 2 ^ (lane_bits * j))
  high_side j h = (
    ap (number lane_bits) (take-set-le side_lanes xs (side_lanes + j) (get_or xs (side_lanes + j) 0 + d) (omega arith)),
    ap (number lane_bits) (drop-set-add side_lanes xs j (get_or xs (side_lanes + j) 0 + d))
        ∙ ap (λ (x : ℕ). number lane_bits (set (drop side_lanes xs) j (x + d))) (sym (get_or-drop side_lanes xs j 0))
        ∙ rises (drop side_lanes xs) j d (omega (arith, length-drop side_lanes xs)),
  )

-- no lane has more than d more
raised_most : (xs : List ℕ) (k d c : ℕ) → k < length xs → d ≤ c → (j : ℕ) → get_or (raised xs k d) j 0 ≤ get_or xs j 0 + c
raised_most xs k d c h l j = elim (le_or_lt j k) [
  | inl a ↦ elim (le_or_lt k j) [
    | inl b ↦
        let e : j ≡ k = omega arith in
        rw (e, get_or-set_same xs k (get_or xs k 0 + d) 0 h) (omega arith)
    | inr b ↦ rw (get_or-set_other xs k j (get_or xs k 0 + d) 0 (λ e. omega arith)) (omega arith)
  ]
  | inr a ↦ rw (get_or-set_other xs k j (get_or xs k 0 + d) 0 (λ e. omega arith)) (omega arith)
]

abbrev size : ℕ → ℕ
size p = magnitude doubles.format (of_bits doubles.format p)

module _ {p k d h : ℕ} {low above : List ℕ} (fits : p < 2 ^ 64) (F : T (finite (of_bits doubles.format p))) (L : Lanes low above) (A : AtLane p k d h) where
  digits_most : (j : ℕ) → get_or (raised low k d) j 0 ≤ get_or low j 0 + 2 ^ lane_bits
  digits_most = raised_most low k d (2 ^ lane_bits) (omega (arith, L.first, A.within)) (omega (arith, A.low))

  rests_most : (j : ℕ) → get_or (raised above k h) j 0 ≤ get_or above j 0 + 2 ^ 52
  rests_most = raised_most above k h (2 ^ 52) (omega (arith, L.second, A.within)) A.above

  plus_put : p < 2 ^ 63 → Put p low above (raised low k d) (raised above k h)
  plus_put g =
      let l : k < side_lanes = omega (arith, A.side, A.within) in
      let e : k % side_lanes ≡ k = omega arith in
      let x = low_side low d L.first k l in
      let y = low_side above h L.second k l in
      let u : sides_of doubles p ≡ nat (size p) = ap difference (pattern_plus doubles.format p F g) in
      let units : (d + h * 2 ^ lane_bits) * 2 ^ (lane_bits * k) ≡ size p = rw e at A.units in
      record {
        plus = rw (x.0, y.0) (omega (arith, units, ap (λ (z : Whole). z.up) u));
        minus = rw (x.1, y.1) (omega (arith, ap (λ (z : Whole). z.dn) u));
        digits = digits_most;
        rests = rests_most;
      }

  minus_put : 2 ^ 63 ≤ p → Put p low above (raised low k d) (raised above k h)
  minus_put g =
      let j = k % side_lanes in
      let l : j < side_lanes = omega arith in
      let e : k ≡ side_lanes + j = omega (arith, A.side, A.within) in
      let x = high_side low d L.first j l in
      let y = high_side above h L.second j l in
      let u : sides_of doubles p ≡ neg (nat (size p)) = ap difference (pattern_minus doubles.format p F g) ∙ minus_side (size p) in
      record {
        plus = by_lane e (λ k'. number lane_bits (take side_lanes (raised low k' d)) + number lane_bits (take side_lanes (raised above k' h)) * 2 ^ lane_bits)
            (rw (x.0, y.0) (omega (arith, ap (λ (z : Whole). z.up) u)));
        minus = by_lane e (λ k'. number lane_bits (drop side_lanes (raised low k' d)) + number lane_bits (drop side_lanes (raised above k' h)) * 2 ^ lane_bits)
            (rw (x.1, y.1) (omega (arith, A.units, ap (λ (z : Whole). z.dn) u)));
        digits = digits_most;
        rests = rests_most;
      }
    where
      by_lane : {i j r : ℕ} → i ≡ j → (f : ℕ → ℕ) → f j ≡ r → f i ≡ r
      by_lane e f q = ap f e ∙ q

  pub put_at : Put p low above (raised low k d) (raised above k h)
  put_at = elim (le_or_lt (2 ^ 63) p) [
    | inl g ↦ minus_put g
    | inr g ↦ plus_put g
  ]

-- ---- a list in lanes, number by number
zero_at : (n j : ℕ) → get_or {A = ℕ} (replicate n 0) j 0 ≡ 0
zero_at zero j = refl
zero_at (suc n) zero = refl
zero_at (suc n) (suc j) = zero_at n j

module _ {low above : List ℕ} where
  pub room_none : Empty low above → Room 0 low above
  room_none E = record {
    digits = λ j. rw (E.first, zero_at (side_lanes + side_lanes) j) (omega arith);
    rests = λ j. rw (E.second, zero_at (side_lanes + side_lanes) j) (omega arith);
  }

  pub sides_none : Empty low above → ((lane_sides low above).up ≡ 0) × ((lane_sides low above).dn ≡ 0)
  unfolding number
  sides_none E = (rw (E.first, E.second), rw (E.first, E.second))

  pub room_within : {i n : ℕ} → i ≤ n → Room i low above → Room n low above
  room_within l R = record { digits = λ j. omega (arith, R.digits j); rests = λ j. omega (arith, R.rests j) }

  pub room_next : {i p : ℕ} {low' above' : List ℕ} → Room i low above → Put p low above low' above' → Room (i + 1) low' above'
  room_next R P = record { digits = λ j. omega (arith, R.digits j, P.digits j); rests = λ j. omega (arith, R.rests j, P.rests j) }

pub gathered_sum : {ps low above : List ℕ} → Gathered ps low above → int (lane_sides low above) ≡ sum_of doubles.format ps
gathered_sum {ps} {low} {above} G = int_same (lane_sides low above) (list_sides doubles ps) (omega (arith, G.plus, G.minus)) ∙ sides_sum doubles ps
