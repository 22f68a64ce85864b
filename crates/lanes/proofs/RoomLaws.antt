-- Lanes with room: what the test says of each lane, that no sum of a lane and its carry leaves 63 bits, and that an addition or a withdrawal leaves room for
-- one call more. Assumes nothing.
use Rattle.std.specs.Prelude.{◌≡◌, refl, ◌↔◌, Bool, true, false, ◌&&◌, List, [], ◌∷◌, ℕ, zero, suc, ◌+◌, ◌^◌, ◌≤◌, ◌<◌, leb, ℤ, pos, negsuc, neg_ℤ, nat_abs}
use Rattle.std.specs.Prelude.{◌+ℤ◌, length, get_or, take}
use Rattle.std.proofs.Common.{ap, ◌∙◌, arith, leb-true, le-leb}
use Rattle.std.proofs.lemmas.List.{length-map}
use Rattle.units.proofs.ExactSum.{abs_plus}
use Rattle.lists.proofs.Apart.{apart}
use Rattle.lists.specs.Digits.{digits, Digits}
use Rattle.lists.specs.DigitLaws.{digits_head, digits_tail, digits_below, digits_length}
use Rattle.lists.specs.Each.{Each, each_at, each_take, each_map, each_weaker}
use Rattle.lists.specs.Every.{every}
use Rattle.lanes.specs.Lanes.{lane_bits, lane_count, no_lanes, most_calls, lane_limit, digits_of, plus_lanes, roomy}
use Rattle.lanes.specs.Settle.{handed_on, lane_carry, carry_into}
use Rattle.lanes.specs.Table.{Small, WithinLimit, Roomy}

-- ---- the test, lane by lane
both : (a b : Bool) → (a && b) ≡ true → (a ≡ true) × (b ≡ true)
both true b e = (refl, e)
both false b e = apart (cc)

each_limit : (calls : ℕ) (zs : List ℤ) → (every (λ z. leb (nat_abs z) (lane_limit calls)) zs ≡ true) ↔ Each (WithinLimit calls) zs
unfolding every
each_limit calls [] = (λ e. tt, λ h. refl)
each_limit calls (z ∷ zs) = (
  λ e. let b = both (leb (nat_abs z) (lane_limit calls)) (every (λ z. leb (nat_abs z) (lane_limit calls)) zs) e in
      (leb-true (nat_abs z) (lane_limit calls) b.0, (each_limit calls zs).0 b.1),
  λ h. rw (le-leb (nat_abs z) (lane_limit calls) h.0, (each_limit calls zs).1 h.1),
)

pub roomy_when : (calls : ℕ) (zs : List ℤ) → (roomy calls zs ≡ true) ↔ Roomy calls zs
unfolding roomy
roomy_when calls zs = (
  λ e. let b = both (leb calls most_calls) (every (λ z. leb (nat_abs z) (lane_limit calls)) zs) e in
      record { few = leb-true calls most_calls b.0; lanes = (each_limit calls zs).0 b.1 },
  λ R. rw (le-leb calls most_calls R.few, (each_limit calls zs).1 R.lanes),
)

-- lanes with room for so many calls have it for the most
pub roomy_most : {calls : ℕ} {zs : List ℤ} → Roomy calls zs → Roomy most_calls zs
roomy_most {calls} {zs} R = record {
  few = omega arith;
  lanes = each_weaker (WithinLimit calls) (WithinLimit most_calls) (λ z h. omega (arith, R.few)) zs R.lanes;
}

-- ---- the carry is at most the calls and 2
handed_small : (calls : ℕ) (t : ℤ) → calls ≤ most_calls → nat_abs t ≤ lane_limit calls + (calls + 2) → nat_abs (handed_on t) ≤ calls + 2
handed_small calls (pos n) f h = omega arith
handed_small calls (negsuc n) f h = omega arith

pub sum_small : (calls : ℕ) (z c : ℤ) → nat_abs z ≤ lane_limit calls → nat_abs c ≤ calls + 2 → nat_abs (z +ℤ c) ≤ lane_limit calls + (calls + 2)
sum_small calls z c h k = omega (arith, abs_plus z c)

carry_small : (calls : ℕ) (c : ℤ) (zs : List ℤ) → calls ≤ most_calls → Each (WithinLimit calls) zs → nat_abs c ≤ calls + 2
    → nat_abs (lane_carry c zs) ≤ calls + 2
unfolding lane_carry
carry_small calls c [] f E h = h
carry_small calls c (z ∷ zs) f E h =
    carry_small calls (handed_on (z +ℤ c)) zs f E.1 (handed_small calls (z +ℤ c) f (sum_small calls z c E.0 h))

module _ {calls : ℕ} {zs : List ℤ} (R : Roomy calls zs) (i : ℕ) where
  pub carry_bound : nat_abs (carry_into zs i) ≤ calls + 2
  carry_bound = carry_small calls (pos 0) (take i zs) R.few (each_take (WithinLimit calls) i zs R.lanes) (omega arith)

  pub lane_bound : i < length zs → nat_abs (get_or zs i (pos 0)) ≤ lane_limit calls
  lane_bound h = each_at (WithinLimit calls) zs i (pos 0) R.lanes h

  -- far from the ends of 63 bits and a sign
  pub lane_carry_bound : i < length zs → nat_abs (get_or zs i (pos 0) +ℤ carry_into zs i) ≤ 2 ^ 62 + 2 ^ 33
  lane_carry_bound h = omega (arith, sum_small calls (get_or zs i (pos 0)) (carry_into zs i) (lane_bound h) carry_bound, R.few)

-- ---- one call more: what an addition or a withdrawal puts into a lane is below 2 ^ 32
each_digit : (ds : List ℕ) → Digits lane_bits ds → Each (λ d. d < 2 ^ lane_bits) ds
each_digit [] D = tt
each_digit (d ∷ ds) D = (digits_head lane_bits D, each_digit ds (digits_tail lane_bits D))

minus_small : (d : ℕ) → d < 2 ^ lane_bits → Small (neg_ℤ (pos d))
minus_small zero h = h
minus_small (suc d) h = h

digits_of_small : (z : ℤ) → Each Small (digits_of z)
unfolding digits_of
digits_of_small (pos n) =
    each_map (λ d. d < 2 ^ lane_bits) Small pos (λ d h. h) (digits lane_bits lane_count n) (each_digit _ (digits_below lane_bits lane_count n))
digits_of_small (negsuc n) =
    each_map (λ d. d < 2 ^ lane_bits) Small (λ d. neg_ℤ (pos d)) minus_small (digits lane_bits lane_count (suc n))
    (each_digit _ (digits_below lane_bits lane_count (suc n)))

pub digits_of_count : (z : ℤ) → length (digits_of z) ≡ lane_count
unfolding digits_of
digits_of_count (pos n) = length-map (digits lane_bits lane_count n) pos ∙ digits_length lane_bits lane_count n
digits_of_count (negsuc n) = length-map (digits lane_bits lane_count (suc n)) (λ d. neg_ℤ (pos d)) ∙ digits_length lane_bits lane_count (suc n)

pub plus_count : (zs ds : List ℤ) → length (plus_lanes zs ds) ≡ length zs
unfolding plus_lanes
plus_count [] ds = refl
plus_count (z ∷ zs) [] = refl
plus_count (z ∷ zs) (d ∷ ds) = ap suc (plus_count zs ds)

plus_limit : (calls : ℕ) (zs ds : List ℤ) → Each (WithinLimit calls) zs → Each Small ds → Each (WithinLimit (calls + 1)) (plus_lanes zs ds)
unfolding plus_lanes
plus_limit calls [] ds E S = tt
plus_limit calls (z ∷ zs) [] E S = each_weaker (WithinLimit calls) (WithinLimit (calls + 1)) (λ y h. omega arith) (z ∷ zs) E
plus_limit calls (z ∷ zs) (d ∷ ds) E S = (omega (arith, abs_plus z d, E.0, S.0), plus_limit calls zs ds E.1 S.1)

pub room_kept : {calls : ℕ} {zs : List ℤ} (z : ℤ) → Roomy calls zs → calls < most_calls → Roomy (calls + 1) (plus_lanes zs (digits_of z))
room_kept {calls} {zs} z R h = record { few = omega arith; lanes = plus_limit calls zs (digits_of z) R.lanes (digits_of_small z) }

-- lanes that hold nothing have room
pub none_roomy : Roomy 0 no_lanes
unfolding roomy every
none_roomy = (roomy_when 0 no_lanes).0 refl
