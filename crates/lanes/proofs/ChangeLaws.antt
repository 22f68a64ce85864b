-- An addition or a withdrawal that is accepted changes the lanes' whole number by its number and by nothing else, leaves room for one call more, and is
-- undone by its opposite, lane by lane. Assumes nothing.
use Rattle.std.specs.Prelude.{◌≡◌, refl, List, [], ◌∷◌, map, ℕ, zero, suc, ◌+◌, ◌*◌, ◌^◌, ◌<◌, ℤ, pos, negsuc, neg_ℤ, nat_abs, ◌+ℤ◌, length}
use Rattle.std.proofs.Common.{sym, ap, ◌∙◌, mod-eq_of_lt, lt_of_le_of_lt, arith, lit<}
use Rattle.std.proofs.Math.IntN.{neg_ℤ-neg_ℤ, +ℤ-neg_ℤ_cancel}
use Rattle.std.proofs.Math.Pow.{pow-lt}
use Rattle.lists.specs.Digits.{number, digits}
use Rattle.lists.specs.DigitLaws.{number_digits}
use Rattle.kinds.specs.Limits.{doubles}
use Rattle.kinds.specs.Outcome.{outcome}
use Rattle.judge.specs.Judge.{fault_of}
use Rattle.judge.specs.FaultLaws.{most_doubles}
use Rattle.addend.specs.Addend.{units_of}
use Rattle.register.specs.Entries.{Change, add, withdraw, pattern_of, change_of}
use Rattle.register.proofs.RunLaws.{change_small}
use Rattle.lanes.specs.Laid.{Counted}
use Rattle.lanes.specs.Lanes.{lane_bits, lane_count, lane_sum, most_calls, digits_of, plus_lanes, lay, lane_added, lane_withdrawn}
use Rattle.lanes.specs.Runs.{lane_changed}
use Rattle.lanes.proofs.SumLaws.{sum_plus, sum_digits, sum_minus}
use Rattle.lanes.proofs.RoomLaws.{roomy_when, digits_of_count, plus_count, room_kept}
use Rattle.lanes.specs.Table.{Roomy}
use Rattle.lanes.proofs.LayLaws.{lay_in}
use Rattle.lanes.proofs.LanesLaws.{lay_leaves, lay_counts, lay_given}

-- ---- the digits of a number that fits stand for it
module _ (n : ℕ) where
  digits_fit : n < 2 ^ (lane_bits * lane_count) → number lane_bits (digits lane_bits lane_count n) ≡ n
  digits_fit h = number_digits lane_bits lane_count n ∙ mod-eq_of_lt h

pub digits_of_sum : (z : ℤ) → nat_abs z < 2 ^ (lane_bits * lane_count) → lane_sum (digits_of z) ≡ z
unfolding digits_of
digits_of_sum (pos n) h = sum_digits (digits lane_bits lane_count n) ∙ ap pos (digits_fit n h)
digits_of_sum (negsuc n) h = sum_minus (digits lane_bits lane_count (suc n)) ∙ ap (λ (m : ℕ). neg_ℤ (pos m)) (digits_fit (suc n) h)

-- an allowed number's do
change_fits : (c : Change) → fault_of doubles (pattern_of c) ≡ 0 → nat_abs (change_of c) < 2 ^ (lane_bits * lane_count)
change_fits c e = lt_of_le_of_lt (change_small c e) (rw most_doubles (pow-lt {i = 2074} {j = lane_bits * lane_count} (lit< tt)))

-- ---- the two calls
pub change_added : (zs : List ℤ) (calls p : ℕ) → lane_changed zs calls (add p) ≡ lane_added zs calls p
change_added zs calls p = refl

pub change_withdrawn : (zs : List ℤ) (calls p : ℕ) → lane_changed zs calls (withdraw p) ≡ lane_withdrawn zs calls p
change_withdrawn zs calls p = refl

-- ---- an accepted call, of lanes zs that took so many calls
module _ (zs : List ℤ) (calls : ℕ) (c : Change) {n : ℕ} (a : (lane_changed zs calls c).answer ≡ Counted n) where
  abbrev after : List ℤ
  after = (lane_changed zs calls c).area

  abbrev given : (length zs ≡ lane_count) × Roomy calls zs × (fault_of doubles (pattern_of c) ≡ 0)
  given = lay_given zs calls (pattern_of c) (change_of c) a

  -- rule N3: each lane with the number's digit
  pub change_lanes : (lane_changed zs calls c).area ≡ plus_lanes zs (digits_of (change_of c))
  change_lanes = lay_leaves zs calls (pattern_of c) (change_of c) a

  -- rule N1: the whole number changes by the number's units, or by their opposite
  pub change_sum : lane_sum (lane_changed zs calls c).area ≡ lane_sum zs +ℤ change_of c
  change_sum =
      ap lane_sum change_lanes
      ∙ sum_plus zs (digits_of (change_of c)) (digits_of_count (change_of c) ∙ sym given.0)
      ∙ ap (λ (z : ℤ). lane_sum zs +ℤ z) (digits_of_sum (change_of c) (change_fits c given.2))

  pub change_count : length (lane_changed zs calls c).area ≡ lane_count
  change_count = ap length change_lanes ∙ plus_count zs (digits_of (change_of c)) ∙ given.0

  -- rule N4: room for the next
  pub change_roomy : Roomy n (lane_changed zs calls c).area
  change_roomy =
      let m = lay_counts zs calls (pattern_of c) (change_of c) a in
      rw (change_lanes, m.0) (room_kept (change_of c) given.1 m.1)

-- ---- undone by the opposite, lane by lane
minus_each : (ds : List ℕ) → map (λ d. neg_ℤ (pos d)) ds ≡ map neg_ℤ (map pos ds)
minus_each [] = refl
minus_each (d ∷ ds) = ap (λ (es : List ℤ). neg_ℤ (pos d) ∷ es) (minus_each ds)

plus_each : (ds : List ℕ) → map pos ds ≡ map neg_ℤ (map (λ d. neg_ℤ (pos d)) ds)
plus_each [] = refl
plus_each (d ∷ ds) = λ i. sym (neg_ℤ-neg_ℤ (pos d)) i ∷ plus_each ds i

digits_opposite : (z : ℤ) → digits_of (neg_ℤ z) ≡ map neg_ℤ (digits_of z)
unfolding digits_of digits
digits_opposite (pos zero) = refl
digits_opposite (pos (suc n)) = minus_each (digits lane_bits lane_count (suc n))
digits_opposite (negsuc n) = plus_each (digits lane_bits lane_count (suc n))

plus_undone : (zs ds : List ℤ) → plus_lanes (plus_lanes zs ds) (map neg_ℤ ds) ≡ zs
unfolding plus_lanes
plus_undone [] ds = refl
plus_undone (z ∷ zs) [] = refl
plus_undone (z ∷ zs) (d ∷ ds) = λ i. +ℤ-neg_ℤ_cancel z d i ∷ plus_undone zs ds i

pub plus_opposite : (zs : List ℤ) (z : ℤ) → plus_lanes (plus_lanes zs (digits_of z)) (digits_of (neg_ℤ z)) ≡ zs
plus_opposite zs z = rw (digits_opposite z) (plus_undone zs (digits_of z))

-- where the count allows one call more, the opposite call is accepted, and leaves the lanes as they were before the two
undo : (zs : List ℤ) (calls p : ℕ) (y z : ℤ) {n : ℕ} → neg_ℤ y ≡ z → (lay zs calls p y).answer ≡ Counted n → n < most_calls
    → lay (lay zs calls p y).area n p z ≡ outcome (Counted (n + 1)) zs
undo zs calls p y z {n} o a h =
    let g = lay_given zs calls p y a in
    let m = lay_counts zs calls p y a in
    let after : (lay zs calls p y).area ≡ plus_lanes zs (digits_of y) = lay_leaves zs calls p y a in
    let R : Roomy n (lay zs calls p y).area = rw (after, m.0) (room_kept y g.1 m.1) in
    lay_in (lay zs calls p y).area n p z (ap length after ∙ plus_count zs (digits_of y) ∙ g.0) ((roomy_when n (lay zs calls p y).area).1 R) g.2
    (λ e. omega arith)
    ∙ ap (outcome (Counted (n + 1))) (rw (after, ← o) (plus_opposite zs y))

pub withdraw_undoes : (zs : List ℤ) (calls p : ℕ) {n : ℕ} → (lane_added zs calls p).answer ≡ Counted n → n < most_calls
    → lane_withdrawn (lane_added zs calls p).area n p ≡ outcome (Counted (n + 1)) zs
withdraw_undoes zs calls p = undo zs calls p (units_of doubles p) (neg_ℤ (units_of doubles p)) refl

pub add_undoes : (zs : List ℤ) (calls p : ℕ) {n : ℕ} → (lane_withdrawn zs calls p).answer ≡ Counted n → n < most_calls
    → lane_added (lane_withdrawn zs calls p).area n p ≡ outcome (Counted (n + 1)) zs
add_undoes zs calls p = undo zs calls p (neg_ℤ (units_of doubles p)) (units_of doubles p) (neg_ℤ-neg_ℤ (units_of doubles p))
