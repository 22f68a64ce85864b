-- One lane of those that are settled: its sum with what is carried into it, what it hands on and its digit, as the machine reads them back. Assumes nothing.
use mathlib.Core.Path.{◌≡◌, sym, ap, ◌∙◌}
use mathlib.Core.List.{List, [], ◌∷◌, ◌++◌, map, map-append}
use Prim.Native.Nat.{ℕ, suc, ◌+◌, ◌^◌, ◌≤◌, ◌<◌}
use native.Mathlib.Nat.{le_of_lt}
use native.Mathlib.Numerals.{add-one}
use native.Mathlib.Omega.{arith}
use lib.IntN.{ℤ, pos, nat_abs, ◌+ℤ◌}
use lib.ListN.{length, get_or, take, drop, set, length-map, drop_of_length-le}
use lib.Seq.{length-take-le, drop-cons, append_snoc, get_or_at, set_at}
use lib.Signed.{mag, mag_shr}
use mir.Syntax.{w64}
use mir.Val.{to_z, of_z}
use Rattle.lanes.specs.Lanes.{lane_bits, lane_count, most_calls, lane_limit}
use Rattle.lanes.specs.Settle.{lane_digit, handed_on, lane_digits, carry_into}
use Rattle.lanes.proofs.SettleLaws.{lane_at, carry_next, digits_next, digits_count, digit_lt}
use Rattle.lanes.specs.Table.{Roomy}
use Rattle.lanes.proofs.RoomLaws.{lane_bound, carry_bound, lane_carry_bound}
use Rattle.lanes.proofs.Signed64.{mag_abs, back}

module _ {zs : List ℤ} (R : Roomy most_calls zs) {i : ℕ} (h : i < length zs) (c : ℕ) (e : to_z w64 c ≡ carry_into zs i) where
  lane_back : to_z w64 (of_z w64 (get_or zs i (pos 0))) ≡ get_or zs i (pos 0)
  lane_back = back (get_or zs i (pos 0)) (omega (arith, mag_abs (get_or zs i (pos 0)), lane_bound R i h))

  -- what is asked of both
  pub addends : (nat_abs (to_z w64 (of_z w64 (get_or zs i (pos 0)))) ≤ lane_limit most_calls) × (nat_abs (to_z w64 c) ≤ 2 ^ lane_bits)
  addends = (rw lane_back (lane_bound R i h), rw e (omega (arith, carry_bound R i)))

  module _ {s : ℤ} (p : s ≡ to_z w64 (of_z w64 (get_or zs i (pos 0))) +ℤ to_z w64 c) where
    pub summed : s ≡ lane_at zs i h
    summed = p ∙ (λ j. lane_back j +ℤ e j)

    sum_small : mag (lane_at zs i h) < 2 ^ 63
    sum_small = omega (arith, mag_abs (lane_at zs i h), lane_carry_bound R i h)

    pub sum_back : to_z w64 (of_z w64 s) ≡ lane_at zs i h
    sum_back = rw summed (back (lane_at zs i h) sum_small)

    pub handed : {r : ℤ} → r ≡ handed_on (to_z w64 (of_z w64 s)) → to_z w64 (of_z w64 r) ≡ carry_into zs (i + 1)
    handed {r} q =
        let on = q ∙ ap handed_on sum_back in
        rw (on, add-one i, carry_next zs i h) (back (handed_on (lane_at zs i h)) (omega (arith, mag_shr (lane_at zs i h) (2 ^ lane_bits), sum_small)))

    pub rested : {r : ℤ} → r ≡ pos (lane_digit (to_z w64 (of_z w64 s))) → to_z w64 (of_z w64 r) ≡ pos (lane_digit (lane_at zs i h))
    rested {r} q =
        let d = q ∙ ap (λ (t : ℤ). pos (lane_digit t)) sum_back in
        rw d (back (pos (lane_digit (lane_at zs i h))) (omega (arith, digit_lt (lane_at zs i h))))

-- ---- the lowest i lanes hold their digits, and the others what they held
abbrev pub settled_to : List ℤ → ℕ → List ℤ
settled_to zs i = map pos (lane_digits (pos 0) (take i zs)) ++ drop i zs

module _ (zs : List ℤ) (i : ℕ) where
  lower : i ≤ length zs → length (map pos (lane_digits (pos 0) (take i zs))) ≡ i
  lower h = length-map (lane_digits (pos 0) (take i zs)) pos ∙ digits_count (pos 0) (take i zs) ∙ length-take-le i zs h

  module _ (h : i < length zs) where
    ahead : settled_to zs i ≡ map pos (lane_digits (pos 0) (take i zs)) ++ (get_or zs i (pos 0) ∷ drop (suc i) zs)
    ahead = ap (λ (ys : List ℤ). map pos (lane_digits (pos 0) (take i zs)) ++ ys) (drop-cons zs i (pos 0) h)

    pub settled_ahead : get_or (settled_to zs i) i (pos 0) ≡ get_or zs i (pos 0)
    settled_ahead =
        ap (λ (ys : List ℤ). get_or ys i (pos 0)) ahead
        ∙ get_or_at (map pos (lane_digits (pos 0) (take i zs))) (get_or zs i (pos 0)) (drop (suc i) zs) (pos 0) i (lower (le_of_lt h))

    pub settled_set : (a : ℤ) → set (settled_to zs i) i a ≡ map pos (lane_digits (pos 0) (take i zs)) ++ (a ∷ drop (suc i) zs)
    settled_set a =
        ap (λ (ys : List ℤ). set ys i a) ahead
        ∙ set_at (map pos (lane_digits (pos 0) (take i zs))) (get_or zs i (pos 0)) (drop (suc i) zs) a i (lower (le_of_lt h))

    pub settled_next : set (settled_to zs i) i (pos (lane_digit (lane_at zs i h))) ≡ settled_to zs (i + 1)
    settled_next =
        let d = lane_digit (lane_at zs i h) in
        let ds = lane_digits (pos 0) (take i zs) in
        settled_set (pos d)
        ∙ sym (append_snoc (map pos ds) (pos d) (drop (suc i) zs))
        ∙ sym (rw (add-one i, digits_next zs i h, map-append pos ds (d ∷ [])))

-- and with the top one
pub settled_last : (zs : List ℤ) → length zs ≡ lane_count → (t : ℤ) → set (settled_to zs 65) 65 t ≡ map pos (lane_digits (pos 0) (take 65 zs)) ++ (t ∷ [])
settled_last zs l t =
    settled_set zs 65 (omega arith) t
    ∙ ap (λ (ys : List ℤ). map pos (lane_digits (pos 0) (take 65 zs)) ++ (t ∷ ys)) (drop_of_length-le zs {i = 66} (omega arith))
