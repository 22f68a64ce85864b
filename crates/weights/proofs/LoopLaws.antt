-- What the loops over a list's places pass and end with: a search for a place that holds no weight, a sum, and the new weights written one by one. Assumes
-- nothing.
use Rattle.std.specs.Prelude.{◌≡◌, refl, ◌⊎◌, Bool, true, false, not, cond, ltb, Option, Some, None, List, ◌∷◌, take, drop, get_or, set}
use Rattle.std.proofs.Math.Path.{sym}
use Rattle.std.proofs.Common.{◌∙◌, inl, inr, append_assoc, append-nil, eq-or-lt_of_le, le_of_suc-le-suc, length-set, drop_of_length-le, drop-cons}
use Prim.Native.Nat.{ℕ, zero, suc, ◌+◌, ◌-◌, ◌≤◌, ◌<◌}
use Rattle.std.proofs.Math.Numerals.{add-one}
use native.Mathlib.Omega.{arith}
use Rattle.std.proofs.Math.ListN.{length}
use Rattle.std.proofs.lemmas.List.{length-map}
use Rattle.std.proofs.Math.Seq.{take_all, take-suc-set}
use Rattle.std.specs.List.{position_or_len}
use Rattle.std.proofs.lemmas.List.Recursion.{is_position_or_len}
use Rattle.std.proofs.lemmas.Bool.Decides.{nat_tests}
use borrow.Author.Tests.{lt-ltb}
use Rattle.units.proofs.Powers.{le_or_lt}
use Rattle.kinds.specs.Limits.{Width}
use Rattle.weights.specs.Weights.{grains, weight_good, weight_of, pattern_for, total, share, staying, gets, spread, bad_weight, weights_of}
use Rattle.weights.specs.Table.{Weighed}
use Rattle.weights.specs.LoopLaws.{Written}

-- ---- the search for a place that holds no weight
module _ {W : Width} {ps : List ℕ} where
  pub weighed_none : Weighed W ps 0
  weighed_none = record { each = λ j h. absurd (omega arith) }

  pub weighed_more : {i : ℕ} → Weighed W ps i → weight_good W (get_or ps i 0) ≡ true → Weighed W ps (suc i)
  weighed_more {i} G e = record { each = λ j h. go j (eq-or-lt_of_le (le_of_suc-le-suc h)) }
    where
      go : (j : ℕ) → (j ≡ i) ⊎ (j < i) → weight_good W (get_or ps j 0) ≡ true
      go j (inl s) = rw s e
      go j (inr l) = G.each j l

  pub weighed_fewer : {i n : ℕ} → Weighed W ps n → i ≤ n → Weighed W ps i
  weighed_fewer G h = record { each = λ j l. G.each j (omega arith) }

module _ (W : Width) (ps : List ℕ) where
  skips : (i : ℕ) → i ≤ length ps → Weighed W ps i → bad_weight W ps ≡ bad_weight W (drop i ps) + i
  unfolding bad_weight
  skips zero h G = omega arith
  skips (suc i) h G =
      let e : bad_weight W (drop i ps) ≡ bad_weight W (drop (suc i) ps) + 1 = rw (drop-cons ps i 0 h, G.each i (omega arith)) in
      omega (arith, skips i (omega arith) (weighed_fewer G (omega arith)))

  -- the first that is none
  pub bad_at : (i : ℕ) → i < length ps → Weighed W ps i → weight_good W (get_or ps i 0) ≡ false → bad_weight W ps ≡ i
  unfolding bad_weight
  bad_at i h G e =
      let z : bad_weight W (drop i ps) ≡ 0 = rw (drop-cons ps i 0 h, e) in
      omega (arith, skips i (omega arith) G)

  pub bad_nowhere : Weighed W ps (length ps) → bad_weight W ps ≡ length ps
  unfolding bad_weight
  bad_nowhere G =
      let z : bad_weight W (drop (length ps) ps) ≡ 0 = rw (drop_of_length-le ps {i = length ps} (omega arith)) in
      omega (arith, skips (length ps) (omega arith) G)

  -- there is one, or each place holds a weight
  pub record Bad : Type 0 where
    pub place : ℕ
    pub inside : place < length ps
    pub before : Weighed W ps place
    pub none : weight_good W (get_or ps place 0) ≡ false

  finds : (n : ℕ) → n ≤ length ps → Weighed W ps n ⊎ Bad
  finds zero h = inl weighed_none
  finds (suc n) h = go (finds n (omega arith)) (weight_good W (get_or ps n 0)) refl
    where
      go : Weighed W ps n ⊎ Bad → (t : Bool) → weight_good W (get_or ps n 0) ≡ t → Weighed W ps (suc n) ⊎ Bad
      go (inr B) t e = inr B
      go (inl G) true e = inl (weighed_more G e)
      go (inl G) false e = inr (record { place = n; inside = h; before = G; none = e })

  pub found : Weighed W ps (length ps) ⊎ Bad
  found = finds (length ps) (omega arith)

-- ---- the place of the first that is none, as a search finds it
pub bad_position : (W : Width) (ps : List ℕ) → bad_weight W ps ≡ position_or_len (λ (p : ℕ). not (weight_good W p)) ps
unfolding bad_weight
bad_position W = is_position_or_len (bad_weight W) (λ (p : ℕ). not (weight_good W p)) refl (λ p ps. step (weight_good W p) (bad_weight W ps))
  where
    step : (b : Bool) (n : ℕ) → cond b (n + 1) 0 ≡ cond (not b) 0 (1 + n)
    step true n = omega arith
    step false n = refl

pub place_some : {b n i : ℕ} → Some i ≡ cond (ltb b n) (Some b) None → (b ≡ i) × (b < n)
place_some {b} {n} {i} e = grind (arith, nat_tests)

pub place_none : {b n : ℕ} {r : Option ℕ} → r ≡ cond (ltb b n) (Some b) None → ((i : ℕ) → r ≡ Some i → ⊥) → n ≤ b
place_none {b} {n} {r} e h = elim (le_or_lt n b) [
  | inl k ↦ k
  | inr k ↦ absurd (h b (e ∙ rw (lt-ltb b n k)))
]

-- ---- as many stay as there are, the leaver's place with them
pub staying_length : (W : Width) (ps : List ℕ) (at : ℕ) → length (staying at (weights_of W ps)) ≡ length ps
staying_length W ps at = length-set (weights_of W ps) at 0 ∙ length-map ps (weight_of W)

-- ---- a sum from place i on
pub total_next : (ks : List ℕ) (i : ℕ) → i < length ks → total (drop i ks) ≡ get_or ks i 0 + total (drop (i + 1) ks)
unfolding total
total_next ks i h = rw (drop-cons ks i 0 h, add-one)

pub total_end : (ks : List ℕ) (i : ℕ) → length ks ≤ i → total (drop i ks) ≡ 0
unfolding total
total_end ks i h = rw (drop_of_length-le ks {i = i} h)

module _ {W : Width} {w : ℕ} {all stay out : List ℕ} {left i : ℕ} (R : Written W w all stay out left i) where
  module _ (inside : i < length stay) (room : i < length out) where
    abbrev k : ℕ
    k = get_or stay i 0

    new : ℕ
    new = k + share w k + gets left k

    goes_on : spread w left (drop i stay) ≡ new ∷ spread w (left - gets left k) (drop (i + 1) stay)
    unfolding spread new
    goes_on = rw (drop-cons stay i 0 inside, add-one)

    parts : new + total (spread w (left - gets left k) (drop (i + 1) stay)) ≤ grains
    unfolding total
    parts = rw goes_on at R.small

    pub written_small : get_or stay i 0 + share w (get_or stay i 0) + gets left (get_or stay i 0) ≤ grains
    unfolding new
    written_small = omega (arith, parts)

    pub written_next : Written W w all stay (set out i (pattern_for W (get_or stay i 0 + share w (get_or stay i 0) + gets left (get_or stay i 0))))
        (left - gets left (get_or stay i 0)) (i + 1)
    unfolding new
    written_next = record {
      rest = R.rest ∙ rw (goes_on, add-one, take-suc-set out i _ room) (sym (append_assoc (take i out) _ _));
      small = omega (arith, parts);
    }

  pub written_end : length stay ≤ i → length out ≤ i → out ≡ all
  unfolding spread
  written_end h room = sym (R.rest ∙ rw (drop_of_length-le stay {i = i} h, take_all i out room) (append-nil out))
