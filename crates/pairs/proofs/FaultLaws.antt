-- The fault of one pair: when it is 0, 2 and 23, by the numbers that the patterns stand for and by the patterns without their signs. Assumes nothing.
use Rattle.std.proofs.Math.Path.{◌≡◌, refl}
use Rattle.std.proofs.Common.{sym, ap, ◌∙◌, mod-eq_of_lt, arith, lit<}
use Rattle.std.specs.Prelude.{◌⊎◌, ◌↔◌, Bool, cond, ◌&&◌, ◌||◌, ℕ, ◌*◌, ◌%◌, ◌<◌, leb, ltb, eqb}
use Rattle.std.proofs.Math.Logic.{inl, inr}
use Rattle.std.proofs.Math.Bool.{true, false, not}
use borrow.Author.Tests.{le-leb, lt-leb, lt-ltb, le-ltb, leb-true, leb-false, eq-eqb, ne_eqb, eqb-true, eqb-false}
use Rattle.std.proofs.Math.Dec.{T}
use Rattle.std.specs.Float.{Format}
use Rattle.std.specs.Float.Ieee.{ones, hid, top, of_bits}
use Rattle.std.specs.Float.Ieee.Bits.{is_true}
use Rattle.std.specs.Float.Ieee.Scale.{finite}
use Rattle.units.proofs.Powers.{le_or_lt}
use Rattle.ieee.specs.Units.{pattern_units}
use Rattle.ieee.proofs.Finite.{is_units}
use Rattle.ieee.proofs.Pattern.{pattern_positive, pattern_finite, no_units, pattern_lt, pattern_le, magnitude_is}
use Rattle.lists.proofs.Apart.{apart}
use Rattle.judge.specs.Table.{float_of, size_of}
use Rattle.pairs.specs.Limits.{Pairing, double_pairs}
use Rattle.pairs.specs.Pairs.{Pair, in_range, pair_fault}
use Rattle.pairs.specs.Table.{Finite, Ranged, Outside}
use Rattle.pairs.specs.FaultLaws.{Proper, chosen}

-- ---- one number
module _ (P : Pairing) (p : ℕ) where
  abbrev size : ℕ
  size = size_of P.width p

  abbrev least : ℕ
  least = size_of P.width P.least

  abbrev most : ℕ
  most = size_of P.width P.most

  positive : (size ≡ 0 → ⊥) → 0 < size
  positive n = omega arith

  pub ranged_or_outside : (t : Bool) → in_range P p ≡ t → ((t ≡ true) × Ranged P p) ⊎ ((t ≡ false) × Outside P p)
  ranged_or_outside t h = go (eqb size 0) (leb least size) (leb size most) refl refl refl h
    where
      go : (z a b : Bool) → eqb size 0 ≡ z → leb least size ≡ a → leb size most ≡ b → (z || (a && b)) ≡ t
          → ((t ≡ true) × Ranged P p) ⊎ ((t ≡ false) × Outside P p)
      go true a b e f g h = inl (sym h, inl (eqb-true _ _ e))
      go false true true e f g h = inl (sym h, inr (leb-true _ _ f, leb-true _ _ g))
      go false true false e f g h = inr (sym h, (positive (eqb-false _ _ e), inr (leb-false _ _ g)))
      go false false b e f g h = inr (sym h, (positive (eqb-false _ _ e), inl (leb-false _ _ f)))

  -- never both
  ranged_not_outside : Ranged P p → Outside P p → ⊥
  ranged_not_outside (inl z) (n, s) = omega arith
  ranged_not_outside (inr (a, b)) (n, inl s) = omega arith
  ranged_not_outside (inr (a, b)) (n, inr s) = omega arith

  pub in_range_lem : (in_range P p ≡ true) ↔ Ranged P p
  in_range_lem = (
    λ e. elim (ranged_or_outside true e) [ inl h ↦ h.1 | inr h ↦ let z = h.0 in apart (cc) ],
    λ R. elim (ranged_or_outside (in_range P p) refl) [ inl h ↦ h.0 | inr h ↦ absurd (ranged_not_outside R h.1) ],
  )

  pub out_of_range : (in_range P p ≡ false) ↔ Outside P p
  out_of_range = (
    λ e. elim (ranged_or_outside false e) [ inr h ↦ h.1 | inl h ↦ let z = h.0 in apart (cc) ],
    λ O. elim (ranged_or_outside (in_range P p) refl) [ inr h ↦ h.0 | inl h ↦ absurd (ranged_not_outside h.1 O) ],
  )

module _ (P : Pairing) (c : Pair) where
  abbrev x : Bool
  x = finite (float_of P.width c.0)

  abbrev y : Bool
  y = finite (float_of P.width c.1)

  pub pair_2 : (pair_fault P c ≡ 2) ↔ (T (not x) ⊎ T (not y))
  unfolding pair_fault
  pair_2 = (there x y (in_range P c.0) (in_range P c.1), back x y (in_range P c.0) (in_range P c.1))
    where
      there : (a b r s : Bool) → chosen a b r s ≡ 2 → T (not a) ⊎ T (not b)
      there true true true true e = absurd (omega arith)
      there true true true false e = absurd (omega arith)
      there true true false true e = absurd (omega arith)
      there true true false false e = absurd (omega arith)
      there true false r s e = inr tt
      there false b r s e = inl tt

      back : (a b r s : Bool) → T (not a) ⊎ T (not b) → chosen a b r s ≡ 2
      back true true r s (inl h) = absurd h
      back true true r s (inr h) = absurd h
      back true false r s h = refl
      back false b r s h = refl

  pub pair_0 : (pair_fault P c ≡ 0) ↔ ((Finite P c.0 × Ranged P c.0) × (Finite P c.1 × Ranged P c.1))
  unfolding pair_fault
  pair_0 = (
    λ e. there x y (in_range P c.0) (in_range P c.1) (in_range_lem P c.0).0 (in_range_lem P c.1).0 e,
    λ h. rw (is_true x h.0.0, is_true y h.1.0, (in_range_lem P c.0).1 h.0.1, (in_range_lem P c.1).1 h.1.1),
  )
    where
      there : (a b r s : Bool) → (r ≡ true → Ranged P c.0) → (s ≡ true → Ranged P c.1) → chosen a b r s ≡ 0
          → (T a × Ranged P c.0) × (T b × Ranged P c.1)
      there true true true true f g e = ((tt, f refl), (tt, g refl))
      there true true true false f g e = absurd (omega arith)
      there true true false s f g e = absurd (omega arith)
      there true false r s f g e = absurd (omega arith)
      there false b r s f g e = absurd (omega arith)

  pub pair_23 : (pair_fault P c ≡ 23) ↔ (Finite P c.0 × Finite P c.1 × (Outside P c.0 ⊎ Outside P c.1))
  unfolding pair_fault
  pair_23 = (
    λ e. there x y (in_range P c.0) (in_range P c.1) (out_of_range P c.0).0 (out_of_range P c.1).0 e,
    λ h. back (in_range P c.0) (in_range P c.1) h (out_of_range P c.0).1 (out_of_range P c.1).1,
  )
    where
      there : (a b r s : Bool) → (r ≡ false → Outside P c.0) → (s ≡ false → Outside P c.1) → chosen a b r s ≡ 23
          → T a × T b × (Outside P c.0 ⊎ Outside P c.1)
      there true true true true f g e = absurd (omega arith)
      there true true true false f g e = (tt, tt, inr (g refl))
      there true true false s f g e = (tt, tt, inl (f refl))
      there true false r s f g e = absurd (omega arith)
      there false b r s f g e = absurd (omega arith)

      range : (r s : Bool) → Outside P c.0 ⊎ Outside P c.1 → (Outside P c.0 → r ≡ false) → (Outside P c.1 → s ≡ false)
          → ◌≡◌ {A = ℕ} (cond (r && s) 0 23) 23
      range true true h f g = elim h [ inl o ↦ let z = f o in apart (cc) | inr o ↦ let z = g o in apart (cc) ]
      range true false h f g = refl
      range false s h f g = refl

      back : (r s : Bool) → Finite P c.0 × Finite P c.1 × (Outside P c.0 ⊎ Outside P c.1)
          → (Outside P c.0 → r ≡ false) → (Outside P c.1 → s ≡ false) → chosen x y r s ≡ 23
      back r s h f g = rw (is_true x h.0, is_true y h.1) (range r s h.2 f g)

  pub pair_number : (pair_fault P c ≡ 0 → ⊥) → (pair_fault P c ≡ 2) ⊎ (pair_fault P c ≡ 23)
  unfolding pair_fault
  pair_number = go x y (in_range P c.0) (in_range P c.1)
    where
      go : (a b r s : Bool) → (chosen a b r s ≡ 0 → ⊥) → (chosen a b r s ≡ 2) ⊎ (chosen a b r s ≡ 23)
      go true true true true h = absurd (h refl)
      go true true true false h = inr refl
      go true true false s h = inr refl
      go true false r s h = inl refl
      go false b r s h = inl refl

module _ (P : Pairing) where
  abbrev f : Format
  f = P.width.format

  -- a pattern without a sign
  plain : (r : ℕ) → r < ones f * hid f → size_of P.width r ≡ pattern_units f r
  plain r h = (is_units f (of_bits f r) false (pattern_units f r) (pattern_positive f r h)).1

  pub finite_test : (p : ℕ) → not (leb (ones f * hid f) (p % top f)) ≡ finite (float_of P.width p)
  finite_test p = sym (pattern_finite f p ∙ go)
    where
      go : ltb (p % top f) (ones f * hid f) ≡ not (leb (ones f * hid f) (p % top f))
      go = elim (le_or_lt (ones f * hid f) (p % top f)) [
        | inl h ↦ rw (le-ltb (p % top f) (ones f * hid f) h, le-leb (ones f * hid f) (p % top f) h)
        | inr h ↦ rw (lt-ltb (p % top f) (ones f * hid f) h, lt-leb (ones f * hid f) (p % top f) h)
      ]

  module _ (p : ℕ) (h : p % top f < ones f * hid f) where
    abbrev r : ℕ
    r = p % top f

    -- no digit and no field, no unit
    pub nothing : eqb (p % top P.width.format) 0 ≡ eqb (size_of P.width p) 0
    nothing = elim (le_or_lt r 0) [
      | inl z ↦
          let e : r ≡ 0 = omega arith in
          rw (eq-eqb r 0 e, eq-eqb (size_of P.width p) 0 (magnitude_is f p h ∙ ap (pattern_units f) e ∙ no_units f))
      | inr l ↦
          let m : 0 < pattern_units f r = rw (no_units f) at ((pattern_lt f).0 l) in
          rw (ne_eqb r 0 (λ e. omega arith), ne_eqb (size_of P.width p) 0 (λ e. omega (arith, magnitude_is f p h)))
    ]

    least_test : Proper P → not (ltb r P.least) ≡ leb (size_of P.width P.least) (size_of P.width p)
    least_test R = rw (magnitude_is f p h, plain P.least R.least) (elim (le_or_lt P.least r) [
      | inl l ↦ rw (le-ltb r P.least l, le-leb (pattern_units f P.least) (pattern_units f r) ((pattern_le f).0 l))
      | inr l ↦ rw (lt-ltb r P.least l, lt-leb (pattern_units f P.least) (pattern_units f r) ((pattern_lt f).0 l))
    ])

    most_test : Proper P → not (ltb P.most r) ≡ leb (size_of P.width p) (size_of P.width P.most)
    most_test R = rw (magnitude_is f p h, plain P.most R.most) (elim (le_or_lt r P.most) [
      | inl l ↦ rw (le-ltb P.most r l, le-leb (pattern_units f r) (pattern_units f P.most) ((pattern_le f).0 l))
      | inr l ↦ rw (lt-ltb P.most r l, lt-leb (pattern_units f r) (pattern_units f P.most) ((pattern_lt f).0 l))
    ])

    outside_test : Proper P → (not (eqb r 0) && (ltb r P.least || ltb P.most r)) ≡ not (in_range P p)
    outside_test R =
        rw (← nothing, ← (least_test R), ← (most_test R)) (go (eqb r 0) (ltb r P.least) (ltb P.most r))
      where
        go : (z a b : Bool) → (not z && (a || b)) ≡ not (z || (not a && not b))
        go true a b = refl
        go false true b = refl
        go false false true = refl
        go false false false = refl

  -- ---- as the code tests it
  -- a pattern without its sign has the same magnitude, and is itself
  module _ (r : ℕ) (h : r < ones f * hid f) where
    below : r < top f
    below = omega arith

    pub plain_test : Proper P → (not (eqb r 0) && (ltb r P.least || ltb P.most r)) ≡ not (in_range P r)
    plain_test R = rw (mod-eq_of_lt below) at (outside_test r (rw (mod-eq_of_lt below) h) R)

  unsigned : (p : ℕ) → p % top f < ones f * hid f → in_range P (p % top f) ≡ in_range P p
  unsigned p h =
      ap (λ (n : ℕ). eqb n 0 || (leb (size_of P.width P.least) n && leb n (size_of P.width P.most))) (plain (p % top f) h ∙ sym (magnitude_is f p h))

  module _ (c : Pair) where
    abbrev a : ℕ
    a = c.0 % top f

    abbrev b : ℕ
    b = c.1 % top f

    pub pattern_2 : (leb (ones f * hid f) a || leb (ones f * hid f) b) ≡ true → pair_fault P c ≡ 2
    unfolding pair_fault
    pattern_2 e = rw (← (finite_test c.0), ← (finite_test c.1)) (go (leb (ones f * hid f) a) (leb (ones f * hid f) b) e _)
      where
        go : (s t : Bool) → (s || t) ≡ true → (r : ℕ) → ◌≡◌ {A = ℕ} (cond (not s && not t) r 2) 2
        go true t e r = refl
        go false true e r = refl
        go false false e r = apart (cc)

    module _ (e : (leb (ones f * hid f) a || leb (ones f * hid f) b) ≡ false) where
      pub a_below : a < ones f * hid f
      a_below = leb-false (ones f * hid f) a (go (leb (ones f * hid f) a) (leb (ones f * hid f) b) e)
        where
          go : (s t : Bool) → (s || t) ≡ false → s ≡ false
          go true t e = e
          go false t e = refl

      pub b_below : b < ones f * hid f
      b_below = leb-false (ones f * hid f) b (go (leb (ones f * hid f) a) (leb (ones f * hid f) b) e)
        where
          go : (s t : Bool) → (s || t) ≡ false → t ≡ false
          go true t e = apart (cc)
          go false t e = e

      pub pattern_ranges : pair_fault P c ≡ cond (not (in_range P a) || not (in_range P b)) 23 0
      unfolding pair_fault
      pattern_ranges =
          rw (
            ← (finite_test c.0),
            ← (finite_test c.1),
            lt-leb (ones f * hid f) a a_below,
            lt-leb (ones f * hid f) b b_below,
            ← (unsigned c.0 a_below),
            ← (unsigned c.1 b_below),
          ) (go (in_range P a) (in_range P b))
        where
          go : (r s : Bool) → ◌≡◌ {A = ℕ} (cond (r && s) 0 23) (cond (not r || not s) 23 0)
          go true true = refl
          go true false = refl
          go false s = refl

-- ---- the limits at binary64
pub proper_doubles : Proper double_pairs
proper_doubles = record { least = lit< tt; most = lit< tt }
