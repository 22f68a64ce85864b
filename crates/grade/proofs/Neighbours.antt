-- Neighbouring patterns: no number of the format lies strictly between the numbers of two patterns of one sign that differ by 1; what comes next to a number,
-- towards zero and away from it. A pattern without its sign is the pattern's rest by `top f`. Assumes nothing.
use Rattle.std.specs.Prelude.{◌≡◌, Bool, cond, ℕ, ◌+◌, ◌-◌, ◌*◌, ◌%◌, ◌<◌, leb, Float}
use Rattle.std.proofs.Common.{sym, ap, ◌∙◌, inl, inr, zero-add, le-leb}
use Rattle.std.proofs.Math.Bool.{true, false}
use Rattle.std.proofs.Math.Nat.{mod-eq_of_lt, add-mod_left, div-eq_of_lt}
use native.Mathlib.Omega.{arith}
use Rattle.std.proofs.lemmas.Bool.{lt-leb}
use Rattle.std.proofs.Math.Pow.{pow_mono}
use Rattle.std.specs.Float.{Format}
use Rattle.std.specs.Float.Ieee.{prec, hid, ones, top, of_bits, to_bits}
use Rattle.std.specs.Float.Ieee.Fits.{two}
use Rattle.std.specs.Float.Ieee.Bits.{to_bits-of_bits, to_bits-lt}
use Rattle.units.specs.Whole.{◌≺◌}
use Rattle.units.proofs.Powers.{le_or_lt}
use Rattle.ieee.specs.Units.{Number, negative, magnitude, signed_whole, whole, pattern_units}
use Rattle.ieee.proofs.Finite.{finite_no_nan}
use Rattle.ieee.proofs.Pattern.{no_units, pattern_lt}
use Rattle.ieee.proofs.PatternBounds.{pattern_number, bits_units}

module _ (f : Format) where
  -- ---- a pattern is its sign and the pattern without it
  abbrev bare : Float → ℕ
  bare x = to_bits f x % top f

  -- a sign and a pattern without it
  abbrev pub signed_bits : Bool → ℕ → ℕ
  signed_bits s r = cond s (top f) 0 + r

  signed_rest : (s : Bool) (r : ℕ) → r < top f → (signed_bits s r % top f ≡ r) × (leb (top f) (signed_bits s r) ≡ s)
  signed_rest false r h = (rw (zero-add r) (mod-eq_of_lt h), lt-leb (top f) (0 + r) (omega arith))
  signed_rest true r h = (add-mod_left (top f) r ∙ mod-eq_of_lt h, le-leb (top f) (top f + r) (omega arith))

  pub pattern_split : {x : Float} → Number f x → to_bits f x ≡ signed_bits (negative x) (to_bits f x % top f)
  pattern_split {x} X = rw (bits_units X).0 (by (to_bits f x) (to_bits-lt f x X.fit))
    where
      by : (b : ℕ) → b < 2 * top f → b ≡ signed_bits (leb (top f) b) (b % top f)
      by b h = elim (le_or_lt (top f) b) [
        | inr l ↦ rw (lt-leb (top f) b l, mod-eq_of_lt l) (omega arith)
        | inl l ↦
            let r : b - top f < top f = omega arith in
            let e : top f + (b - top f) ≡ b = omega arith in
            let m : b % top f ≡ b - top f = rw e at (add-mod_left (top f) (b - top f) ∙ mod-eq_of_lt r) in
            rw (le-leb (top f) b l, m) (omega arith)
      ]

  -- ---- the number of a sign and a pattern below the infinity's
  module _ (s : Bool) (r : ℕ) (h : r < ones f * hid f) where
    below_top : r < top f
    below_top = omega arith

    pub signed_number : Number f (of_bits f (signed_bits s r))
    signed_number = pattern_number f (signed_bits s r) (rw (signed_rest s r below_top).0 h)

    pub signed_bits_lem : to_bits f (of_bits f (signed_bits s r)) ≡ signed_bits s r
    signed_bits_lem = to_bits-of_bits f (signed_bits s r) (few s) (finite_no_nan (of_bits f (signed_bits s r)) signed_number.fini)
      where
        few : (s : Bool) → signed_bits s r < 2 * top f
        few false = omega (arith, below_top)
        few true = omega (arith, below_top)

    pub signed_negative : negative (of_bits f (signed_bits s r)) ≡ s
    signed_negative = (bits_units signed_number).0 ∙ ap (leb (top f)) signed_bits_lem ∙ (signed_rest s r below_top).1

    pub signed_magnitude : magnitude f (of_bits f (signed_bits s r)) ≡ pattern_units f r
    signed_magnitude = (bits_units signed_number).1 ∙ ap (λ (b : ℕ). pattern_units f (b % top f)) signed_bits_lem
        ∙ ap (pattern_units f) (signed_rest s r below_top).0

  -- ---- the least patterns: 0 stands for nothing, and 1 for one unit
  pub one_unit : pattern_units f 1 ≡ 1
  unfolding pattern_units
  one_unit = rw (div-eq_of_lt small, mod-eq_of_lt small)
    where
      small : 1 < hid f
      small = omega (arith, pow_mono {i = 1} {j = prec f - 1} (omega (arith, two f)))

  pub bare_none : {x : Float} → Number f x → magnitude f x ≡ 0 → to_bits f x % top f ≡ 0
  bare_none {x} X e = elim (le_or_lt (to_bits f x % top f) 0) [
    | inl l ↦ omega arith
    | inr l ↦ absurd (omega (arith, (pattern_lt f).0 l, no_units f, sym (bits_units X).1 ∙ e))
  ]

  -- ---- y has the next pattern behind x's, away from zero
  module _ {x y : Float} (X : Number f x) (Y : Number f y) (s : negative y ≡ negative x) (next : to_bits f y ≡ to_bits f x + 1) where
    pub next_bare : to_bits f y % top f ≡ to_bits f x % top f + 1
    next_bare =
        let e : to_bits f y ≡ signed_bits (negative x) (to_bits f y % top f) = rw s at (pattern_split Y) in
        omega (arith, e, pattern_split X)

    pub next_further : magnitude f x < magnitude f y
    next_further = rw ((bits_units X).1, (bits_units Y).1) ((pattern_lt f).0 (omega (arith, next_bare)))

    squeezed : {z : Float} → Number f z → magnitude f x < magnitude f z → magnitude f z < magnitude f y → ⊥
    squeezed {z} Z h k =
        let h' : to_bits f x % top f < to_bits f z % top f = (pattern_lt f).1 (rw ((bits_units X).1, (bits_units Z).1) at h) in
        let k' : to_bits f z % top f < to_bits f y % top f = (pattern_lt f).1 (rw ((bits_units Z).1, (bits_units Y).1) at k) in
        omega (arith, next_bare)

    -- no number lies strictly between the two
    module _ {z : Float} (Z : Number f z) where
      pub gap_up : whole f x ≺ whole f z → whole f z ≺ whole f y → ⊥
      unfolding whole
      gap_up h k =
          let d = up (negative x) (negative z) (magnitude f x) (magnitude f y) (magnitude f z) next_further h (rw s at k) in
          squeezed Z d.0 d.1
        where
          up : (s t : Bool) (a b c : ℕ) → a < b → signed_whole s a ≺ signed_whole t c → signed_whole t c ≺ signed_whole s b → (a < c) × (c < b)
          up false false a b c l h k = (omega arith, omega arith)
          up false true a b c l h k = absurd (omega arith)
          up true false a b c l h k = absurd (omega arith)
          up true true a b c l h k = absurd (omega arith)

      pub gap_down : whole f y ≺ whole f z → whole f z ≺ whole f x → ⊥
      unfolding whole
      gap_down h k =
          let d = down (negative x) (negative z) (magnitude f x) (magnitude f y) (magnitude f z) next_further (rw s at h) k in
          squeezed Z d.0 d.1
        where
          down : (s t : Bool) (a b c : ℕ) → a < b → signed_whole s b ≺ signed_whole t c → signed_whole t c ≺ signed_whole s a → (a < c) × (c < b)
          down false false a b c l h k = absurd (omega arith)
          down false true a b c l h k = absurd (omega arith)
          down true false a b c l h k = absurd (omega arith)
          down true true a b c l h k = (omega arith, omega arith)
