-- A weight in grains read off its pattern's field and digits, and the pattern of so many grains written so. Assumes nothing.
use Rattle.std.specs.Prelude.{◌≡◌, ℕ, suc, ◌+◌, ◌-◌, ◌*◌, ◌/◌, ◌%◌, ◌^◌, ◌≤◌, ◌<◌}
use Rattle.std.proofs.Common.{sym, ◌∙◌, le_trans, mul-pos, zero-mul, mul_comm, mul-le-mul_right, mul-lt-mul_of_pos_right, div-lt_iff_lt-mul, le-div_iff_mul-le}
use Rattle.std.proofs.Common.{lit≤, pow_mono, pow_pos}
use Rattle.std.proofs.Math.Path.{ap}
use Rattle.std.proofs.Math.Nat.{lt_of_le_of_lt, mul_assoc, pow-succ', mul-div-mul_right, div-eq_of_lt}
use native.Mathlib.Omega.{arith}
use Rattle.std.proofs.Math.Arith.{digits_div, digits_mod}
use Rattle.std.specs.Int.Count.{count_leading_zeros}
use Rattle.std.proofs.lemmas.Nat.{leading_top}
use Rattle.std.specs.Float.{Format}
use Rattle.std.specs.Float.Ieee.{prec, emax, low, hid, ones}
use Rattle.units.proofs.Powers.{pow_split, pow_le_back}
use Rattle.ieee.specs.Units.{field_units, pattern_units}
use Rattle.ieee.proofs.Exponent.{subnormal_units}
use Rattle.ieee.proofs.Pattern.{pattern_lt, pattern_le}
use Rattle.kinds.specs.Limits.{Width, doubles}
use Rattle.judge.specs.FaultLaws.{most_doubles}
use Rattle.weights.specs.Weights.{grains, grain, weight_of, pattern_for}
use Rattle.weights.specs.WeightLaws.{Fine, field_of_grain}
use Rattle.weights.proofs.WeightLaws.{below_one, one_units, grain_units, below_units, pattern_unique}
use Rattle.weights.specs.FieldLaws.{Moved}

pub fine_doubles : Fine doubles
fine_doubles = record { digits = lit≤ tt; deep = lit≤ tt; enough = rw most_doubles (pow_mono {i = 1074} {j = 2074} (lit≤ tt)) }

less : (g n : ℕ) → 0 < n → g - (n - 1) ≡ g + 1 - n
less g n h = omega arith

-- a power of two drops out of a fraction
scaled : (a x g : ℕ) → x ≤ g → a * 2 ^ x / 2 ^ g ≡ a / 2 ^ (g - x)
scaled a x g h = ap (λ (n : ℕ). a * 2 ^ x / n) (sym (pow_split h)) ∙ mul-div-mul_right a (2 ^ (g - x)) (pow_pos x)

module _ (W : Width) (F : Fine W) where
  abbrev f : Format
  f = W.format

  hid_pos : 0 < hid f
  hid_pos = pow_pos (prec f - 1)

  -- ---- read: below the pattern of a grain there is none
  module _ (p : ℕ) (h : p ≤ emax f * hid f) where
    pub weight_none : p < field_of_grain f * hid f → weight_of W p ≡ 0
    unfolding weight_of
    weight_none l = rw (below_units W F p h) (div-eq_of_lt (rw (grain_units W F) at ((pattern_lt f).0 l)))

    -- from there on the leading digit and those below it, less what a grain has no place for
    pub weight_some : field_of_grain f * hid f ≤ p → weight_of W p ≡ (hid f + p % hid f) / 2 ^ (low f - 30 + 1 - p / hid f)
    unfolding weight_of pattern_units
    weight_some l =
        ap (λ (n : ℕ). n / grain f) (below_units W F p h ∙ ap (λ (y : ℕ). field_units f y (p % hid f)) field)
        ∙ scaled (hid f + p % hid f) (p / hid f - 1) (low f - 30) (omega (arith, highest, F.digits))
        ∙ ap (λ (n : ℕ). (hid f + p % hid f) / 2 ^ n) (less (low f - 30) (p / hid f) (omega (arith, lowest)))
      where
        lowest : field_of_grain f ≤ p / hid f
        lowest = (le-div_iff_mul-le hid_pos).1 l

        highest : p / hid f < emax f + 1
        highest = (div-lt_iff_lt-mul hid_pos).1 (omega (arith, hid_pos))

        field : p / hid f ≡ suc (p / hid f - 1)
        field = omega (arith, lowest)

  -- ---- written: the digits of k moved up by j, to where a significand has its leading one
  pub pattern_zero : pattern_for W 0 ≡ 0
  pattern_zero = pattern_unique W F 0 (omega arith) 0 (mul-pos (omega arith) hid_pos) (subnormal_units f hid_pos ∙ sym (zero-mul (grain f)))

  module _ (k j : ℕ) (most : k ≤ grains) (low-enough : j ≤ low f - 30) (from : hid f ≤ k * 2 ^ j) (to : k * 2 ^ j < 2 * hid f) where
    x : ℕ
    x = low f - 30 - j

    written : ℕ
    written = x * hid f + k * 2 ^ j

    as_fields : written ≡ suc x * hid f + (k * 2 ^ j - hid f)
    unfolding written
    as_fields = omega (arith, from)

    units : pattern_units f written ≡ k * grain f
    unfolding pattern_units x
    units =
        (λ i. field_units f (field i) (digits i))
        ∙ ap (λ (n : ℕ). n * 2 ^ x) whole
        ∙ mul_assoc k (2 ^ j) (2 ^ x)
        ∙ ap (λ (n : ℕ). k * n) (mul_comm (2 ^ j) (2 ^ x) ∙ pow_split low-enough)
      where
        rest : k * 2 ^ j - hid f < hid f
        rest = omega (arith, from, to)

        field : written / hid f ≡ suc x
        field = ap (λ (n : ℕ). n / hid f) as_fields ∙ digits_div (suc x) rest

        digits : written % hid f ≡ k * 2 ^ j - hid f
        digits = ap (λ (n : ℕ). n % hid f) as_fields ∙ digits_mod (suc x) rest

        whole : hid f + (k * 2 ^ j - hid f) ≡ k * 2 ^ j
        whole = omega (arith, from)

    pub pattern_some : pattern_for W k ≡ (low f - 30 - j) * hid f + k * 2 ^ j
    unfolding written x
    pattern_some = pattern_unique W F k most written below units
      where
        below : written < ones f * hid f
        below =
            let e : emax f < ones f = omega arith in
            let u : pattern_units f written ≤ pattern_units f (emax f * hid f) = rw (units, one_units W F) (below_one W F most) in
            lt_of_le_of_lt ((pattern_le f).1 u) (mul-lt-mul_of_pos_right e hid_pos)

pub moved : (k : ℕ) → 0 < k → k ≤ grains → (11 ≤ count_leading_zeros 64 k) × Moved k (count_leading_zeros 64 k - 11)
moved k some most = go (count_leading_zeros 64 k) (leading_top 64 k some (omega arith))
  where
    go : (z : ℕ) → (n : ℕ) × (z + suc n ≡ 64) × (2 ^ n ≤ k) × (k < 2 ^ suc n) → (11 ≤ z) × Moved k (z - 11)
    go z t = (
      omega (arith, small, t.1),
      record {
        least = omega (arith, small, t.1);
        most = omega (arith, small, t.1);
        from = rw up (omega (arith, mul-le-mul_right (2 ^ (52 - t.0)) t.2, lead));
        to = rw up (omega (arith, mul-lt-mul_of_pos_right t.3 (pow_pos (52 - t.0)), lead, next));
      },
    )
      where
        small : t.0 ≤ 30
        small = pow_le_back t.0 30 (le_trans t.2 most)

        up : z - 11 ≡ 52 - t.0
        up = omega (arith, t.1)

        lead : 2 ^ (52 - t.0) * 2 ^ t.0 ≡ 2 ^ 52
        lead = pow_split (omega (arith, small))

        next : 2 ^ suc t.0 * 2 ^ (52 - t.0) ≡ 2 * (2 ^ (52 - t.0) * 2 ^ t.0)
        next = rw (pow-succ' 2 t.0) (omega arith)
