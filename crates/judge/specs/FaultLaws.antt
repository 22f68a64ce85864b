-- The fault of one pattern: when it is 0, 2 and 3, by the number that the pattern stands for and by the pattern without its sign; what an allowed pattern
-- stands for. Assumes nothing.
use Rattle.std.specs.Prelude.{◌≡◌, ◌⊎◌, ◌↔◌, Bool, cond, not, ℕ, ◌*◌, ◌%◌, ◌^◌, ◌≤◌, ◌<◌, leb}
use Rattle.std.proofs.Math.Path.{refl}
use Rattle.std.proofs.Common.{◌∙◌, lt_of_not-le, not-le_of_lt, arith, leb→le, le→leb, lt→ltb, lit<}
use Rattle.std.proofs.Math.Logic.{inl, inr}
use Rattle.std.proofs.Math.Bool.{true, false}
use Rattle.std.proofs.Math.Dec.{T, nleb→lt}
use Rattle.std.proofs.Math.Arith.{le→nltb, lt→nleb}
use Rattle.std.specs.Float.Ieee.{ones, hid, top, nan_bits}
use Rattle.std.specs.Float.Ieee.Bits.{is_true, is_false, of_bits-fits, nan_bits_is}
use Rattle.std.specs.Float.Ieee.Scale.{finite}
use Rattle.ieee.specs.Units.{Number, pattern_units}
use Rattle.ieee.proofs.Finite.{is_units, finite_no_nan}
use Rattle.ieee.proofs.Pattern.{pattern_positive, pattern_finite}
use Rattle.ieee.proofs.PatternBounds.{pattern_within}
use Rattle.ieee.proofs.Instances.{top_32, top_64}
use Rattle.kinds.specs.Limits.{Width, doubles, singles}
use Rattle.judge.specs.Judge.{fault_of}
use Rattle.judge.specs.Table.{float_of, size_of, most}

-- the fault, where a says whether the number is finite and b whether it is at most the limit
abbrev chosen : Bool → Bool → ℕ
chosen a b = cond a (cond b 0 3) 2

module _ (W : Width) (p : ℕ) where
  -- ---- by the number

  pub fault_0 : (fault_of W p ≡ 0) ↔ (T (finite (float_of W p)) × (size_of W p ≤ most W))
  unfolding fault_of
  fault_0 = (
    λ e. there (finite (float_of W p)) (leb (size_of W p) (most W)) (leb→le (size_of W p) (most W)) e,
    λ h. rw (is_true (finite (float_of W p)) h.0, is_true (leb (size_of W p) (most W)) (le→leb (size_of W p) (most W) h.1)),
  )
    where
      there : (a b : Bool) → (T b → size_of W p ≤ most W) → chosen a b ≡ 0 → T a × (size_of W p ≤ most W)
      there true true h e = (tt, h tt)
      there true false h e = absurd (omega arith)
      there false b h e = absurd (omega arith)

  pub fault_2 : (fault_of W p ≡ 2) ↔ T (not (finite (float_of W p)))
  unfolding fault_of
  fault_2 = (there (finite (float_of W p)) (leb (size_of W p) (most W)), λ h. rw (is_false (finite (float_of W p)) h))
    where
      there : (a b : Bool) → chosen a b ≡ 2 → T (not a)
      there true true e = absurd (omega arith)
      there true false e = absurd (omega arith)
      there false b e = tt

  pub fault_3 : (fault_of W p ≡ 3) ↔ (T (finite (float_of W p)) × (most W < size_of W p))
  unfolding fault_of
  fault_3 = (
    λ e. there (finite (float_of W p)) (leb (size_of W p) (most W)) (nleb→lt (size_of W p) (most W)) e,
    λ h. rw (is_true (finite (float_of W p)) h.0, is_false (leb (size_of W p) (most W)) (lt→nleb (size_of W p) (most W) h.1)),
  )
    where
      there : (a b : Bool) → (T (not b) → most W < size_of W p) → chosen a b ≡ 3 → T a × (most W < size_of W p)
      there true true h e = absurd (omega arith)
      there true false h e = (tt, h tt)
      there false b h e = absurd (omega arith)

  pub fault_number : (fault_of W p ≡ 0 → ⊥) → (fault_of W p ≡ 2) ⊎ (fault_of W p ≡ 3)
  unfolding fault_of
  fault_number = go (finite (float_of W p)) (leb (size_of W p) (most W))
    where
      go : (a b : Bool) → (chosen a b ≡ 0 → ⊥) → (chosen a b ≡ 2) ⊎ (chosen a b ≡ 3)
      go true true h = absurd (h refl)
      go true false h = inr refl
      go false b h = inl refl

  -- ---- what an allowed pattern stands for

  pub allowed_number : fault_of W p ≡ 0 → Number W.format (float_of W p)
  allowed_number e = record { fit = of_bits-fits W.format p; fini = (fault_0.0 e).0 }

  pub allowed_no_nan : fault_of W p ≡ 0 → T (not (nan_bits W.format p))
  allowed_no_nan e = rw (nan_bits_is W.format p) (finite_no_nan (float_of W p) (fault_0.0 e).0)

-- ---- by the pattern without its sign, where the limit's pattern is below the infinity's
module _ (W : Width) (proper : W.magnitude < ones W.format * hid W.format) where
  -- the limit in units
  pub most_is : most W ≡ pattern_units W.format W.magnitude
  most_is =
      (is_units W.format (float_of W W.magnitude) false (pattern_units W.format W.magnitude) (pattern_positive W.format W.magnitude proper)).1

  module _ (p : ℕ) where
    within : (p % top W.format ≤ W.magnitude) ↔ (T (finite (float_of W p)) × (size_of W p ≤ most W))
    within = rw most_is (pattern_within W.format p W.magnitude proper)

    pub pattern_0 : p % top W.format ≤ W.magnitude → fault_of W p ≡ 0
    pattern_0 h = (fault_0 W p).1 (within.0 h)

    pub pattern_2 : ones W.format * hid W.format ≤ p % top W.format → fault_of W p ≡ 2
    pattern_2 h = (fault_2 W p).1 (rw (pattern_finite W.format p) (le→nltb _ _ h))

    pub pattern_3 : p % top W.format < ones W.format * hid W.format → W.magnitude < p % top W.format → fault_of W p ≡ 3
    pattern_3 l h =
        let t : T (finite (float_of W p)) = rw (pattern_finite W.format p) (lt→ltb _ _ l) in
        (fault_3 W p).1 (t, lt_of_not-le (λ k. not-le_of_lt h (within.1 (t, k))))

-- ---- rule L5's limit, 2 ^ 1000, and at binary32 2 ^ 100
pub proper_doubles : doubles.magnitude < ones doubles.format * hid doubles.format
proper_doubles = lit< tt

pub most_doubles : most doubles ≡ 2 ^ 2074
most_doubles = most_is doubles proper_doubles ∙ top_64

pub proper_singles : singles.magnitude < ones singles.format * hid singles.format
proper_singles = lit< tt

pub most_singles : most singles ≡ 2 ^ 249
most_singles = most_is singles proper_singles ∙ top_32
