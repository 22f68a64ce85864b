-- The grade that is computed is the one that the claim earns, both ways: the four exclude each other and one is earned. Where S is a number, only exact and
-- wrong; at a tie the even neighbour is nearest and the odd one faithful; both zeros have one grade. Assumes nothing.
use Rattle.std.specs.Prelude.{◌≡◌, refl, ◌⊎◌, ◌↔◌, Bool, true, false, ℕ, ◌+◌, ◌%◌, ◌<◌, ℤ, pos, ◌-ℤ◌, nat_abs, Float}
use Rattle.std.proofs.Common.{sym, ap, subst, ◌∙◌, inl, inr, eq-zero-or-pos, le_antisymm, arith}
use Rattle.std.proofs.Math.Decide.{ℕ_discrete}
use Rattle.std.specs.Float.{Format}
use Rattle.std.specs.Float.Ieee.{of_bits, to_bits}
use Rattle.std.specs.Float.Ieee.Bits.{of_bits-to_bits}
use Rattle.ieee.specs.Units.{Number, negative, magnitude, signed, value}
use Rattle.ieee.proofs.Finite.{same_float}
use Rattle.ieee.proofs.Sum.{value_mag}
use Rattle.ieee.specs.Accuracy.{FaithfulTo, NearestTo}
use Rattle.ieee.proofs.Nearest.{nearest_nearest}
use Rattle.kinds.proofs.Hearing.{exactly}
use Rattle.grade.specs.Grade.{near, other_side, grade_at}
use Rattle.grade.specs.Table.{Earns, exact, nearest, faithful, wrong}
use Rattle.grade.proofs.Distances.{not_apart, apart_none, exact_nearest, nearest_faithful}
use Rattle.grade.proofs.Amid.{lower_faithful, upper_faithful, amid_only}
use Rattle.grade.proofs.CaseLaws.{grade_exact, grade_missed, grade_near, grade_side, grade_off}
use Rattle.grade.specs.SideLaws.{Inside, far, Sides, near_below, far_below, Beside}
use Rattle.grade.proofs.SideLaws.{beside}
use Rattle.grade.specs.Graded.{Graded}
use Rattle.grade.specs.Graded.{Exact, Nearest, Faithful, Wrong}

-- a zero of either sign is no units
pub zero_value : (f : Format) (x : Float) → magnitude f x ≡ 0 → value f x ≡ pos 0
unfolding value
zero_value f x z = of (negative x) (magnitude f x) z
  where
    of : (s : Bool) (n : ℕ) → n ≡ 0 → signed s n ≡ pos 0
    of false n e = ap pos e
    of true n e = rw e

-- ---- the grades exclude each other
module _ {f : Format} {S : ℤ} {x : Float} (X : Number f x) where
  pub exclusive : {g h : Graded} → Earns f S x g → Earns f S x h → g ≡ h
  exclusive (exact e) (exact d) = refl
  exclusive (exact e) (nearest N d) = absurd (d e)
  exclusive (exact e) (faithful F n) = absurd (n (exact_nearest f X e))
  exclusive (exact e) (wrong n) = absurd (n (nearest_faithful f (exact_nearest f X e)))
  exclusive (nearest N d) (exact e) = absurd (d e)
  exclusive (nearest N d) (nearest M c) = refl
  exclusive (nearest N d) (faithful F n) = absurd (n N)
  exclusive (nearest N d) (wrong n) = absurd (n (nearest_faithful f N))
  exclusive (faithful F n) (exact e) = absurd (n (exact_nearest f X e))
  exclusive (faithful F n) (nearest N d) = absurd (n N)
  exclusive (faithful F n) (faithful G m) = refl
  exclusive (faithful F n) (wrong w) = absurd (w F)
  exclusive (wrong w) (exact e) = absurd (w (nearest_faithful f (exact_nearest f X e)))
  exclusive (wrong w) (nearest N d) = absurd (w (nearest_faithful f N))
  exclusive (wrong w) (faithful F n) = absurd (w F)
  exclusive (wrong w) (wrong v) = refl

module _ {f : Format} {S : ℤ} (I : Inside f S) where
  N : NearestTo f S (near f S)
  N = nearest_nearest f false S I.below

  -- whether a float is S
  whether : (x : Float) → (value f x ≡ S) ⊎ (value f x ≡ S → ⊥)
  whether x = elim (eq-zero-or-pos (nat_abs (value f x -ℤ S))) [
    | inl z ↦ inl (not_apart f x S z)
    | inr p ↦ inr (λ e. omega (arith, apart_none f x S e))
  ]

  -- ---- where S is no number: the nearest and the other side
  module _ (d : value f (near f S) ≡ S → ⊥) where
    B : Beside f S
    B = beside I d

    only : {x : Float} → FaithfulTo f S x → (value f x ≡ value f (near f S)) ⊎ (value f x ≡ value f (far f S))
    only {x} F = by B.sides
      where
        by : Sides f S → (value f x ≡ value f (near f S)) ⊎ (value f x ≡ value f (far f S))
        by (near_below A) = amid_only A F
        by (far_below A) = elim (amid_only A F) [ inl e ↦ inr e | inr e ↦ inl e ]

    far_faithful : FaithfulTo f S (far f S)
    far_faithful = by B.sides
      where
        by : Sides f S → FaithfulTo f S (far f S)
        by (near_below A) = upper_faithful A
        by (far_below A) = lower_faithful A

    -- a number that isn't zero has one float
    one_float : {x y : Float} → Number f x → Number f y → 0 < magnitude f y → value f x ≡ value f y → x ≡ y
    one_float {x} {y} X Y p e =
        same_float X Y e (λ (z : value f x ≡ pos 0). absurd (omega (arith, sym (value_mag f y) ∙ ap nat_abs (sym e ∙ z))))

    -- nearest floats of one S have one value: two neighbours are not both even
    far_not_nearest : NearestTo f S (far f S) → ⊥
    far_not_nearest M = odd B.step
      where
        level : nat_abs (value f (far f S) -ℤ S) ≡ nat_abs (value f (near f S) -ℤ S)
        level = le_antisymm (M.best (near f S) N.number) (N.best (far f S) M.number)

        bits_apart : (to_bits f (far f S) ≡ to_bits f (near f S) + 1) ⊎ (to_bits f (near f S) ≡ to_bits f (far f S) + 1)
            → to_bits f (far f S) ≡ to_bits f (near f S) → ⊥
        bits_apart (inl s) e = omega (arith, s, e)
        bits_apart (inr s) e = omega (arith, s, e)

        unlike : value f (far f S) ≡ value f (near f S) → ⊥
        unlike e = bits_apart B.step (ap (to_bits f) (one_float M.number N.number B.near_some e))

        odd : (to_bits f (far f S) ≡ to_bits f (near f S) + 1) ⊎ (to_bits f (near f S) ≡ to_bits f (far f S) + 1) → ⊥
        odd (inl s) = omega (arith, s, N.tie (far f S) M.number level unlike, M.tie (near f S) N.number (sym level) (λ e. unlike (sym e)))
        odd (inr s) = omega (arith, s, N.tie (far f S) M.number level unlike, M.tie (near f S) N.number (sym level) (λ e. unlike (sym e)))

    -- the pattern tells the float
    told : {x : Float} → Number f x → (b : ℕ) → to_bits f x ≡ b → x ≡ of_bits f b
    told {x} X b e = sym (of_bits-to_bits f x X.fit) ∙ ap (of_bits f) e

    pub beside_earned : {x : Float} → Number f x → (value f x ≡ S → ⊥) → Earns f S x (grade_at f S x)
    beside_earned {x} X n = elim (ℕ_discrete (to_bits f x) (to_bits f (near f S))) [
      | yes e ↦
          let is : near f S ≡ x = sym (told X (to_bits f (near f S)) e ∙ of_bits-to_bits f (near f S) N.number.fit) in
          rw (grade_near f S x n d e) (nearest (subst (NearestTo f S) is N) n)
      | no b ↦ elim (ℕ_discrete (to_bits f x) (other_side f S)) [
        | yes e ↦
            let is : x ≡ far f S = told X (other_side f S) e in
            rw (grade_side f S x n d b e) (faithful (subst (FaithfulTo f S) (sym is) far_faithful) (λ M. far_not_nearest (subst (NearestTo f S) is M)))
        | no o ↦ rw (grade_off f S x n d b o) (wrong (λ F. neither b o (only F)))
      ]
    ]
      where
        neither : (to_bits f x ≡ to_bits f (near f S) → ⊥) → (to_bits f x ≡ other_side f S → ⊥)
            → (value f x ≡ value f (near f S)) ⊎ (value f x ≡ value f (far f S)) → ⊥
        neither b o (inl e) = b (ap (to_bits f) (one_float X N.number B.near_some e))
        neither b o (inr e) = o (ap (to_bits f) (one_float X far_faithful.number B.far_some e) ∙ B.bits)

  -- ---- one is earned
  pub some_grade : {x : Float} → Number f x → Earns f S x (grade_at f S x)
  some_grade {x} X = elim (whether x) [
    | inl e ↦ rw (grade_exact f S x e) (exact e)
    | inr n ↦ elim (whether (near f S)) [
      | inl e ↦ rw (grade_missed f S x n e) (wrong (λ F. n (F.exact (near f S) N.number e)))
      | inr d ↦ beside_earned d X n
    ]
  ]

  pub grade_earned : {x : Float} → Number f x → (g : Graded) → (grade_at f S x ≡ g) ↔ Earns f S x g
  grade_earned {x} X = exactly (grade_at f S x) (Earns f S x) (λ g E. exclusive X (some_grade X) E) (grade_at f S x, some_grade X)

  -- ---- where S is a number
  pub number_grades : {x y : Float} → Number f x → Number f y → value f y ≡ S → (grade_at f S x ≡ Exact) ⊎ (grade_at f S x ≡ Wrong)
  number_grades {x} {y} X Y e = elim (whether x) [
    | inl s ↦ inl (grade_exact f S x s)
    | inr n ↦ inr ((grade_earned X Wrong).1 (wrong (λ F. n (F.exact y Y e))))
  ]

  -- ---- a tie: x and y are the neighbours of S, at one distance from it
  module _ {x y : Float} (F : FaithfulTo f S x) (G : FaithfulTo f S y) (unlike : value f x ≡ value f y → ⊥)
      (level : nat_abs (value f x -ℤ S) ≡ nat_abs (value f y -ℤ S)) where
    not_sum : value f x ≡ S → ⊥
    not_sum e = unlike (e ∙ sym (not_apart f y S (sym level ∙ apart_none f x S e)))

    level_near : nat_abs (value f x -ℤ S) ≡ nat_abs (value f (near f S) -ℤ S)
    level_near = elim (whether (near f S)) [
      | inl e ↦ absurd (not_sum (F.exact (near f S) N.number e))
      | inr d ↦ elim (only d F) [
        | inl e ↦ ap (λ (z : ℤ). nat_abs (z -ℤ S)) e
        | inr e ↦ elim (only d G) [
          | inl g ↦ level ∙ ap (λ (z : ℤ). nat_abs (z -ℤ S)) g
          | inr g ↦ absurd (unlike (e ∙ sym g))
        ]
      ]
    ]

    pub tie_even : to_bits f x % 2 ≡ 0 → grade_at f S x ≡ Nearest
    tie_even even = (grade_earned F.number Nearest).1 (nearest (record {
      number = F.number;
      best = λ z Z. rw level_near (N.best z Z);
      tie = λ z Z t u. even;
    }) not_sum)

    pub tie_odd : to_bits f x % 2 ≡ 1 → grade_at f S x ≡ Faithful
    tie_odd odd = (grade_earned F.number Faithful).1 (faithful F (λ M. omega (arith, M.tie y G.number (sym level) (λ e. unlike (sym e)), odd)))

  -- ---- zeros, of either sign: a zero is faithful to zero alone
  zero_exact : {x : Float} → magnitude f x ≡ 0 → FaithfulTo f S x → value f x ≡ S
  zero_exact {x} z F = elim (whether (near f S)) [
    | inl e ↦ F.exact (near f S) N.number e
    | inr d ↦ elim (only d F) [
      | inl e ↦ absurd (omega (arith, none (near f S) e, (B d).near_some))
      | inr e ↦ absurd (omega (arith, none (far f S) e, (B d).far_some))
    ]
  ]
    where
      none : (y : Float) → value f x ≡ value f y → magnitude f y ≡ 0
      none y e = sym (value_mag f y) ∙ ap nat_abs (sym e) ∙ value_mag f x ∙ z

  pub zeros_alike : {x y : Float} → Number f x → Number f y → magnitude f x ≡ 0 → magnitude f y ≡ 0 → grade_at f S x ≡ grade_at f S y
  zeros_alike {x} {y} X Y a b = elim (whether x) [
    | inl e ↦ grade_exact f S x e ∙ sym (grade_exact f S y (sym v ∙ e))
    | inr n ↦
        (grade_earned X Wrong).1 (wrong (λ F. n (zero_exact a F)))
        ∙ sym ((grade_earned Y Wrong).1 (wrong (λ F. n (v ∙ zero_exact b F))))
  ]
    where
      v : value f x ≡ value f y
      v = zero_value f x a ∙ sym (zero_value f y b)
