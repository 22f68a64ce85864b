-- Two's complement at b bits, over differences of naturals: what number u stands for, that the b bits of a number are determined up to multiples of
-- 2 ^ b, and which sums leave the range, read from the top bits before and after. Assumes nothing.
use Rattle.std.specs.Prelude.{◌≡◌, ◌↔◌, true, false, not, ℕ, zero, suc, ◌+◌, ◌-◌, ◌*◌, ◌/◌, ◌%◌, ◌^◌, ◌≤◌, ◌<◌, ltb, ℤ, pos, nat_abs, ◌+ℤ◌, ◌-ℤ◌}
use Rattle.std.proofs.Common.{sym, ◌∙◌, inl, inr, div-lt_iff_lt-mul, arith}
use Rattle.std.proofs.Math.Path.{ap}
use Rattle.std.proofs.Math.Nat.{mod-lt, mod-eq_of_lt, add-mul-mod_self_left, div-add-mod', mod-add-div', div-eq_of_lt, div-eq_of_lt-le}
use borrow.Author.Tests.{ltb-true, lt-ltb, le-ltb}
use Rattle.std.proofs.Math.IntN.{negsuc}
use Rattle.std.proofs.Math.Pow.{pow_pos}
use Rattle.units.proofs.Powers.{le_or_lt, pow_pred}
use Rattle.units.specs.Whole.{Whole, nat, neg, ◌⊕◌, ◌⊖◌, ◌≈◌, ◌≼◌, ◌≺◌, int, difference}
use Rattle.units.proofs.Integers.{int_is, int_only, int_difference, int_plus, int_minus, int_back}
use Rattle.lists.specs.Digits.{signed, residue, inside}
use Rattle.lists.specs.TwosComplement.{Congruent}

-- what is left of a number below N is determined
left : (N i j x y : ℕ) → x + N * i ≡ y + N * j → y < N → x % N ≡ y
left N i j x y e h = sym (add-mul-mod_self_left x N i) ∙ ap (λ (n : ℕ). n % N) e ∙ add-mul-mod_self_left y N j ∙ mod-eq_of_lt h

left_below : (N i j x y : ℕ) → N * i ≡ y + N * j + suc x → y < N → N - suc (x % N) ≡ y
left_below N zero j x y e h = absurd (omega arith)
left_below N (suc i) j x y e h = omega (arith, left N j i x (N - suc y) (omega arith) (omega arith))

pub no_carry : (N c x y : ℕ) → x + c * N ≡ y → y < N → x ≡ y
no_carry N zero x y e h = omega arith
no_carry N (suc c) x y e h = absurd (omega arith)

module _ (b : ℕ) where
  -- the top bit of u, and the number that u stands for
  abbrev pub top : ℕ → ℕ
  top u = u / 2 ^ (b - 1)

  abbrev pub stands_for : ℕ → Whole
  stands_for u = record { up = u; dn = top u * 2 ^ b }

  -- ---- the b bits of a number

  pub residue_lt : (z : ℤ) → residue b z < 2 ^ b
  unfolding residue
  residue_lt (pos n) = mod-lt n (pow_pos b)
  residue_lt (negsuc n) = omega (arith, pow_pos b)

  pub residue_is : (z : ℤ) → Congruent (2 ^ b) (difference z) (residue b z)
  unfolding residue
  residue_is (pos n) = record { times = nat (n / 2 ^ b); is = omega (arith, div-add-mod' n (2 ^ b)) }
  residue_is (negsuc n) = record { times = neg (nat (suc (n / 2 ^ b))); is = omega (arith, div-add-mod' n (2 ^ b), mod-lt n (pow_pos b)) }

  only : (z : ℤ) {v : ℕ} → v < 2 ^ b → Congruent (2 ^ b) (difference z) v → residue b z ≡ v
  unfolding residue
  only (pos n) {v} h C = left (2 ^ b) C.times.dn C.times.up n v (omega (arith, C.is)) h
  only (negsuc n) {v} h C = left_below (2 ^ b) C.times.dn C.times.up n v (omega (arith, C.is)) h

  -- and they are determined by the number up to multiples of 2 ^ b
  pub residue_only : {a : Whole} {v : ℕ} → v < 2 ^ b → Congruent (2 ^ b) a v → residue b (int a) ≡ v
  residue_only {a} {v} h C = only (int a) h (record { times = C.times; is = omega (arith, int_is a, C.is) })

  -- ---- the range: from -2 ^ (b - 1) to below 2 ^ (b - 1)

  abbrev pub Range : Whole → Type 0
  Range a = (a ≺ nat (2 ^ (b - 1))) × (neg (nat (2 ^ (b - 1))) ≼ a)

  pub inside_when : (z : ℤ) → (inside b z ≡ true) ↔ Range (difference z)
  inside_when (pos n) = (λ e. omega (arith, ltb-true n (2 ^ (b - 1)) e), λ r. lt-ltb n (2 ^ (b - 1)) (omega (arith, r.0)))
  inside_when (negsuc n) = (λ e. omega (arith, ltb-true n (2 ^ (b - 1)) e), λ r. lt-ltb n (2 ^ (b - 1)) (omega (arith, r.1)))

  above : (z : ℤ) → nat (2 ^ (b - 1)) ≼ difference z → inside b z ≡ false
  above (pos n) h = le-ltb n (2 ^ (b - 1)) (omega arith)
  above (negsuc n) h = absurd (omega (arith, pow_pos (b - 1)))

  below : (z : ℤ) → difference z ≺ neg (nat (2 ^ (b - 1))) → inside b z ≡ false
  below (pos n) h = absurd (omega arith)
  below (negsuc n) h = le-ltb n (2 ^ (b - 1)) (omega arith)

  pub inside_small : (z : ℤ) → nat_abs z < 2 ^ (b - 1) → inside b z ≡ true
  inside_small (pos n) h = lt-ltb n (2 ^ (b - 1)) h
  inside_small (negsuc n) h = lt-ltb n (2 ^ (b - 1)) (omega arith)

  module _ (a : Whole) where
    pub inside_yes : a ≺ nat (2 ^ (b - 1)) → neg (nat (2 ^ (b - 1))) ≼ a → inside b (int a) ≡ true
    inside_yes h l = (inside_when (int a)).1 (omega (arith, int_is a), omega (arith, int_is a))

    pub inside_above : nat (2 ^ (b - 1)) ≼ a → inside b (int a) ≡ false
    inside_above h = above (int a) (omega (arith, int_is a))

    pub inside_below : a ≺ neg (nat (2 ^ (b - 1))) → inside b (int a) ≡ false
    inside_below h = below (int a) (omega (arith, int_is a))

  -- ---- u is itself below 2 ^ (b - 1), and from there on u - 2 ^ b

  pub signed_low : {u : ℕ} → u < 2 ^ (b - 1) → signed b u ≡ pos u
  unfolding signed
  signed_low {u} h = rw (lt-ltb u (2 ^ (b - 1)) h)

  pub signed_high : {u : ℕ} → 2 ^ (b - 1) ≤ u → signed b u ≡ negsuc (2 ^ b - suc u)
  unfolding signed
  signed_high {u} h = rw (le-ltb u (2 ^ (b - 1)) h)

  module _ (B : 0 < b) where
    twice : 2 * 2 ^ (b - 1) ≡ 2 ^ b
    twice = pow_pred B

    pub top_low : {u : ℕ} → u < 2 ^ (b - 1) → top u ≡ 0
    top_low h = div-eq_of_lt h

    pub top_high : {u : ℕ} → 2 ^ (b - 1) ≤ u → u < 2 ^ b → top u ≡ 1
    top_high {u} h l = div-eq_of_lt-le (2 ^ (b - 1)) {m = u} (omega arith) (omega (arith, twice))

    top_le : {u : ℕ} → u < 2 ^ b → top u ≤ 1
    top_le {u} h = omega (arith, (div-lt_iff_lt-mul {x = u} {y = 2} (pow_pos (b - 1))).1 (omega (arith, twice)))

    -- u less 2 ^ b where its top bit is set
    pub signed_is : (u : ℕ) → u < 2 ^ b → signed b u ≡ int (stands_for u)
    signed_is u h = elim (le_or_lt (2 ^ (b - 1)) u) [
      | inl g ↦ signed_high g ∙ sym (int_only (stands_for u) (negsuc (2 ^ b - suc u)) (rw (top_high g h) (omega arith)))
      | inr g ↦ signed_low g ∙ sym (int_only (stands_for u) (pos u) (rw (top_low g) (omega arith)))
    ]

    pub signed_inside : (u : ℕ) → u < 2 ^ b → inside b (signed b u) ≡ true
    signed_inside u h = elim (le_or_lt (2 ^ (b - 1)) u) [
      | inl g ↦ rw (signed_high g) (lt-ltb (2 ^ b - suc u) (2 ^ (b - 1)) (omega (arith, twice)))
      | inr g ↦ rw (signed_low g) (lt-ltb u (2 ^ (b - 1)) g)
    ]

    pub residue_signed : (u : ℕ) → u < 2 ^ b → residue b (signed b u) ≡ u
    residue_signed u h = rw (signed_is u h) (residue_only h (record { times = neg (nat (top u)); is = omega arith }))

    pub signed_residue : (z : ℤ) → inside b z ≡ true → signed b (residue b z) ≡ z
    unfolding residue
    signed_residue (pos n) h =
        let l : n < 2 ^ (b - 1) = ltb-true n (2 ^ (b - 1)) h in
        ap (signed b) (mod-eq_of_lt {n = n} {m = 2 ^ b} (omega (arith, twice))) ∙ signed_low l
    signed_residue (negsuc n) h =
        let l : n < 2 ^ (b - 1) = ltb-true n (2 ^ (b - 1)) h in
        let e : n % 2 ^ b ≡ n = mod-eq_of_lt (omega (arith, twice)) in
        rw e (signed_high (omega (arith, twice)) ∙ ap negsuc (omega (arith, twice)))

    -- ---- sums

    plus : (y z : ℤ) → difference (y +ℤ z) ≈ difference y ⊕ difference z
    plus y z =
        int_back (difference (y +ℤ z)) (difference y ⊕ difference z)
        (rw (int_difference, int_plus (difference y) (difference z), int_difference y, int_difference z))

    sum : (u : ℕ) → u < 2 ^ b → (y : ℤ) → signed b u +ℤ y ≡ int (stands_for u ⊕ difference y)
    sum u h y = rw (signed_is u h) (sym (rw (int_difference y) at (int_plus (stands_for u) (difference y))))

    less : (u : ℕ) → u < 2 ^ b → (m : ℕ) → signed b u -ℤ pos m ≡ int (stands_for u ⊖ nat m)
    less u h m = rw (signed_is u h) (sym (rw (int_difference (pos m)) at (int_minus (stands_for u) (nat m))))

    -- bits that were cut off do not matter to a sum
    pub residue_plus : (y z : ℤ) → residue b (signed b (residue b z) +ℤ y) ≡ residue b (z +ℤ y)
    residue_plus y z =
        let r = residue_is z in
        let s = residue_is (z +ℤ y) in
        rw (sum (residue b z) (residue_lt z) y)
        (residue_only (residue_lt (z +ℤ y)) (record { times = s.times ⊖ r.times ⊖ nat (top (residue b z)); is = omega (arith, r.is, s.is, plus z y) }))

    -- v has the bits of the sum of u and m, c is the carry or the borrow out of the top
    module _ {u v : ℕ} (m c : ℕ) (U : u < 2 ^ b) (W : v < 2 ^ b) where
      module _ (e : v + c * 2 ^ b ≡ u + m) where
        pub add_residue : residue b (signed b u +ℤ pos m) ≡ v
        add_residue = rw (sum u U (pos m)) (residue_only W (record { times = record { up = c; dn = top u }; is = omega arith }))

        add_inside : m ≤ 2 ^ (b - 1) → inside b (signed b u +ℤ pos m) ≡ not (ltb (top u) (top v))
        add_inside h = rw (sum u U (pos m)) (elim (le_or_lt (2 ^ (b - 1)) u) [
          | inl g ↦
              rw (top_high g U, le-ltb 1 (top v) (top_le W))
              (inside_yes (record { up = u + m; dn = 1 * 2 ^ b + 0 }) (omega (arith, twice)) (omega (arith, twice)))
          | inr g ↦
              let n : v ≡ u + m = no_carry (2 ^ b) c v (u + m) e (omega (arith, twice)) in
              elim (le_or_lt (2 ^ (b - 1)) v) [
                | inl k ↦ rw (top_low g, top_high k W) (inside_above (record { up = u + m; dn = 0 * 2 ^ b + 0 }) (omega arith))
                | inr k ↦ rw (top_low g, top_low k) (inside_yes (record { up = u + m; dn = 0 * 2 ^ b + 0 }) (omega arith) (omega arith))
              ]
        ])

      module _ (e : u + c * 2 ^ b ≡ v + m) where
        pub sub_residue : residue b (signed b u -ℤ pos m) ≡ v
        sub_residue = rw (less u U m) (residue_only W (record { times = neg (nat (c + top u)); is = omega arith }))

        sub_inside : m ≤ 2 ^ (b - 1) → inside b (signed b u -ℤ pos m) ≡ not (ltb (top v) (top u))
        sub_inside h = rw (less u U m) (elim (le_or_lt (2 ^ (b - 1)) u) [
          | inl g ↦
              let n : u - m ≡ v = no_carry (2 ^ b) c (u - m) v (omega arith) W in
              elim (le_or_lt (2 ^ (b - 1)) v) [
                | inl k ↦ rw (top_high g U, top_high k W) (inside_yes (record { up = u + 0; dn = 1 * 2 ^ b + m }) (omega (arith, twice)) (omega (arith, twice)))
                | inr k ↦ rw (top_high g U, top_low k) (inside_below (record { up = u + 0; dn = 1 * 2 ^ b + m }) (omega (arith, twice)))
              ]
          | inr g ↦ rw (top_low g, le-ltb (top v) 0 (omega arith)) (inside_yes (record { up = u + 0; dn = 0 * 2 ^ b + m }) (omega arith) (omega arith))
        ])

    module _ (u m : ℕ) (U : u < 2 ^ b) (h : m ≤ 2 ^ (b - 1)) where
      -- an addition leaves the range where the top bit was clear and is set afterwards
      pub plus_inside : inside b (signed b u +ℤ pos m) ≡ not (ltb (top u) (top (residue b (signed b u +ℤ pos m))))
      plus_inside =
          let W : (u + m) % 2 ^ b < 2 ^ b = mod-lt (u + m) (pow_pos b) in
          let e : (u + m) % 2 ^ b + (u + m) / 2 ^ b * 2 ^ b ≡ u + m = mod-add-div' (u + m) (2 ^ b) in
          rw (add_residue m ((u + m) / 2 ^ b) U W e) (add_inside m ((u + m) / 2 ^ b) U W e h)

      -- a subtraction where it was set and is clear afterwards
      pub minus_inside : inside b (signed b u -ℤ pos m) ≡ not (ltb (top (residue b (signed b u -ℤ pos m))) (top u))
      minus_inside = elim (le_or_lt m u) [
        | inl k ↦ by (u - m) 0 (omega arith) (omega arith)
        | inr k ↦ by (u + 2 ^ b - m) 1 (omega arith) (omega (arith, twice))
      ]
        where
          by : (v c : ℕ) → v < 2 ^ b → u + c * 2 ^ b ≡ v + m → inside b (signed b u -ℤ pos m) ≡ not (ltb (top (residue b (signed b u -ℤ pos m))) (top u))
          by v c W e = rw (sub_residue m c U W e) (sub_inside m c U W e h)
