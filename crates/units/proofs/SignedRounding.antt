-- What rounding a signed whole number to p bits does, from what it does to naturals: odd symmetry, exact at numbers of p bits, monotone, no number of p
-- bits nearer, the error against the last place and against the number, multiples, and zero only from zero. Assumes nothing.
use Rattle.std.specs.Prelude.{◌≡◌, ◌⊎◌, ℕ, ◌+◌, ◌-◌, ◌*◌, ◌^◌, ◌≤◌, ◌<◌}
use Rattle.std.proofs.Math.Path.{refl, ap}
use Rattle.std.proofs.Common.{◌∙◌, mul-le-mul_right, le_of_mul-le-mul_right, pow_pos}
use Rattle.std.proofs.Math.Logic.{inl, inr}
use Rattle.std.proofs.Math.Nat.{mul-sub, eq_of_mul-eq-mul_left}
use native.Mathlib.Omega.{arith}
use Rattle.units.specs.Whole.{Whole, nat, ◌⊖◌, neg, ◌⊗◌, ◌≈◌, ◌≼◌, mag, Within, Multiple}
use Rattle.units.specs.Rounding.{rnd, fl, Short, Representable}
use Rattle.units.proofs.Powers.{le_or_lt}
use Rattle.units.proofs.Multiples.{multiple_neg, multiple_same, multiple_one, multiple_pow}
use Rattle.units.proofs.NaturalRounding as N
use Rattle.units.proofs.CoarseRounding.{rnd_coarse}

-- ---- numbers of p bits

pub rep_neg : {p : ℕ} {a : Whole} → Representable p a → Representable p (neg a)
rep_neg A = record { exp = A.exp; on = multiple_neg A.on; small = omega arith }

pub rep_same : {p : ℕ} {a b : Whole} → a ≈ b → Representable p a → Representable p b
rep_same e A = record { exp = A.exp; on = multiple_same e A.on; small = omega (arith, A.small) }

pub rep_zero : (p : ℕ) → Representable p (nat 0)
rep_zero p = record { exp = 0; on = multiple_one (nat 0); small = omega arith }

pub rep_pow : (p k : ℕ) → Representable p (nat (2 ^ k))
rep_pow p k = record { exp = k; on = multiple_pow (omega arith); small = omega (arith, mul-le-mul_right (2 ^ k) (pow_pos p)) }

-- the positive part of such a number is short, and a short natural is such a number
pub rep_short : {p : ℕ} {z : Whole} → Representable p z → Short p (z.up - z.dn)
rep_short {p} {z} R = record { exp = R.exp; sig = R.on.count.up - R.on.count.dn; is = is; small = small }
  where
    is : z.up - z.dn ≡ (R.on.count.up - R.on.count.dn) * 2 ^ R.exp
    is = omega (arith, R.on.is, mul-sub (2 ^ R.exp) R.on.count.up R.on.count.dn)

    small : R.on.count.up - R.on.count.dn ≤ 2 ^ p
    small = le_of_mul-le-mul_right (omega (arith, is, R.small)) (pow_pos R.exp)

pub short_rep : {p n : ℕ} → Short p n → Representable p (nat n)
short_rep {p} F = record {
  exp = F.exp;
  on = record { count = nat F.sig; is = omega (arith, F.is) };
  small = omega (arith, F.is, mul-le-mul_right (2 ^ F.exp) F.small);
}

-- ---- the rounding

-- it goes by the number, not by how that is written
pub fl_same : (p : ℕ) (a b : Whole) → a ≈ b → fl p a ≡ fl p b
unfolding fl
fl_same p a b e = λ i. record { up = rnd p (u i); dn = rnd p (d i) }
  where
    u : a.up - a.dn ≡ b.up - b.dn
    u = omega arith

    d : a.dn - a.up ≡ b.dn - b.up
    d = omega arith

pub fl_neg : (p : ℕ) (z : Whole) → fl p (neg z) ≡ neg (fl p z)
unfolding fl
fl_neg p z = refl

module _ (p : ℕ) (P : 0 < p) where
  -- z is n or -n, and rounds to what n rounds to, with that sign
  pub data Side (z : Whole) : Type 0 where
    plus : (n : ℕ) → z.up ≡ z.dn + n → (fl p z).up ≡ rnd p n → (fl p z).dn ≡ 0 → Side z
    minus : (n : ℕ) → z.dn ≡ z.up + n → (fl p z).up ≡ 0 → (fl p z).dn ≡ rnd p n → Side z

  pub side : (z : Whole) → Side z
  unfolding fl
  side z = elim (le_or_lt z.dn z.up) [
    | inl l ↦ plus (z.up - z.dn) (omega arith) refl (none (omega arith))
    | inr l ↦ minus (z.dn - z.up) (omega arith) (none (omega arith)) refl
  ]
    where
      none : {n : ℕ} → n ≡ 0 → rnd p n ≡ 0
      none e = ap (rnd p) e ∙ N.rnd_zero p P

  pub fl_nat : (n : ℕ) → fl p (nat n) ≡ nat (rnd p n)
  unfolding fl
  fl_nat n = let d : n - 0 ≡ n = omega arith in let z : 0 - n ≡ 0 = omega arith in rw (d, z, N.rnd_zero p P)

  pub fl_exact : {z : Whole} → Representable p z → fl p z ≈ z
  unfolding fl
  fl_exact R = omega (arith, N.exact p P (rep_short R), N.exact p P (rep_short (rep_neg R)))

  pub fl_mono : (a b : Whole) → a ≼ b → fl p a ≼ fl p b
  unfolding fl
  fl_mono a b h = omega (arith, N.mono p P u, N.mono p P d)
    where
      u : a.up - a.dn ≤ b.up - b.dn
      u = omega arith

      d : b.dn - b.up ≤ a.dn - a.up
      d = omega arith

  pub fl_below : (z : Whole) {f : Whole} → Representable p f → z ≼ f → fl p z ≼ f
  fl_below z {f} F h = omega (arith, fl_mono z f h, fl_exact F)

  pub fl_above : (z : Whole) {f : Whole} → Representable p f → f ≼ z → f ≼ fl p z
  fl_above z {f} F h = omega (arith, fl_mono f z h, fl_exact F)

  pub fl_rep : (z : Whole) → Representable p (fl p z)
  fl_rep z = go (side z)
    where
      go : Side z → Representable p (fl p z)
      go (plus n e u d) = rep_same (omega arith) (short_rep (N.rnd_short p n))
      go (minus n e u d) = rep_same (omega arith) (rep_neg (short_rep (N.rnd_short p n)))

  -- no number of p bits is nearer
  pub fl_best : (z : Whole) {f : Whole} (c : ℕ) → Representable p f → Within (f ⊖ z) c → Within (fl p z ⊖ z) c
  fl_best z {f} c F h = go (side z)
    where
      go : Side z → Within (fl p z ⊖ z) c
      go (plus n e u d) = omega (arith, N.best p n P (f.up - f.dn) c (rep_short F) (omega arith))
      go (minus n e u d) = omega (arith, N.best p n P (f.dn - f.up) c (rep_short (rep_neg F)) (omega arith))

  -- up to 2 ^ (p + j) in magnitude it is off by half of 2 ^ j at most
  pub fl_half : (z : Whole) (j : ℕ) → Within z (2 ^ p * 2 ^ j) → Within (2 ⊗ (fl p z ⊖ z)) (2 ^ j)
  fl_half z j h = go (side z)
    where
      go : Side z → Within (2 ⊗ (fl p z ⊖ z)) (2 ^ j)
      go (plus n e u d) = omega (arith, N.half p P n j (omega arith))
      go (minus n e u d) = omega (arith, N.half p P n j (omega arith))

  -- the error is at most 2 ^ -p of whatever bounds the number or bounds its rounding
  scaled : {x y : ℕ} → x ≡ y → 2 ^ p * x ≡ 2 ^ p * y
  scaled e = ap (λ (x : ℕ). 2 ^ p * x) e

  relative : (z : Whole) → Side z → (c : ℕ) → (Within z c ⊎ Within (fl p z) c) → Within (2 ^ p ⊗ (fl p z ⊖ z)) c
  relative z (plus n e u d) c (inl h) = omega (arith, N.relative p P n, scaled u, scaled d, scaled e)
  relative z (plus n e u d) c (inr h) = omega (arith, N.relative p P n, scaled u, scaled d, scaled e)
  relative z (minus n e u d) c (inl h) = omega (arith, N.relative p P n, scaled u, scaled d, scaled e)
  relative z (minus n e u d) c (inr h) = omega (arith, N.relative p P n, scaled u, scaled d, scaled e)

  pub fl_relative : (z : Whole) (c : ℕ) → Within z c → Within (2 ^ p ⊗ (fl p z ⊖ z)) c
  fl_relative z c h = relative z (side z) c (inl h)

  pub fl_relative_result : (z : Whole) (c : ℕ) → Within (fl p z) c → Within (2 ^ p ⊗ (fl p z ⊖ z)) c
  fl_relative_result z c h = relative z (side z) c (inr h)

  -- a multiple of 2 ^ j rounds to one, and so does a number of p + j digits or more
  pub fl_multiple : {j : ℕ} {z : Whole} → Multiple j z → Multiple j (fl p z)
  fl_multiple {j} {z} A = go (side z)
    where
      nats : (n : ℕ) (w : (w : ℕ) × (rnd p n ≡ w * 2 ^ j)) → Multiple j (nat (rnd p n))
      nats n w = record { count = nat w.0; is = omega (arith, w.1) }

      times : (a b : ℕ) → 2 ^ j * (a - b) ≡ 2 ^ j * a - 2 ^ j * b
      times a b = mul-sub (2 ^ j) a b

      go : Side z → Multiple j (fl p z)
      go (plus n e u d) =
          let a : ℕ = A.count.up in
          let b : ℕ = A.count.dn in
          multiple_same (omega arith) (nats n (N.rnd_multiple p P n j (a - b) (omega (arith, A.is, times a b))))
      go (minus n e u d) =
          let a : ℕ = A.count.up in
          let b : ℕ = A.count.dn in
          multiple_same (omega arith) (multiple_neg (nats n (N.rnd_multiple p P n j (b - a) (omega (arith, A.is, times b a)))))

  pub fl_coarse : (z : Whole) (j : ℕ) → nat (2 ^ p * 2 ^ j) ≼ 2 ⊗ z → Multiple j (fl p z)
  fl_coarse z j h = go (side z)
    where
      go : Side z → Multiple j (fl p z)
      go (plus n e u d) = let w = rnd_coarse p P n j (omega arith) in record { count = nat w.0; is = omega (arith, w.1) }
      go (minus n e u d) = let w = rnd_coarse p P n j (omega arith) in record { count = neg (nat w.0); is = omega (arith, w.1) }

  -- zero only from zero
  pub fl_zero : (z : Whole) → fl p z ≈ nat 0 → z ≈ nat 0
  fl_zero z h =
      let r = fl_relative_result z 0 (omega arith) in
      omega (arith, eq_of_mul-eq-mul_left (2 ^ p) (pow_pos p) ((fl p z).up + z.dn) ((fl p z).dn + z.up) (omega (arith, r)))

  -- the magnitude is the magnitude, rounded
  pub fl_mag : (z : Whole) → mag (fl p z) ≡ rnd p (mag z)
  fl_mag z = go (side z)
    where
      go : Side z → mag (fl p z) ≡ rnd p (mag z)
      go (plus n e u d) = let m : mag z ≡ n = omega arith in rw m (omega arith)
      go (minus n e u d) = let m : mag z ≡ n = omega arith in rw m (omega arith)

  -- a bound of p bits on the number bounds the rounding
  pub fl_within : (z : Whole) {c : ℕ} → Representable p (nat c) → Within z c → Within (fl p z) c
  fl_within z C h = omega (arith, fl_below z C (omega arith), fl_above z (rep_neg C) (omega arith))
