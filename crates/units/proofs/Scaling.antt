-- Scaling by a power of two: it keeps how many significant bits a number has, up and down, and it goes through rounding. Assumes nothing.
use Rattle.std.specs.Prelude.{◌≡◌, refl, ◌⊎◌, ℕ, ◌+◌, ◌-◌, ◌*◌, ◌^◌, ◌≤◌, ◌<◌}
use Rattle.std.proofs.Common.{sym, ◌∙◌, le_antisymm, le_trans, le_of_lt, mul-le-mul_right, le-mul_of_pos_right, mul_assoc, arith, pow-add, pow_pos, shl_lt}
use Rattle.std.proofs.Math.Path.{ap}
use Rattle.std.proofs.Math.Logic.{inl, inr}
use Rattle.std.proofs.Math.Nat.{eq_of_mul-eq-mul_right, mul_comm, mul-sub}
use Rattle.std.proofs.Math.Pow.{pow_mono}
use Rattle.std.specs.Float.Ieee.{size}
use Rattle.std.specs.Float.Ieee.Digits.{size-lt, size-le, size_reaches}
use Rattle.std.specs.Float.Ieee.Nearest.{closest, closest_same}
use Rattle.units.specs.Whole.{Whole, ◌⊗◌}
use Rattle.units.specs.Rounding.{dropped, rnd, fl, Short}
use Rattle.units.proofs.Powers.{le_or_lt, pow_split}
use Rattle.units.proofs.Ceiling.{size_gt}
use Rattle.units.proofs.NaturalRounding.{exact, rnd_is}

module _ (p : ℕ) where
  pub short_power : (j : ℕ) → Short p (2 ^ j)
  short_power j = record { exp = j; sig = 1; is = omega arith; small = pow_pos p }

  pub short_up : {n : ℕ} (i : ℕ) → Short p n → Short p (n * 2 ^ i)
  short_up i s = record {
    exp = s.exp + i;
    sig = s.sig;
    is = rw (pow-add 2 s.exp i) (ap (λ (x : ℕ). x * 2 ^ i) s.is ∙ mul_assoc s.sig (2 ^ s.exp) (2 ^ i));
    small = s.small;
  }

  pub short_down : {n : ℕ} (i : ℕ) → Short p (n * 2 ^ i) → Short p n
  short_down {n} i s = go (le_or_lt i s.exp)
    where
      m : ℕ
      m = s.sig

      k : ℕ
      k = s.exp

      go : (i ≤ k) ⊎ (k < i) → Short p n
      go (inl l) = record { exp = k - i; sig = m; is = eq_of_mul-eq-mul_right (2 ^ i) (pow_pos i) n (m * 2 ^ (k - i)) whole; small = s.small }
        where
          whole : n * 2 ^ i ≡ m * 2 ^ (k - i) * 2 ^ i
          whole = rw (mul_assoc m (2 ^ (k - i)) (2 ^ i), pow_split l) s.is
      go (inr l) = record { exp = 0; sig = n; is = omega arith; small = le_trans (le-mul_of_pos_right n (pow_pos (i - k))) (rw whole s.small) }
        where
          whole : n * 2 ^ (i - k) ≡ m
          whole = eq_of_mul-eq-mul_right (2 ^ k) (pow_pos k) (n * 2 ^ (i - k)) m (rw (mul_assoc n (2 ^ (i - k)) (2 ^ k), pow_split (le_of_lt l)) s.is)

-- n above 0 has j digits more when it is multiplied by 2 ^ j
size_scale : (n j : ℕ) → 0 < n → size (n * 2 ^ j) ≡ size n + j
size_scale n j N = le_antisymm (size-le (n * 2 ^ j) (size n + j) (shl_lt (size n) j (size-lt n))) (elim (le_or_lt (size n + j) (size (n * 2 ^ j))) [
  | inl l ↦ l
  | inr l ↦ absurd (omega (arith, size-lt (n * 2 ^ j), pow_mono (most l), pow-add 2 (size n - 1) j, mul-le-mul_right (2 ^ j) top))
])
  where
    some : 0 < size n
    some = size_gt n 0 (omega arith)

    last : size n - 1 < size n
    last = omega (arith, some)

    top : 2 ^ (size n - 1) ≤ n
    top = size_reaches n (size n - 1) last

    most : size (n * 2 ^ j) < size n + j → size (n * 2 ^ j) ≤ size n - 1 + j
    most l = omega (arith, some)

module _ (p : ℕ) (P : 0 < p) where
  pub rnd_scale : (n j : ℕ) → rnd p (n * 2 ^ j) ≡ rnd p n * 2 ^ j
  unfolding dropped
  rnd_scale n j = elim (le_or_lt (size n) p) [ inl l ↦ exact p P (scaled l) ∙ ap (λ (x : ℕ). x * 2 ^ j) (sym (exact p P (short l))) | inr l ↦ long l ]
    where
      small : size n ≤ p → n ≤ 2 ^ p
      small l = omega (arith, size-lt n, pow_mono l)

      short : size n ≤ p → Short p n
      short l = record { exp = 0; sig = n; is = omega arith; small = small l }

      scaled : size n ≤ p → Short p (n * 2 ^ j)
      scaled l = record { exp = j; sig = n; is = refl; small = small l }

      k : ℕ
      k = dropped p n

      long : p < size n → rnd p (n * 2 ^ j) ≡ rnd p n * 2 ^ j
      long l =
          rnd_is p (n * 2 ^ j)
          ∙ ap (λ (x : ℕ). closest (n * 2 ^ j) (2 ^ x) * 2 ^ x) more
          ∙ (λ i. closest_same (n * 2 ^ j) (2 ^ (k + j)) n (2 ^ k) (pow_pos (k + j)) (pow_pos k) swap i * pow-add 2 k j i)
          ∙ sym (mul_assoc (closest n (2 ^ k)) (2 ^ k) (2 ^ j))
          ∙ ap (λ (x : ℕ). x * 2 ^ j) (sym (rnd_is p n))
        where
          some : 0 < n
          some = elim (le_or_lt n 0) [ inl z ↦ absurd (omega (arith, size-le n 0 (omega arith))) | inr s ↦ s ]

          more : dropped p (n * 2 ^ j) ≡ k + j
          more = omega (arith, size_scale n j some)

          swap : n * 2 ^ j * 2 ^ k ≡ n * 2 ^ (k + j)
          swap = mul_assoc n (2 ^ j) (2 ^ k) ∙ ap (λ (x : ℕ). n * x) (mul_comm (2 ^ j) (2 ^ k) ∙ sym (pow-add 2 k j))

  pub fl_scale : (z : Whole) (j : ℕ) → fl p (2 ^ j ⊗ z) ≡ 2 ^ j ⊗ fl p z
  unfolding fl
  fl_scale z j = λ i. record { up = part z.up z.dn i; dn = part z.dn z.up i }
    where
      part : (a b : ℕ) → rnd p (2 ^ j * a - 2 ^ j * b) ≡ 2 ^ j * rnd p (a - b)
      part a b = ap (rnd p) (sym (mul-sub (2 ^ j) a b) ∙ mul_comm (2 ^ j) (a - b)) ∙ rnd_scale (a - b) j ∙ mul_comm (rnd p (a - b)) (2 ^ j)
