-- A set as the digits of one number: the code's shifts and masks are the definitions, which members a set keeps where one is taken out or where it is full,
-- and that a set without members is 0. Assumes nothing.
use Rattle.std.specs.Prelude.{◌≡◌, refl, true, false, ℕ, zero, suc, ◌+◌, ◌-◌, ◌*◌, ◌/◌, ◌%◌, ◌^◌, ◌≤◌, ◌<◌, min, eqb}
use Rattle.std.proofs.Common.{sym, ap, ◌∙◌, inl, inr, pow-suc, one-mul, mul-div_cancel, mod-lt, div-lt_iff_lt-mul, arith, eqb-true, eq-eqb, ne_eqb, pow_pos}
use Rattle.std.proofs.Common.{pow-add, pow_mono, shl_exact, shr-shr, lit<}
use Rattle.std.proofs.Math.Nat.{zero-min, div-eq_of_lt, add-mul-div_right, add-mul-mod_self_right}
use Rattle.std.proofs.lemmas.Bool.{eqb-false}
use Rattle.std.specs.Int.Bits.{bit_and, and_step}
use Rattle.std.proofs.lemmas.Nat.Bits.{and_high}
use Rattle.std.proofs.Math.Pow.{pow-lt, split, high, ones_split, ones_lt, high_ones}
use Rattle.std.proofs.Math.Arith.{lt-one}
use Rattle.units.proofs.Powers.{le_or_lt}
use Rattle.lists.specs.Bitset.{has, without, full}

-- ---- the code's own forms, at the width w

-- a digit is kept by a mask or by its complement
pick : (x y : ℕ) → x < 2 → y < 2 → min x (1 - y) + min x y ≡ x
pick zero y hx hy = rw (zero-min (1 - y), zero-min y)
pick (suc zero) zero hx hy = refl
pick (suc zero) (suc zero) hx hy = refl
pick (suc zero) (suc (suc y)) hx hy = absurd (omega arith)
pick (suc (suc x)) y hx hy = absurd (omega arith)

and_not : (w a m : ℕ) → a < 2 ^ w → m < 2 ^ w → bit_and a ((2 ^ w - 1) - m) + bit_and a m ≡ a
and_not zero a m A M = rw (lt-one A)
and_not (suc w) a m A M =
    let p : 2 ^ suc w ≡ 2 ^ w * 2 = pow-suc 2 w in
    let q : (2 ^ suc w - 1 - m) / 2 ≡ 2 ^ w - 1 - m / 2 = omega arith in
    let r : (2 ^ suc w - 1 - m) % 2 ≡ 1 - m % 2 = omega arith in
    let rest : bit_and (a / 2) ((2 ^ w - 1) - m / 2) + bit_and (a / 2) (m / 2) ≡ a / 2 = and_not w (a / 2) (m / 2) (omega arith) (omega arith) in
    let last : min (a % 2) (1 - m % 2) + min (a % 2) (m % 2) ≡ a % 2 = pick (a % 2) (m % 2) (omega arith) (omega arith) in
    rw (and_step a (2 ^ suc w - 1 - m), and_step a m, q, r) (omega arith)

and_one : (s b : ℕ) → bit_and s (2 ^ b) ≡ s / 2 ^ b % 2 * 2 ^ b
and_one s b =
    let p : 2 ^ (1 + b) ≡ 2 * 2 ^ b = pow-add 2 1 b in
    let e : 2 ^ (1 + b) - 2 ^ b ≡ 2 ^ b = omega arith in
    ap (bit_and s) (sym e) ∙ and_high s 1 b

pub shift_mask : (w s b : ℕ) → s < 2 ^ w → b < w → bit_and s ((2 ^ w - 1) - (1 * 2 ^ b) % 2 ^ w) ≡ without s b
shift_mask w s b S B =
    let one : (1 * 2 ^ b) % 2 ^ w ≡ 2 ^ b = shl_exact 1 b w (lit< tt) (omega arith) ∙ one-mul (2 ^ b) in
    rw one (omega (arith, and_not w s (2 ^ b) S (pow-lt B), and_one s b))

pub full_shift : (w count : ℕ) → count ≤ w → (2 ^ w - 1) / 2 ^ (w - count) ≡ full count
full_shift w count h =
    let e : count + (w - count) ≡ w = omega arith in
    ap (λ (k : ℕ). (2 ^ k - 1) / 2 ^ (w - count)) (sym e)
    ∙ rw (ones_split count (w - count)) (high (2 ^ count - 1) (w - count) (ones_lt (w - count)))

-- ---- the sets that are left where the members are taken out in rising order: all from j on

ones_odd : (k : ℕ) → 0 < k → (2 ^ k - 1) % 2 ≡ 1
ones_odd zero h = absurd (omega arith)
ones_odd (suc k) h = omega (arith, pow-suc 2 k, pow_pos k)

module _ {B j : ℕ} (h : j < B) where
  from_digit : (2 ^ B - 2 ^ j) / 2 ^ j % 2 ≡ 1
  from_digit =
      let e : B - j + j ≡ B = omega arith in
      ap (λ (k : ℕ). (2 ^ k - 2 ^ j) / 2 ^ j % 2) (sym e)
      ∙ rw (high_ones (B - j) j) (ap (λ (x : ℕ). x % 2) (shl (B - j)) ∙ ones_odd (B - j) (omega arith))
    where
      shl : (k : ℕ) → (2 ^ k - 1) * 2 ^ j / 2 ^ j ≡ 2 ^ k - 1
      shl k = mul-div_cancel (2 ^ k - 1) (pow_pos j)

  pub has_from : has (2 ^ B - 2 ^ j) j ≡ true
  has_from = eq-eqb _ 1 from_digit

  pub without_from : without (2 ^ B - 2 ^ j) j ≡ 2 ^ B - 2 ^ suc j
  without_from = rw (from_digit, pow-suc 2 j) (omega arith)

  pub has_full : has (full B) j ≡ true
  has_full =
      let e : B - j + j ≡ B = omega arith in
      eq-eqb _ 1 (ap (λ (k : ℕ). (2 ^ k - 1) / 2 ^ j % 2) (sym e)
      ∙ rw (ones_split (B - j) j) (ap (λ (x : ℕ). x % 2) (high (2 ^ (B - j) - 1) j (ones_lt j)) ∙ ones_odd (B - j) (omega arith)))

-- ---- any set s and any b

module _ (s b : ℕ) where
  -- the digits above b, b's own, and those below
  parts : s / 2 ^ b / 2 * 2 * 2 ^ b + s / 2 ^ b % 2 * 2 ^ b + s % 2 ^ b ≡ s
  parts =
      let q : s / 2 ^ b / 2 * 2 + s / 2 ^ b % 2 ≡ s / 2 ^ b = omega arith in
      omega (arith, split s b, ap (λ (x : ℕ). x * 2 ^ b) q)

  without_is : without s b ≡ s / 2 ^ b / 2 * 2 * 2 ^ b + s % 2 ^ b
  without_is = omega (arith, parts)

  above : without s b / 2 ^ b ≡ s / 2 ^ b / 2 * 2
  above = ap (λ (x : ℕ). x / 2 ^ b) without_is ∙ high (s / 2 ^ b / 2 * 2) b (mod-lt s (pow_pos b))

  pub without_less : has s b ≡ true → without s b < s
  without_less h =
      let d : s / 2 ^ b % 2 ≡ 1 = eqb-true _ 1 h in
      rw d (omega (arith, pow_pos b, rw d at parts))

  pub has_without : has (without s b) b ≡ false
  has_without = rw above (ne_eqb (s / 2 ^ b / 2 * 2 % 2) 1 (λ e. omega arith))

  pub has_below : has s b ≡ true → (B : ℕ) → s < 2 ^ B → b < B
  has_below h B l = elim (le_or_lt B b) [
    | inr g ↦ g
    | inl g ↦
        let z : s / 2 ^ b ≡ 0 = div-eq_of_lt (omega (arith, pow_mono {i = B} {j = b} g)) in
        absurd (omega (arith, eqb-true (s / 2 ^ b % 2) 1 h, z))
  ]

  module _ (c k : ℕ) where
    higher : c ≡ b + 1 + k → without s b / 2 ^ c ≡ s / 2 ^ c
    higher e =
        let half : s / 2 ^ b / 2 * 2 / 2 ≡ s / 2 ^ b / 2 = omega arith in
        rw e (cut (without s b) ∙ ap (λ (x : ℕ). x / 2 / 2 ^ k) above ∙ ap (λ (x : ℕ). x / 2 ^ k) half ∙ sym (cut s))
      where
        cut : (n : ℕ) → n / 2 ^ (b + 1 + k) ≡ n / 2 ^ b / 2 / 2 ^ k
        cut n = sym (ap (λ (x : ℕ). x / 2 ^ k) (shr-shr n b 1) ∙ shr-shr n (b + 1) k)

    -- b's own digit is a multiple of 2 ^ (c + 1)
    lower : b ≡ c + 1 + k → without s b / 2 ^ c % 2 ≡ s / 2 ^ c % 2
    lower e = sym (
        ap (λ (x : ℕ). x / 2 ^ c % 2) whole
        ∙ ap (λ (x : ℕ). x % 2) (add-mul-div_right (without s b) (s / 2 ^ b % 2 * 2 ^ k * 2) (pow_pos c))
        ∙ add-mul-mod_self_right (without s b / 2 ^ c) (s / 2 ^ b % 2 * 2 ^ k) 2
        )
      where
        power : 2 ^ b ≡ 2 ^ k * 2 * 2 ^ c
        power = ap (λ (x : ℕ). 2 ^ x) e ∙ pow-add 2 (c + 1) k ∙ ap (λ (x : ℕ). x * 2 ^ k) (pow-add 2 c 1) ∙ omega arith

        whole : s ≡ without s b + s / 2 ^ b % 2 * 2 ^ k * 2 * 2 ^ c
        whole = omega (arith, parts, ap (λ (x : ℕ). s / 2 ^ b % 2 * x) power)

  pub has_other : (c : ℕ) → (c ≡ b → ⊥) → has (without s b) c ≡ has s c
  has_other c n = elim (le_or_lt b c) [
    | inl h ↦ ap (λ (x : ℕ). eqb (x % 2) 1) (higher c (c - suc b) (omega arith))
    | inr h ↦ ap (λ (x : ℕ). eqb x 1) (lower c (b - suc c) (omega arith))
  ]

-- ---- no member below B
pub empty : (B s : ℕ) → s < 2 ^ B → ((b : ℕ) → b < B → has s b ≡ false) → s ≡ 0
empty zero s l h = lt-one l
empty (suc B) s l h =
    let q : s / 2 ^ B < 2 = (div-lt_iff_lt-mul (pow_pos B)).1 (omega (arith, pow-suc 2 B)) in
    let z : s / 2 ^ B % 2 ≡ 1 → ⊥ = eqb-false (s / 2 ^ B % 2) 1 (h B (omega arith)) in
    let lower : s < 1 * 2 ^ B = (div-lt_iff_lt-mul (pow_pos B)).0 (omega arith) in
    empty B s (omega arith) (λ b l. h b (omega arith))
