-- The scope's numbers at binary64, and numbers for binary32, a line each. A magnitude of 2 ^ 1000 is 2 ^ 2074 units, one of 2 ^ 100 at binary32 2 ^ 249.
-- Assumes nothing.
use Rattle.std.specs.Prelude.{◌≡◌, refl, ◌↔◌, List, ℕ, suc, ◌+◌, ◌-◌, ◌%◌, ◌^◌, ◌≤◌, T, Float}
use Rattle.std.proofs.Common.{arith, lit<, lit≤}
use Rattle.std.specs.Float.{binary32, binary64}
use Rattle.std.specs.Float.Ieee.{emax, low, of_bits, mul}
use Rattle.std.specs.Float.Ieee.Scale.{finite}
use Rattle.units.specs.Whole.{Whole}
use Rattle.units.specs.Faithful.{Faithful}
use Rattle.units.specs.Walk.{rounded_up, Opened, Walk}
use Rattle.units.proofs.WalkLaws.{walk_bounds}
use Rattle.ieee.specs.Units.{Between, magnitude, limit, pattern_units}
use Rattle.ieee.specs.ErrorFree.{product_error, ErrorFree, Room}
use Rattle.ieee.proofs.PatternBounds.{pattern_within, pattern_between}
use Rattle.ieee.proofs.TwoProduct.{two_product, product_small, error_smaller}

-- ---- from here on the nearest double, or binary32 number, is an infinity
pub limit_64 : limit binary64 ≡ 2 ^ 2098 - 2 ^ 2044
limit_64 = refl

pub limit_32 : limit binary32 ≡ 2 ^ 277 - 2 ^ 252
limit_32 = refl

-- ---- the patterns of magnitude at most 2 ^ 1000, and at most 2 ^ 100 at binary32
pub top_64 : pattern_units binary64 0x7E70000000000000 ≡ 2 ^ 2074
unfolding pattern_units
top_64 = refl

pub top_32 : pattern_units binary32 0x71800000 ≡ 2 ^ 249
unfolding pattern_units
top_32 = refl

pub allowed_64 : (b : ℕ) → (b % 2 ^ 63 ≤ 0x7E70000000000000) ↔ (T (finite (of_bits binary64 b)) × (magnitude binary64 (of_bits binary64 b) ≤ 2 ^ 2074))
allowed_64 b = rw top_64 at (pattern_within binary64 b 0x7E70000000000000 (lit< tt))

pub allowed_32 : (b : ℕ) → (b % 2 ^ 31 ≤ 0x71800000) ↔ (T (finite (of_bits binary32 b)) × (magnitude binary32 (of_bits binary32 b) ≤ 2 ^ 249))
allowed_32 b = rw top_32 at (pattern_within binary32 b 0x71800000 (lit< tt))

-- ---- sigma = 2 ^ (M + e) leaves room for an extraction
pub room_64 : {M e : ℕ} → M ≤ 12 → e ≤ 2074 → M + e + 3 ≤ low binary64 + emax binary64
room_64 h k = omega arith

pub room_32 : {M e : ℕ} → M ≤ 11 → e ≤ 249 → M + e + 3 ≤ low binary32 + emax binary32
room_32 h k = omega arith

-- ---- the factors of an error-free product: from 2 ^ -400 to 2 ^ 400, and from 2 ^ -50 to 2 ^ 50 at binary32; products are at most 2 ^ 800 and 2 ^ 100
pub factors_64 : Room binary64 674 1474
factors_64 = record { above = lit≤ tt; split = lit≤ tt; below = lit≤ tt }

pub factors_32 : Room binary32 99 199
factors_32 = record { above = lit≤ tt; split = lit≤ tt; below = lit≤ tt }

pub least_64 : pattern_units binary64 0x26F0000000000000 ≡ 2 ^ 674
unfolding pattern_units
least_64 = refl

pub most_64 : pattern_units binary64 0x58F0000000000000 ≡ 2 ^ 1474
unfolding pattern_units
most_64 = refl

least_32 : pattern_units binary32 0x26800000 ≡ 2 ^ 99
unfolding pattern_units
least_32 = refl

most_32 : pattern_units binary32 0x58800000 ≡ 2 ^ 199
unfolding pattern_units
most_32 = refl

pub factor_64 : (b : ℕ) → ((0x26F0000000000000 ≤ b % 2 ^ 63) × (b % 2 ^ 63 ≤ 0x58F0000000000000)) ↔ Between binary64 674 1474 (of_bits binary64 b)
factor_64 b = pattern_between binary64 b 0x26F0000000000000 0x58F0000000000000 674 1474 least_64 most_64 (lit< tt)

pub factor_32 : (b : ℕ) → ((0x26800000 ≤ b % 2 ^ 31) × (b % 2 ^ 31 ≤ 0x58800000)) ↔ Between binary32 99 199 (of_bits binary32 b)
factor_32 b = pattern_between binary32 b 0x26800000 0x58800000 99 199 least_32 most_32 (lit< tt)

module _ {a b : Float} where
  pub pair_64 : Between binary64 674 1474 a → Between binary64 674 1474 b
      → ErrorFree binary64 a b (mul binary64 a b) (product_error binary64 a b)
      × (magnitude binary64 (mul binary64 a b) ≤ 2 ^ 1874) × (magnitude binary64 (product_error binary64 a b) ≤ 2 ^ 1874)
  pair_64 A B = (two_product factors_64 A B, product_small factors_64 A B, error_smaller factors_64 A B)

  pub pair_32 : Between binary32 99 199 a → Between binary32 99 199 b
      → ErrorFree binary32 a b (mul binary32 a b) (product_error binary32 a b)
      × (magnitude binary32 (mul binary32 a b) ≤ 2 ^ 249) × (magnitude binary32 (product_error binary32 a b) ≤ 2 ^ 249)
  pair_32 A B = (two_product factors_32 A B, product_small factors_32 A B, error_smaller factors_32 A B)

-- ---- the walk is faithful; its rounds are at most 1 + (2022 + M) / (53 - M) rounded up, hence at most 51, and at binary32 at most 20
module _ {M e : ℕ} {S t : Whole} {xs : List Whole} {m : ℕ} {r : Whole} (n : ℕ) (two : 2 ≤ M) (few : n + 2 ≤ 2 ^ M) where
  pub walk_64 : M ≤ 12 → e ≤ 2074 → Opened 53 M n e S t xs → Walk 53 M e t xs m r
      → Faithful 53 r S × (suc m ≤ 1 + rounded_up (2022 + M) (53 - M)) × (suc m ≤ 51)
  walk_64 h k O w = walk_bounds 53 M n two (omega arith) few 2022 12 2074 51 refl h (lit< tt) k O w

  pub walk_32 : M ≤ 11 → e ≤ 249 → Opened 24 M n e S t xs → Walk 24 M e t xs m r
      → Faithful 24 r S × (suc m ≤ 1 + rounded_up (226 + M) (24 - M)) × (suc m ≤ 20)
  walk_32 h k O w = walk_bounds 24 M n two (omega arith) few 226 11 249 20 refl h (lit< tt) k O w
