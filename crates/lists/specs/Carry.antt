-- Sums and differences of digits in base 2 ^ w: what a carry or a borrow stands for. Definitions only.
use Rattle.std.specs.Prelude.{◌≡◌, List, ℕ, ◌+◌, ◌*◌, ◌^◌, ◌≤◌, take}
use Rattle.lists.specs.Digits.{number}

-- lo at place k and hi at the next
abbrev pub two : ℕ → ℕ → ℕ → ℕ → ℕ
two w k lo hi = lo * 2 ^ (w * k) + hi * 2 ^ (w * (k + 1))

-- a, b and c are the digit d, and the carry above it. Of a difference d is what is taken from, and a what is left.
pub record Carries (w a b c d carry : ℕ) : Type 0 where
  pub total : d + carry * 2 ^ w ≡ a + b + c
  pub small : carry ≤ 1

-- xs and m are the digits ys, and the carry into place i. Of a difference ys is what is taken from, and xs what is left.
pub record Carried (w : ℕ) (xs : List ℕ) (m : ℕ) (ys : List ℕ) (i carry : ℕ) : Type 0 where
  pub total : number w ys + carry * 2 ^ (w * i) ≡ number w xs + m
  pub small : carry ≤ 1

-- the lowest i digits of xs and of ys are those of zs, and the carry into place i
pub record Added (w : ℕ) (xs ys zs : List ℕ) (i carry : ℕ) : Type 0 where
  pub total : number w (take i zs) + carry * 2 ^ (w * i) ≡ number w (take i xs) + number w (take i ys)
  pub small : carry ≤ 1
