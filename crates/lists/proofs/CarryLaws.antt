-- How one digit's sum or difference carries to the number, the sum or difference of two adjacent digits, and a sum digit by digit from the lowest.
-- Assumes nothing.
use Rattle.std.specs.Prelude.{◌≡◌, List, ℕ, suc, ◌+◌, ◌*◌, ◌^◌, ◌<◌, length, get_or, set}
use Rattle.std.proofs.Common.{ap, add-one, arith, length-set, take_all}
use Rattle.lists.specs.Digits.{number}
use Rattle.lists.specs.DigitLaws.{weight_next, number_nil, number_set}
use Rattle.lists.specs.LowestDigits.{number_next, number_next_set}
use Rattle.lists.specs.Carry.{two, Carries, Carried, Added}

module _ {w : ℕ} {xs ys : List ℕ} {m i c b d carry : ℕ} where
  -- the next digit of a sum, and of a difference
  carried_add : i < length ys → Carried w xs m ys i c → Carries w (get_or ys i 0) b c d carry
      → Carried w xs (m + b * 2 ^ (w * i)) (set ys i d) (i + 1) carry
  carried_add h A s = record {
    total = rw (add-one i, weight_next w i) (omega (arith, number_set w ys i d h, ap (λ (n : ℕ). n * 2 ^ (w * i)) s.total));
    small = s.small;
  }

  carried_sub : i < length xs → Carried w xs m ys i c → Carries w d b c (get_or xs i 0) carry
      → Carried w (set xs i d) (m + b * 2 ^ (w * i)) ys (i + 1) carry
  carried_sub h A s = record {
    total = rw (add-one i, weight_next w i) (omega (arith, number_set w xs i d h, ap (λ (n : ℕ). n * 2 ^ (w * i)) s.total));
    small = s.small;
  }

-- and where nothing but the carry is added or taken
module _ {w : ℕ} {xs ys : List ℕ} {m i c d carry : ℕ} where
  pub carried_up : i < length ys → Carried w xs m ys i c → Carries w (get_or ys i 0) 0 c d carry → Carried w xs m (set ys i d) (i + 1) carry
  carried_up h A s = let n = carried_add h A s in record { total = omega (arith, n.total); small = n.small }

  pub borrowed_up : i < length xs → Carried w xs m ys i c → Carries w d 0 c (get_or xs i 0) carry → Carried w (set xs i d) m ys (i + 1) carry
  borrowed_up h A s = let n = carried_sub h A s in record { total = omega (arith, n.total); small = n.small }

next : (k : ℕ) → k + 1 + 1 ≡ k + 2
next k = omega arith

start : (w : ℕ) (xs : List ℕ) (k : ℕ) → Carried w xs 0 xs k 0
start w xs k = record { total = omega arith; small = omega arith }

-- two adjacent digits, then the carry on from there
module _ {w : ℕ} {xs zs : List ℕ} (k lo hi : ℕ) {l c h d n r : ℕ} (K : k + 1 < length xs) where
  pub add_two : Carries w (get_or xs k 0) lo 0 l c → Carries w (get_or (set xs k l) (k + 1) 0) hi c h d
      → Carried w (set (set xs k l) (k + 1) h) (d * 2 ^ (w * (k + 2))) zs n r → Carried w xs (two w k lo hi) zs n r
  add_two s t C =
      let first = carried_add (omega arith) (start w xs k) s in
      let both = carried_add (simp length-set (omega arith)) first t in
      record { total = omega (arith, rw (next k) at both.total, C.total); small = C.small }

  pub sub_two : Carries w l lo 0 (get_or xs k 0) c → Carries w h hi c (get_or (set xs k l) (k + 1) 0) d
      → Carried w zs (d * 2 ^ (w * (k + 2))) (set (set xs k l) (k + 1) h) n r → Carried w zs (two w k lo hi) xs n r
  sub_two s t C =
      let first = carried_sub (omega arith) (start w xs k) s in
      let both = carried_sub (simp length-set (omega arith)) first t in
      record { total = omega (arith, rw (next k) at both.total, C.total); small = C.small }

-- ---- digit by digit from the lowest
pub added_none : (w : ℕ) (xs ys zs : List ℕ) → Added w xs ys zs 0 0
added_none w xs ys zs = record { total = rw (number_nil w) (omega arith); small = omega arith }

module _ {w : ℕ} {xs ys zs : List ℕ} {i c : ℕ} where
  pub added_next : {d carry : ℕ} → i < length xs → length ys ≡ length xs → length zs ≡ length xs → Added w xs ys zs i c
      → Carries w (get_or xs i 0) (get_or ys i 0) c d carry → Added w xs ys (set zs i d) (suc i) carry
  added_next {d} h k l A s = record {
    total =
        rw (number_next_set w zs {i = i} d (omega arith), number_next w xs h, number_next w ys {i = i} (omega arith), weight_next w i)
        (omega (arith, A.total, ap (λ (n : ℕ). n * 2 ^ (w * i)) s.total));
    small = s.small;
  }

  -- and of a difference, which is written where xs was
  pub taken_next : {d carry : ℕ} → i < length zs → length xs ≡ length zs → length ys ≡ length zs → Added w xs ys zs i c
      → Carries w d (get_or ys i 0) c (get_or zs i 0) carry → Added w (set xs i d) ys zs (suc i) carry
  taken_next {d} h k l A s = record {
    total =
        rw (number_next_set w xs {i = i} d (omega arith), number_next w zs h, number_next w ys {i = i} (omega arith), weight_next w i)
        (omega (arith, A.total, ap (λ (n : ℕ). n * 2 ^ (w * i)) s.total));
    small = s.small;
  }

  pub added_all : i ≡ length xs → length ys ≡ length xs → length zs ≡ length xs → Added w xs ys zs i c → Carried w xs (number w ys) zs (length xs) c
  added_all e k l A = record {
    total =
        let t = rw (take_all i zs (omega arith), take_all i ys (omega arith), take_all i xs (omega arith)) at A.total in
        rw (← e) t;
    small = A.small;
  }
