-- What is promised of the two numbers of a pair, of the list of them, and of weighted sums. Definitions only.
use Rattle.std.specs.Prelude.{◌≡◌, ◌⊎◌, Bool, ℕ, ◌+◌, ◌*◌, ◌^◌, ◌≤◌, ◌<◌, T, ℤ, pos, ◌+ℤ◌, ◌*ℤ◌, length, get_or, Float}
use mathlib.Core.List.{List, zip, Perm}
use Rattle.std.specs.Float.{Format}
use Rattle.std.specs.Float.Ieee.{low, of_bits, mul}
use Rattle.ieee.specs.Units.{Number, magnitude, value}
use Rattle.ieee.specs.Accuracy.{FaithfulTo, NearestTo}
use Rattle.kinds.specs.Limits.{Width}
use Rattle.kinds.specs.Verdict.{Good}
use Rattle.judge.specs.Table.{most, ListWhen}
use Rattle.sums.specs.Sums.{sum_of}
use Rattle.pairs.specs.Limits.{Pairing}
use Rattle.pairs.specs.Pairs.{Pair, exact_product, weighted_sum}
use Rattle.pairs.specs.Table.{pair_at}

-- x and y are patterns, the two numbers of the pair c
pub record TwoNumbers (W : Width) (c : Pair) (x y : ℕ) : Type 0 where
  -- both are numbers, which no list is refused for
  pub product : Number W.format (of_bits W.format x)
  pub error : Number W.format (of_bits W.format y)
  pub small_product : magnitude W.format (of_bits W.format x) ≤ most W
  pub small_error : magnitude W.format (of_bits W.format y) ≤ most W
  -- rule M5: they add up to the exact product, in units of a unit
  pub exact : pos (2 ^ low W.format) *ℤ (value W.format (of_bits W.format x) +ℤ value W.format (of_bits W.format y)) ≡ exact_product W.format c
  -- rule M4: the first is what the format multiplies to, where neither factor is zero
  pub rounded : 0 < magnitude W.format (of_bits W.format c.0) → 0 < magnitude W.format (of_bits W.format c.1)
      → of_bits W.format x ≡ mul W.format (of_bits W.format c.0) (of_bits W.format c.1)
  -- rule M6: +0 twice where one is, and a zero error is +0
  pub zeros : (magnitude W.format (of_bits W.format c.0) ≡ 0) ⊎ (magnitude W.format (of_bits W.format c.1) ≡ 0) → (x ≡ 0) × (y ≡ 0)
  pub plus : value W.format (of_bits W.format y) ≡ pos 0 → y ≡ 0

-- rules M7 and M8: what the products of two lists leave in the area
pub record PairsList (P : Pairing) (ps qs out : List ℕ) : Type 0 where
  pub as_long : length out ≡ 2 * length ps
  pub two : (i : ℕ) → i < length ps → TwoNumbers P.width (pair_at ps qs i) (get_or out (2 * i) 0) (get_or out (2 * i + 1) 0)
  -- no sum refuses it for the list itself, with right lengths of what else it is lent
  pub taken : (area parts : Bool) → T area → T parts → ListWhen P.width area parts out Good
  -- its exact sum in units is that of the products in units of a unit
  pub sum : pos (2 ^ low P.width.format) *ℤ sum_of P.width.format out ≡ weighted_sum P.width.format (zip ps qs)

-- rule D2 over the exact products: their exact sum is so many whole units, and x is faithful or nearest to these
pub record FaithfulWeighted (f : Format) (cs : List Pair) (x : Float) : Type 0 where
  pub units : ℤ
  pub exact : pos (2 ^ low f) *ℤ units ≡ weighted_sum f cs
  pub faithful : FaithfulTo f units x

pub record NearestWeighted (f : Format) (cs : List Pair) (x : Float) : Type 0 where
  pub units : ℤ
  pub exact : pos (2 ^ low f) *ℤ units ≡ weighted_sum f cs
  pub nearest : NearestTo f units x

-- rule M10: two lists, both reordered alike
pub record BothReordered (ps qs rs ss : List ℕ) : Type 0 where
  pub alike : length rs ≡ length ss
  pub order : Perm (zip ps qs) (zip rs ss)
