-- What the theorems of proofs/SettleLaws.antt speak of. Definitions only.
use Rattle.std.specs.Prelude.{◌≡◌, List, ℕ, ◌+◌, ◌*◌, ◌^◌, ◌≤◌, take, drop}
use Rattle.lists.specs.Digits.{number}
use Rattle.words.specs.Words.{word_bits}
use Rattle.sums.specs.SignLanes.{side_lanes, side_of}

-- ---- the words below the place i, and what is carried there
pub record SettledTo (low above words : List ℕ) (i plus minus borrow : ℕ) : Type 0 where
  pub total : number word_bits (take i words) + plus * 2 ^ (word_bits * i) + side_of (take (2 * i) (drop side_lanes low)) (take (2 * i) (drop side_lanes above))
      ≡ side_of (take (2 * i) low) (take (2 * i) above) + (minus + borrow) * 2 ^ (word_bits * i)
  pub small : borrow ≤ 1
