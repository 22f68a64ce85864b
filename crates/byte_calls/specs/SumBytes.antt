-- What rule C4 says of the bytes of a C sum. Definitions only.
use Rattle.std.specs.Prelude.{◌≡◌, List, [], ◌∷◌, ℕ, suc, ◌+◌, ◌*◌, ◌%◌, ◌≤◌, ◌<◌, Float, length}
use Rattle.std.specs.Float.Ieee.{to_bits}
use Rattle.ieee.specs.Units.{magnitude, negative}
use Rattle.ieee.specs.Accuracy.{FaithfulTo, NearestTo}
use Rattle.kinds.specs.Limits.{doubles}
use Rattle.kinds.specs.Outcome.{outcome}
use Rattle.judge.specs.Judge.{zero_sign}
use Rattle.judge.specs.Table.{Allowed, First}
use Rattle.octets.specs.Octets.{packed}
use Rattle.sums.specs.Sums.{sum_of}
use Rattle.calls.specs.Calls.{Called, patterns_in, list_bytes, sum_bytes}

-- of a faithful sum
pub record FaithfulBytes (list : List ℕ) (c : Called) : Type 0 where
  pub sum : Float
  pub rounds : ℕ
  pub is : c ≡ outcome 0 (packed (to_bits doubles.format sum ∷ rounds ∷ []))
  pub faithful : FaithfulTo doubles.format (sum_of doubles.format (patterns_in list)) sum
  pub most : rounds ≤ suc doubles.rounds
  -- rule S3
  pub zero : magnitude doubles.format sum ≡ 0 → negative sum ≡ zero_sign doubles (patterns_in list)

-- and of the nearest sum, whose rounds are 0
pub record NearestBytes (list : List ℕ) (c : Called) : Type 0 where
  pub sum : Float
  pub is : c ≡ outcome 0 (packed (to_bits doubles.format sum ∷ 0 ∷ []))
  pub nearest : NearestTo doubles.format (sum_of doubles.format (patterns_in list)) sum
  pub zero : magnitude doubles.format sum ≡ 0 → negative sum ≡ zero_sign doubles (patterns_in list)

-- what is accepted: no length is refused, and every number is allowed
pub record RightBytes (list out : List ℕ) : Type 0 where
  pub bytes : length list ≤ list_bytes
  pub whole : length list % 8 ≡ 0
  pub sixteen : length out ≡ sum_bytes
  pub allowed : Allowed doubles (patterns_in list)

-- rules C3 and C6: the code of a sum, a row for each, in the scope's own figures
pub data SumCode (list out : List ℕ) : ℕ → Type 0 where
  too_long : 32752 < length list → SumCode list out 1
  not_whole : length list ≤ 32752 → (length list % 8 ≡ 0 → ⊥) → SumCode list out 4
  wrong_out : length list ≤ 32752 → length list % 8 ≡ 0 → (length out ≡ 16 → ⊥) → SumCode list out 4
  bad_number : length list ≤ 32752 → length list % 8 ≡ 0 → length out ≡ 16 → (k i : ℕ) → First doubles (patterns_in list) k i
      → SumCode list out (k + 32 * (i + 1))
  summed : RightBytes list out → SumCode list out 0
