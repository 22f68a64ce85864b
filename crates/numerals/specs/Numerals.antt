-- Numbers as text, in ASCII: rule P3. Definitions only.
use Rattle.std.specs.Prelude.{cond, List, [], ◌∷◌, ◌++◌, ℕ, zero, suc, ◌+◌, ◌/◌, ◌%◌, ◌^◌, ltb}

-- in decimal, at most so many digits: the last digit behind the digits of the tenth part; no zero in front, and 0 alone for 0
unfoldable pub decimal_in : ℕ → ℕ → List ℕ
decimal_in zero n = []
decimal_in (suc k) n = cond (ltb n 10) ((48 + n) ∷ []) (decimal_in k (n / 10) ++ ((48 + n % 10) ∷ []))

-- no number has more digits than it counts, but for 0
abbrev pub decimal_of : ℕ → List ℕ
decimal_of n = decimal_in (suc n) n

-- a digit below 16: `0` to `9`, then `A` to `F`
abbrev pub capital_of : ℕ → ℕ
capital_of d = cond (ltb d 10) (48 + d) (55 + d)

-- the k lowest hex digits, the most significant first
unfoldable pub capitals_of : ℕ → ℕ → List ℕ
capitals_of zero p = []
capitals_of (suc k) p = capital_of (p / 16 ^ k % 16) ∷ capitals_of k p

abbrev pub hex_of : ℕ → List ℕ
hex_of p = capitals_of 16 p
