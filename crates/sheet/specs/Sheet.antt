-- The contribution sheet: its format from patterns to bytes, and what the reader answers. Definitions only.
use Rattle.std.specs.Prelude.{cond, not, List, ◌∷◌, ◌++◌, ℕ, ◌+◌, ◌*◌, ltb, eqb, length, drop, get_or}
use Rattle.octets.specs.Octets.{big_endian, big, bytes_at, joined, eights}
use Rattle.kinds.specs.Limits.{Width}
use Rattle.kinds.specs.Outcome.{Outcome, outcome}
use Rattle.kinds.specs.Sheet.{Sheet}
use Rattle.kinds.specs.Sheet.{Read, Refused}

-- ---- rule H1
abbrev pub body : List ℕ → List ℕ
body ps = joined (big_endian 8) ps

unfoldable pub sheet_of : List ℕ → List ℕ
sheet_of ps = 1 ∷ (big_endian 4 (length ps) ++ body ps)

-- ---- what bytes say: the version, the count, and n patterns
abbrev pub version_of : List ℕ → ℕ
version_of bytes = get_or bytes 0 0

abbrev pub count_of : List ℕ → ℕ
count_of bytes = big (bytes_at bytes 1 4)

abbrev pub patterns_of : ℕ → List ℕ → List ℕ
patterns_of n bytes = eights big n bytes

-- the answer, and the area afterwards
abbrev pub Reading : Type 0
Reading = Outcome Sheet ℕ

-- ---- rule O5; rules H2 and H3: what is copied, and what stays
unfoldable pub read_of : Width → List ℕ → List ℕ → Reading
read_of W bytes area =
    let n = count_of bytes in
    cond (ltb (length bytes) 5) (outcome (Refused 11 0) area)
    (cond (not (eqb (version_of bytes) 1)) (outcome (Refused 12 0) area)
    (cond (ltb W.length n) (outcome (Refused 1 0) area)
    (cond (ltb (length bytes) (5 + 8 * n)) (outcome (Refused 11 0) area)
    (cond (ltb (5 + 8 * n) (length bytes)) (outcome (Refused 13 0) area)
    (cond (ltb (length area) n) (outcome (Refused 4 0) area)
    (outcome (Read n) (patterns_of n (drop 5 bytes) ++ drop n area)))))))
