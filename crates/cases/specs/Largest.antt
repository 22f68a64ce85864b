-- Steps that show the largest remainder: what is told and kept, within a round and at its close, and which numbers are sound. A table of the same kind.
-- Definitions only. Patterns: 2^8 is 4070000000000000, and eps times it, 2^-45, 3D20000000000000; 2^-60 is 3C30000000000000, 2^-50 3CD0000000000000,
-- 2^-43 3D40000000000000.
use Rattle.std.specs.Prelude.{List, [], ◌∷◌, ◌++◌, ℕ, replicate}
use Rattle.kinds.specs.Outcome.{outcome}
use Rattle.kinds.specs.Heard.{nowhere, refused, more, done}
use Rattle.cases.specs.Calls.{Given, Case, step}

-- a state of so many numbers with a pending set, under sigma = 2^8; one number with a sigma
abbrev keeping : ℕ → ℕ → ℕ → Given
keeping n pending largest = record { sigma = 0x4070000000000000; t = 0; tau = 0; n = n; pending = pending; rounds = 0; ensemble = 7; largest = largest }

abbrev under : ℕ → ℕ → Given
under sigma largest = record { sigma = sigma; t = 0; tau = 0; n = 1; pending = 1; rounds = 0; ensemble = 7; largest = largest }

-- 2^-60 in block 0 and -2^-50 in block 1, of which sigma takes nothing
abbrev two : List ℕ
two = 0x3C30000000000000 ∷ replicate 63 0 ++ (0xBCD0000000000000 ∷ [])

-- rule DR6's witness: of three blocks the third isn't pending, and holds 2^-60
abbrev pub outside : List ℕ
outside = replicate 128 0 ++ (0x3C30000000000000 ∷ [])

abbrev beyond : List ℕ
beyond = replicate 128 0 ++ (0x3CD0000000000000 ∷ [])

abbrev pub witness : Given
witness = keeping 129 2 0

unfoldable pub largests : List Case
largests =
    -- rules WS13 and WS14: block 0 keeps and tells its own; block 1 behind it the larger of both, told as the round closes with a restart, and +0 is kept
    record { call = step (keeping 65 3 0) two 7 0; expected = outcome (more 0x4070000000000000 0 0 65 2 0 7 0x3C30000000000000 0x3C30000000000000) two }
    ∷ record { call = step (keeping 65 2 0x3C30000000000000) two 7 1; expected = outcome (more 0x3D40000000000000 0 0 65 3 1 7 0 0x3CD0000000000000) two }
    -- in the other order the larger one is kept, though block 0 has it not
    ∷ record { call = step (keeping 65 3 0) two 7 1; expected = outcome (more 0x4070000000000000 0 0 65 1 0 7 0x3CD0000000000000 0x3CD0000000000000) two }
    ∷ record { call = step (keeping 65 1 0x3CD0000000000000) two 7 0; expected = outcome (more 0x3D40000000000000 0 0 65 3 1 7 0 0x3CD0000000000000) two }
    -- a foreign state's number decides where t' is zero: it restarts over zeros, and +0 finishes
    ∷ record {
      call = step (keeping 1 1 0x3D20000000000000) (0 ∷ []) 7 0;
      expected = outcome (more 0x3D40000000000000 0 0 1 1 1 7 0 0x3D20000000000000) (0 ∷ []);
    }
    ∷ record { call = step (keeping 1 1 0) (0 ∷ []) 7 0; expected = outcome (done 0 1) (0 ∷ []) }
    -- and is mu there, whatever the area has: the smaller of the two, and the larger
    ∷ record {
      call = step (keeping 129 2 0x3C30000000000000) beyond 7 1;
      expected = outcome (more 0x3CB0000000000000 0 0 129 7 1 7 0 0x3C30000000000000) beyond;
    }
    ∷ record {
      call = step (keeping 1 1 0x3D20000000000000) (0xBC30000000000000 ∷ []) 7 0;
      expected = outcome (more 0x3D40000000000000 0 0 1 1 1 7 0 0x3D20000000000000) (0xBC30000000000000 ∷ []);
    }
    -- rule WS15: eps times sigma is the greatest; the next double, -0, a negative number, an infinity and a NaN are none
    ∷ record { call = step (keeping 1 1 0x3D20000000000001) (0 ∷ []) 7 0; expected = outcome (refused 8 nowhere) (0 ∷ []) }
    ∷ record { call = step (keeping 1 1 0x8000000000000000) (0 ∷ []) 7 0; expected = outcome (refused 8 nowhere) (0 ∷ []) }
    ∷ record { call = step (keeping 1 1 0xBC30000000000000) (0 ∷ []) 7 0; expected = outcome (refused 8 nowhere) (0 ∷ []) }
    ∷ record { call = step (keeping 1 1 0x7FF0000000000000) (0 ∷ []) 7 0; expected = outcome (refused 8 nowhere) (0 ∷ []) }
    ∷ record { call = step (keeping 1 1 0x7FF8000000000000) (0 ∷ []) 7 0; expected = outcome (refused 8 nowhere) (0 ∷ []) }
    -- under 2^53 units eps times sigma is one unit; under 2^52, and under the least sigma, only +0 will do
    ∷ record { call = step (under 0x0020000000000000 1) (0 ∷ []) 7 0; expected = outcome (more 4 0 0 1 1 1 7 0 1) (0 ∷ []) }
    ∷ record { call = step (under 0x0020000000000000 2) (0 ∷ []) 7 0; expected = outcome (refused 8 nowhere) (0 ∷ []) }
    ∷ record { call = step (under 0x0010000000000000 1) (0 ∷ []) 7 0; expected = outcome (refused 8 nowhere) (0 ∷ []) }
    ∷ record { call = step (under 4 1) (0 ∷ []) 7 0; expected = outcome (refused 8 nowhere) (0 ∷ []) }
    ∷ record { call = step (under 4 0) (0 ∷ []) 7 0; expected = outcome (done 0 1) (0 ∷ []) }
    -- rule O2: 4 and 21 before it; it before 18, 19, 6 and 7
    ∷ record { call = step (keeping 2 1 0x8000000000000000) (0 ∷ []) 7 0; expected = outcome (refused 4 nowhere) (0 ∷ []) }
    ∷ record { call = step (keeping 1 1 0x8000000000000000) (0 ∷ []) 8 0; expected = outcome (refused 21 nowhere) (0 ∷ []) }
    ∷ record { call = step (keeping 1 0 0x8000000000000000) (0 ∷ []) 7 0; expected = outcome (refused 8 nowhere) (0 ∷ []) }
    ∷ record { call = step (keeping 1 1 0x8000000000000000) (0x7FF0000000000000 ∷ []) 7 0; expected = outcome (refused 8 nowhere) (0x7FF0000000000000 ∷ []) }
    ∷ record { call = step (keeping 1 1 0x8000000000000000) (0 ∷ []) 7 1; expected = outcome (refused 8 nowhere) (0 ∷ []) }
    ∷ record { call = step (keeping 65 2 0x8000000000000000) (replicate 65 0) 7 0; expected = outcome (refused 8 nowhere) (replicate 65 0) }
    -- rule DR6's witness: of a state that no call gave out, block 0 and then block 1, which finds nothing
    ∷ record { call = step (keeping 129 3 0) outside 7 0; expected = outcome (more 0x4070000000000000 0 0 129 2 0 7 0 0) outside }
    ∷ record { call = step witness outside 7 1; expected = outcome (done 0 1) outside }
    ∷ []
