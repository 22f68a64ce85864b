-- The table of rules T1 to T12, one as rule K7 wants. Definitions only. Numbers are written by their patterns: 1 is 3FF0000000000000, -1 BFF0000000000000,
-- -0 8000000000000000, 2^-53 3CA0000000000000, 2^100 4630000000000000, 2^-1074 1. After a faithful sum the area holds the last remainders.
use Rattle.std.specs.Prelude.{true, List, [], ◌∷◌, ◌++◌, ℕ, ◌-◌, ◌^◌, replicate}
use Rattle.kinds.specs.Outcome.{outcome}
use Rattle.kinds.specs.Heard.{nowhere, at, refused, done, nearest, parts, accepted}
use Rattle.register.specs.Entries.{zeros}
use Rattle.cases.specs.Calls.{Case, beforehand, faithful_sum, nearest_sum, sum_in_parts, add, withdraw, round}

-- the register of zeros after 1 was withdrawn from it: "words 0 to 15 zero, word 16 = 2^64 - 2^50, the rest all ones"
abbrev less_one : List ℕ
less_one = replicate 16 0 ++ ((2 ^ 64 - 2 ^ 50) ∷ replicate 16 (2 ^ 64 - 1))

-- the largest register
abbrev largest : List ℕ
largest = replicate 32 (2 ^ 64 - 1) ++ ((2 ^ 63 - 1) ∷ [])

-- 2^2098 - 2^2044 units: 54 ones from digit 2044 on, which is digit 60 of word 31; and one unit less
abbrev too_large : List ℕ
too_large = replicate 31 0 ++ ((2 ^ 64 - 2 ^ 60) ∷ (2 ^ 50 - 1) ∷ [])

abbrev just_not : List ℕ
just_not = replicate 31 (2 ^ 64 - 1) ++ ((2 ^ 64 - 2 ^ 60 - 1) ∷ (2 ^ 50 - 1) ∷ [])

unfoldable pub table : List Case
table =
    -- rule T1
    record { call = faithful_sum []; expected = outcome (done 0 0) [] }
    -- rule T2
    ∷ record { call = faithful_sum (0x3FF0000000000000 ∷ []); expected = outcome (done 0x3FF0000000000000 1) (0 ∷ []) }
    -- rule T3
    ∷ record {
      call = faithful_sum (0x8000000000000000 ∷ 0x8000000000000000 ∷ []);
      expected = outcome (done 0x8000000000000000 0) (0x8000000000000000 ∷ 0x8000000000000000 ∷ []);
    }
    -- rule T4
    ∷ record { call = faithful_sum (0x3FF0000000000000 ∷ 0xBFF0000000000000 ∷ []); expected = outcome (done 0 1) (0 ∷ 0 ∷ []) }
    -- rule T5; the faithful sum's rounds are the walk's
    ∷ record {
      call = faithful_sum (0x3FF0000000000000 ∷ 0x3CA0000000000000 ∷ []);
      expected = outcome (done 0x3FF0000000000000 1) (0 ∷ 0x3CA0000000000000 ∷ []);
    }
    ∷ record { call = nearest_sum (0x3FF0000000000000 ∷ 0x3CA0000000000000 ∷ []); expected = outcome (nearest 0x3FF0000000000000) [] }
    ∷ record {
      call = sum_in_parts (0x3FF0000000000000 ∷ 0x3CA0000000000000 ∷ []) 2;
      expected = outcome (parts true) (0x3FF0000000000000 ∷ 0x3CA0000000000000 ∷ []);
    }
    -- rule T6, which tells rule E1's error; the faithful sum's rounds are the walk's
    ∷ record {
      call = faithful_sum (0x3FF0000000000000 ∷ 0x3CA0000000000000 ∷ 1 ∷ []);
      expected = outcome (done 0x3FF0000000000000 1) (0 ∷ 0x3CA0000000000000 ∷ 1 ∷ []);
    }
    ∷ record { call = nearest_sum (0x3FF0000000000000 ∷ 0x3CA0000000000000 ∷ 1 ∷ []); expected = outcome (nearest 0x3FF0000000000001) [] }
    -- rule T7
    ∷ record {
      call = faithful_sum (0x4630000000000000 ∷ 0x3FF0000000000000 ∷ 0xC630000000000000 ∷ []);
      expected = outcome (done 0x3FF0000000000000 2) (0 ∷ 0 ∷ 0 ∷ []);
    }
    -- rule T8
    ∷ record { call = faithful_sum (1 ∷ 1 ∷ []); expected = outcome (done 2 1) (0 ∷ 0 ∷ []) }
    -- rule T9
    ∷ record { call = faithful_sum (0x7E70000000000001 ∷ []); expected = outcome (refused 3 (at 0)) (beforehand ∷ []) }
    ∷ record { call = nearest_sum (0x7E70000000000001 ∷ []); expected = outcome (refused 3 (at 0)) [] }
    -- rule T10
    ∷ record { call = withdraw zeros 0x3FF0000000000000; expected = outcome accepted less_one }
    ∷ record { call = add less_one 0x3FF0000000000000; expected = outcome accepted zeros }
    -- rule T11
    ∷ record { call = add largest 1; expected = outcome (refused 9 nowhere) largest }
    -- rule T12
    ∷ record { call = round too_large; expected = outcome (refused 10 nowhere) [] }
    ∷ record { call = round just_not; expected = outcome (nearest 0x7FEFFFFFFFFFFFFF) [] }
    ∷ []
