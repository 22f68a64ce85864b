-- Calls at the scope's bounds, beyond its twelve cases: a table of the same kind. Definitions only. The limits are written once, in the definition of a
-- width; these rows hold it to the scope's numbers. Patterns: 2^8 is 4070000000000000, 64 4050000000000000, 1 3FF0000000000000, 2^-60 3C30000000000000,
-- 2 4000000000000000, 2^100 4630000000000000, -1 BFF0000000000000, -0 8000000000000000.
use Rattle.std.specs.Prelude.{true, false, List, [], ◌∷◌, ◌++◌, ℕ, ◌+◌, ◌-◌, ◌^◌, replicate}
use Rattle.kinds.specs.Outcome.{outcome}
use Rattle.kinds.specs.Heard.{nowhere, at, refused, more, done, nearest, parts, accepted, count, rescued}
use Rattle.cases.specs.Calls.{Given, Case, beforehand, byte_beforehand, least, greatest}
use Rattle.cases.specs.Calls.{opening, step, faithful_sum, nearest_sum, sum_in_parts, round, merge, sheet, write, rescue, hand_on, grading}

-- a state with t = tau = +0; one with a given t and tau, and one with a given sigma, of one number
abbrev opened : ℕ → ℕ → ℕ → Given
opened n pending rounds = record { sigma = 0x4070000000000000; t = 0; tau = 0; n = n; pending = pending; rounds = rounds; ensemble = 7; largest = 0 }

abbrev carrying : ℕ → ℕ → Given
carrying t tau = record { sigma = 0x4070000000000000; t = t; tau = tau; n = 1; pending = 1; rounds = 0; ensemble = 7; largest = 0 }

abbrev sized : ℕ → Given
sized sigma = record { sigma = sigma; t = 0; tau = 0; n = 1; pending = 1; rounds = 0; ensemble = 7; largest = 0 }

-- 62 zeros behind two numbers, and a block of 2^-107; the area behind 1 and 2^-53 before them; a state in that list's first round
abbrev tiny : List ℕ
tiny = replicate 62 0 ++ replicate 64 0x3940000000000000

abbrev chained : List ℕ
chained = (0 ∷ 0x3CA0000000000000 ∷ []) ++ tiny

abbrev half : ℕ → ℕ → ℕ → Given
half pending tau largest =
    record { sigma = 0x4070000000000000; t = 0; tau = tau; n = 128; pending = pending; rounds = 0; ensemble = 7; largest = largest }

unfoldable pub bounds : List Case
bounds =
    -- rules WS4 and WS11: the 51st round may close and go on, and its state is not sound
    record {
      call = step (opened 1 1 50) (0x3C30000000000000 ∷ []) 7 0;
      expected = outcome (more 0x3C50000000000000 0 0 1 1 51 7 0 0x3C30000000000000) (0x3C30000000000000 ∷ []);
    }
    ∷ record { call = step (opened 1 1 51) (0x3C30000000000000 ∷ []) 7 0; expected = outcome (refused 8 nowhere) (0x3C30000000000000 ∷ []) }
    -- rule WS7
    ∷ record {
      call = step (carrying 0x7F30000000000000 0) (0x3FF0000000000000 ∷ []) 7 0;
      expected = outcome (done 0x7F30000000000000 1) (0 ∷ []);
    }
    ∷ record {
      call = step (carrying 0x7F30000000000001 0) (0x3FF0000000000000 ∷ []) 7 0;
      expected = outcome (refused 8 nowhere) (0x3FF0000000000000 ∷ []);
    }
    ∷ record {
      call = step (carrying 0 0xFF30000000000000) (0x3FF0000000000000 ∷ []) 7 0;
      expected = outcome (done 0xFF30000000000000 1) (0 ∷ []);
    }
    ∷ record {
      call = step (carrying 0 0xFF30000000000001) (0x3FF0000000000000 ∷ []) 7 0;
      expected = outcome (refused 8 nowhere) (0x3FF0000000000000 ∷ []);
    }
    -- rule WS6, where M is 2: 4 units and 2^1002 are the ends, 2 units and 2^1003 beyond them; 384 is no power of two, and -256 isn't positive
    ∷ record { call = step (sized 4) (1 ∷ []) 7 0; expected = outcome (done 1 1) (0 ∷ []) }
    ∷ record { call = step (sized 2) (0 ∷ []) 7 0; expected = outcome (refused 8 nowhere) (0 ∷ []) }
    ∷ record { call = step (sized 0x7E90000000000000) (0 ∷ []) 7 0; expected = outcome (done 0 1) (0 ∷ []) }
    ∷ record { call = step (sized 0x7EA0000000000000) (0 ∷ []) 7 0; expected = outcome (refused 8 nowhere) (0 ∷ []) }
    ∷ record { call = step (sized 0x4078000000000000) (0 ∷ []) 7 0; expected = outcome (refused 8 nowhere) (0 ∷ []) }
    ∷ record { call = step (sized 0xC070000000000000) (0 ∷ []) 7 0; expected = outcome (refused 8 nowhere) (0 ∷ []) }
    -- rules WS8 and R19: -64 is 2^-M sigma, and the number below it and an infinity are too large; the second place counts too
    ∷ record {
      call = step (opened 1 1 0) (0xC050000000000000 ∷ []) 7 0;
      expected = outcome (done 0xC050000000000000 1) (0 ∷ []);
    }
    ∷ record {
      call = step (opened 1 1 0) (0xC050000000000001 ∷ []) 7 0;
      expected = outcome (refused 19 (at 0)) (0xC050000000000001 ∷ []);
    }
    ∷ record {
      call = step (opened 1 1 0) (0x7FF0000000000000 ∷ []) 7 0;
      expected = outcome (refused 19 (at 0)) (0x7FF0000000000000 ∷ []);
    }
    ∷ record {
      call = step (opened 2 1 0) (0 ∷ 0x4050000000000001 ∷ []) 7 0;
      expected = outcome (refused 19 (at 1)) (0 ∷ 0x4050000000000001 ∷ []);
    }
    -- rule WS3: no number at all; the last of 64 blocks; and one number more, in an area of that length
    ∷ record { call = step (opened 0 1 0) [] 7 0; expected = outcome (refused 8 nowhere) [] }
    ∷ record {
      call = step (opened 4094 (2 ^ 63 + 1) 0) (replicate 4094 0) 7 63;
      expected = outcome (more 0x4070000000000000 0 0 4094 1 0 7 0 0) (replicate 4094 0);
    }
    ∷ record { call = step (opened 4095 1 0) (replicate 4095 0) 7 0; expected = outcome (refused 8 nowhere) (replicate 4095 0) }
    -- rule L8: block 0 of 65 leaves the last place
    ∷ record {
      call = step (opened 65 3 0) (replicate 65 0x3FF0000000000000) 7 0;
      expected = outcome (more 0x4070000000000000 0 0x4050000000000000 65 2 0 7 0 0) (replicate 64 0 ++ (0x3FF0000000000000 ∷ []));
    }
    -- rules R6 and R7; and an area of another length, rule R4
    ∷ record {
      call = step (opened 65 2 0) (replicate 65 0x3FF0000000000000) 7 2;
      expected = outcome (refused 6 nowhere) (replicate 65 0x3FF0000000000000);
    }
    ∷ record {
      call = step (opened 65 2 0) (replicate 65 0x3FF0000000000000) 7 0;
      expected = outcome (refused 7 nowhere) (replicate 65 0x3FF0000000000000);
    }
    ∷ record { call = step (opened 65 2 0) (replicate 64 0) 7 0; expected = outcome (refused 4 nowhere) (replicate 64 0) }
    -- rule L5, both ends: sigma is 2^1002
    ∷ record {
      call = opening 7 (0x7E70000000000000 ∷ 0xFE70000000000000 ∷ []);
      expected = outcome (more 0x7E90000000000000 0 0 2 1 0 7 0 0) (0x7E70000000000000 ∷ 0xFE70000000000000 ∷ []);
    }
    ∷ record { call = opening 7 (0 ∷ 0xFE70000000000001 ∷ []); expected = outcome (refused 3 (at 1)) (beforehand ∷ beforehand ∷ []) }
    -- rule WO3: mu of a list without a positive number
    ∷ record { call = faithful_sum (0xBFF0000000000000 ∷ []); expected = outcome (done 0xBFF0000000000000 1) (0 ∷ []) }
    -- rule W3's second test: t' is 2^-46 at sigma = 4 and M = 2, and that is enough
    ∷ record {
      call = faithful_sum (0x3FF0000000000000 ∷ 0xBFEFFFFFFFFFFF80 ∷ []);
      expected = outcome (done 0x3D10000000000000 1) (0 ∷ 0 ∷ []);
    }
    -- rule W3's first test: sigma is 2^-1022, and t' is one unit
    ∷ record {
      call = faithful_sum (0x0004000000000000 ∷ 0x8003FFFFFFFFFFFF ∷ []);
      expected = outcome (done 1 1) (0 ∷ 0 ∷ []);
    }
    -- T of rule W3: 2^-53 takes in neither of two 2^-106, which together it would
    ∷ record {
      call = faithful_sum (0x3FF0000000000000 ∷ 0x3CA0000000000000 ∷ 0x3950000000000000 ∷ 0x3950000000000000 ∷ []);
      expected = outcome (done 0x3FF0000000000000 1) (0 ∷ 0x3CA0000000000000 ∷ 0x3950000000000000 ∷ 0x3950000000000000 ∷ []);
    }
    -- rules S7 and S8: with 2^-53 behind the two it takes them in, and the faithful sum is the next double; the nearest sum and the parts are the same
    ∷ record {
      call = faithful_sum (0x3FF0000000000000 ∷ 0x3950000000000000 ∷ 0x3950000000000000 ∷ 0x3CA0000000000000 ∷ []);
      expected = outcome (done 0x3FF0000000000001 1) (0 ∷ 0x3950000000000000 ∷ 0x3950000000000000 ∷ 0x3CA0000000000000 ∷ []);
    }
    ∷ record {
      call = nearest_sum (0x3FF0000000000000 ∷ 0x3CA0000000000000 ∷ 0x3950000000000000 ∷ 0x3950000000000000 ∷ []);
      expected = outcome (nearest 0x3FF0000000000001) [];
    }
    ∷ record {
      call = nearest_sum (0x3FF0000000000000 ∷ 0x3950000000000000 ∷ 0x3950000000000000 ∷ 0x3CA0000000000000 ∷ []);
      expected = outcome (nearest 0x3FF0000000000001) [];
    }
    ∷ record {
      call = sum_in_parts (0x3FF0000000000000 ∷ 0x3CA0000000000000 ∷ 0x3950000000000000 ∷ 0x3950000000000000 ∷ []) 2;
      expected = outcome (parts true) (0x3FF0000000000001 ∷ 0xBC9FFFFFFFFFFFFE ∷ []);
    }
    ∷ record {
      call = sum_in_parts (0x3FF0000000000000 ∷ 0x3950000000000000 ∷ 0x3950000000000000 ∷ 0x3CA0000000000000 ∷ []) 2;
      expected = outcome (parts true) (0x3FF0000000000001 ∷ 0xBC9FFFFFFFFFFFFE ∷ []);
    }
    -- tau2 of rule W3: in the second round t is 2^-45 and tau 2^-98, which their sum loses; with 2^-104 left it makes the sum one place more
    ∷ record {
      call = faithful_sum (0x3FF0000000000000 ∷ 0xBFEFFFFFFFFFFF00 ∷ 0x39D0000000000000 ∷ 0x3970000000000000 ∷ []);
      expected = outcome (done 0x3D20000000000001 2) (0 ∷ 0 ∷ 0 ∷ 0x3970000000000000 ∷ []);
    }
    -- one step below the second test, and above the first: sigma is 4 with t' = 31·2^-51, and 2^-1021 with t' one unit
    ∷ record {
      call = faithful_sum (0x3FF0000000000000 ∷ 0xBFEFFFFFFFFFFF84 ∷ []);
      expected = outcome (done 0x3D0F000000000000 2) (0 ∷ 0 ∷ []);
    }
    ∷ record {
      call = faithful_sum (0x0008000000000000 ∷ 0x8007FFFFFFFFFFFF ∷ []);
      expected = outcome (done 1 2) (0 ∷ 0 ∷ []);
    }
    -- rule E4: T goes through both blocks in one chain, in the undivided call and in the steps that take block 1 or block 0 last
    ∷ record { call = faithful_sum ((0x3FF0000000000000 ∷ 0x3CA0000000000000 ∷ []) ++ tiny); expected = outcome (done 0x3FF0000000000000 1) chained }
    ∷ record { call = step (half 2 0x3FF0000000000000 0x3CA0000000000000) chained 7 1; expected = outcome (done 0x3FF0000000000000 1) chained }
    ∷ record {
      call = step (half 1 0 0x3940000000000000) ((0x3FF0000000000000 ∷ 0x3CA0000000000000 ∷ []) ++ tiny) 7 0;
      expected = outcome (done 0x3FF0000000000000 1) chained;
    }
    -- rule L8: 64 numbers are one block, 65 are two; block 1 of 64 is none, and in no sound set (rule R18)
    ∷ record {
      call = opening 7 (replicate 64 0x3FF0000000000000);
      expected = outcome (more 0x4060000000000000 0 0 64 1 0 7 0 0) (replicate 64 0x3FF0000000000000);
    }
    ∷ record {
      call = opening 7 (replicate 65 0x3FF0000000000000);
      expected = outcome (more 0x4060000000000000 0 0 65 3 0 7 0 0) (replicate 65 0x3FF0000000000000);
    }
    ∷ record { call = step (opened 64 1 0) (replicate 64 0) 7 1; expected = outcome (refused 6 nowhere) (replicate 64 0) }
    ∷ record { call = step (opened 64 3 0) (replicate 64 0) 7 0; expected = outcome (refused 18 nowhere) (replicate 64 0) }
    -- rule L7: M is 3 for three numbers, the first power of two that isn't below 5
    ∷ record {
      call = opening 7 (replicate 3 0x3FF0000000000000);
      expected = outcome (more 0x4020000000000000 0 0 3 1 0 7 0 0) (replicate 3 0x3FF0000000000000);
    }
    -- rules L4 and R1
    ∷ record { call = nearest_sum (replicate 4094 0); expected = outcome (nearest 0) [] }
    ∷ record { call = faithful_sum (replicate 4095 0); expected = outcome (refused 1 nowhere) (replicate 4095 beforehand) }
    -- rule L10: a part too few for 2^-53, and the flag says so
    ∷ record { call = sum_in_parts (0x3FF0000000000000 ∷ 0x3CA0000000000000 ∷ []) 1; expected = outcome (parts false) (0x3FF0000000000000 ∷ []) }
    -- rule S5: one unit that is left over is enough for the flag
    ∷ record { call = sum_in_parts (0x3FF0000000000000 ∷ 1 ∷ []) 1; expected = outcome (parts false) (0x3FF0000000000000 ∷ []) }
    -- rules L2 and G4: numbers of both signs; a register of zeros
    ∷ record {
      call = nearest_sum (0x4630000000000000 ∷ 0x3FF0000000000000 ∷ 0xC630000000000000 ∷ []);
      expected = outcome (nearest 0x3FF0000000000000) [];
    }
    ∷ record { call = round (replicate 33 0); expected = outcome (nearest 0) [] }
    -- rule S3: -0 alone; beside +0, on either side; no number; and beside numbers that cancel
    ∷ record { call = nearest_sum (0x8000000000000000 ∷ []); expected = outcome (nearest 0x8000000000000000) [] }
    ∷ record { call = faithful_sum (0x8000000000000000 ∷ []); expected = outcome (done 0x8000000000000000 0) (0x8000000000000000 ∷ []) }
    ∷ record { call = opening 7 (0x8000000000000000 ∷ []); expected = outcome (done 0x8000000000000000 0) (0x8000000000000000 ∷ []) }
    ∷ record { call = sum_in_parts (0x8000000000000000 ∷ []) 3; expected = outcome (parts true) (0x8000000000000000 ∷ 0 ∷ 0 ∷ []) }
    ∷ record { call = nearest_sum (0x8000000000000000 ∷ 0 ∷ []); expected = outcome (nearest 0) [] }
    ∷ record { call = faithful_sum (0x8000000000000000 ∷ 0 ∷ []); expected = outcome (done 0 0) (0x8000000000000000 ∷ 0 ∷ []) }
    ∷ record { call = sum_in_parts (0x8000000000000000 ∷ 0 ∷ []) 2; expected = outcome (parts true) (0 ∷ 0 ∷ []) }
    ∷ record { call = nearest_sum (0 ∷ 0x8000000000000000 ∷ []); expected = outcome (nearest 0) [] }
    ∷ record { call = faithful_sum (0 ∷ 0x8000000000000000 ∷ []); expected = outcome (done 0 0) (0 ∷ 0x8000000000000000 ∷ []) }
    ∷ record { call = nearest_sum []; expected = outcome (nearest 0) [] }
    ∷ record { call = nearest_sum (0x3FF0000000000000 ∷ 0xBFF0000000000000 ∷ 0x8000000000000000 ∷ []); expected = outcome (nearest 0) [] }
    ∷ record {
      call = faithful_sum (0x3FF0000000000000 ∷ 0xBFF0000000000000 ∷ 0x8000000000000000 ∷ []);
      expected = outcome (done 0 1) (0 ∷ 0 ∷ 0x8000000000000000 ∷ []);
    }
    ∷ record {
      call = sum_in_parts (0x3FF0000000000000 ∷ 0xBFF0000000000000 ∷ 0x8000000000000000 ∷ []) 2;
      expected = outcome (parts true) (0 ∷ 0 ∷ []);
    }
    -- rules L11 and G4: -1 unit
    ∷ record { call = round (replicate 33 (2 ^ 64 - 1)); expected = outcome (nearest 0x8000000000000001) [] }
    -- rules G7 and R9: 2^64 - 1 units and one, -1 unit and one, both ends of the range together, and one unit beyond either
    ∷ record {
      call = merge ((2 ^ 64 - 1) ∷ replicate 32 0) (1 ∷ replicate 32 0) 33;
      expected = outcome accepted (0 ∷ 1 ∷ replicate 31 0);
    }
    ∷ record { call = merge (replicate 33 (2 ^ 64 - 1)) (1 ∷ replicate 32 0) 33; expected = outcome accepted (replicate 33 0) }
    ∷ record { call = merge greatest least 33; expected = outcome accepted (replicate 33 (2 ^ 64 - 1)) }
    ∷ record { call = merge greatest (1 ∷ replicate 32 0) 33; expected = outcome (refused 9 nowhere) (replicate 33 beforehand) }
    ∷ record { call = merge (replicate 33 (2 ^ 64 - 1)) least 33; expected = outcome (refused 9 nowhere) (replicate 33 beforehand) }
    -- rule G8: of the greatest, one unit and -1 unit the first two are refused, as just shown; the last two are zero, and with that the greatest stays
    ∷ record { call = merge (1 ∷ replicate 32 0) (replicate 33 (2 ^ 64 - 1)) 33; expected = outcome accepted (replicate 33 0) }
    ∷ record { call = merge greatest (replicate 33 0) 33; expected = outcome accepted greatest }
    -- rules H1 to H3: two numbers, in an area of three places
    ∷ record {
      call = sheet (1 ∷ 0 ∷ 0 ∷ 0 ∷ 2 ∷ (0x3F ∷ 0xF0 ∷ replicate 6 0) ++ (0x40 ∷ replicate 7 0)) 3;
      expected = outcome (count 2) (0x3FF0000000000000 ∷ 0x4000000000000000 ∷ beforehand ∷ []);
    }
    -- rules H4 and H5: 1 and a NaN with a payload, in an area of a byte more; no number in five bytes; 258 numbers, of which the count has two bytes
    ∷ record {
      call = write (0x3FF0000000000000 ∷ 0x7FF0000000000203 ∷ []) 22;
      expected = outcome (count 21) (1 ∷ 0 ∷ 0 ∷ 0 ∷ 2 ∷ (0x3F ∷ 0xF0 ∷ replicate 6 0) ++ (0x7F ∷ 0xF0 ∷ replicate 4 0) ++ (2 ∷ 3 ∷ byte_beforehand ∷ []));
    }
    ∷ record { call = write [] 5; expected = outcome (count 5) (1 ∷ 0 ∷ 0 ∷ 0 ∷ 0 ∷ []) }
    ∷ record { call = write (replicate 258 0) 2069; expected = outcome (count 2069) (1 ∷ 0 ∷ 0 ∷ 1 ∷ 2 ∷ replicate 2064 0) }
    -- rules H7 to H11: four are counted; 2^1000, a NaN and the next below -2^1000 are there, and three bytes; a byte more in each area. None is counted
    ∷ record {
      call =
          rescue (1 ∷ 0 ∷ 0 ∷ 0 ∷ 4 ∷ (0x7E ∷ 0x70 ∷ replicate 6 0) ++ (0x7F ∷ 0xF8 ∷ replicate 6 0) ++ (0xFE ∷ 0x70 ∷ replicate 5 0) ++ (1 ∷ 64 ∷ 0 ∷ 0 ∷ []))
          14 4;
      expected = outcome (rescued 13 3 1 3) (1 ∷ 0 ∷ 0 ∷ 0 ∷ 1 ∷ 0x7E ∷ 0x70 ∷ replicate 6 0 ++ (byte_beforehand ∷ 0 ∷ 1 ∷ 2 ∷ byte_beforehand ∷ []));
    }
    ∷ record { call = rescue (1 ∷ replicate 13 0) 5 0; expected = outcome (rescued 5 0 0 9) (1 ∷ 0 ∷ 0 ∷ 0 ∷ 0 ∷ []) }
    -- and two are counted, of which one is there whole and no byte more
    ∷ record {
      call = rescue (1 ∷ 0 ∷ 0 ∷ 0 ∷ 2 ∷ 0x3F ∷ 0xF0 ∷ replicate 6 0) 13 1;
      expected = outcome (rescued 13 1 1 0) (1 ∷ 0 ∷ 0 ∷ 0 ∷ 1 ∷ 0x3F ∷ 0xF0 ∷ replicate 6 0 ++ (0 ∷ []));
    }
    -- rules L10 and R5
    ∷ record { call = sum_in_parts [] 0; expected = outcome (refused 5 nowhere) [] }
    ∷ record { call = sum_in_parts [] 8; expected = outcome (parts true) (replicate 8 0) }
    ∷ record { call = sum_in_parts [] 9; expected = outcome (refused 5 nowhere) (replicate 9 beforehand) }
    -- rules V3 and V5: 1/2, 1/4 and 1/4, without the first
    ∷ record {
      call = hand_on (0x3FE0000000000000 ∷ 0x3FD0000000000000 ∷ 0x3FD0000000000000 ∷ []) 0 3;
      expected = outcome accepted (0 ∷ 0x3FE0000000000000 ∷ 0x3FE0000000000000 ∷ []);
    }
    -- rule V4: 3, 0, 1, 1 and 2^30 - 5 grains; the shares are 0, 0, 0 and 2, and the grain left over goes to place 2
    ∷ record {
      call = hand_on (0x3E28000000000000 ∷ 0 ∷ 0x3E10000000000000 ∷ 0x3E10000000000000 ∷ 0x3FEFFFFFFD800000 ∷ []) 0 5;
      expected = outcome accepted (0 ∷ 0 ∷ 0x3E20000000000000 ∷ 0x3E10000000000000 ∷ 0x3FEFFFFFFE800000 ∷ []);
    }
    -- rule V9
    ∷ record {
      call = hand_on (0x3FE0000000000000 ∷ 0 ∷ 0x3FE0000000000000 ∷ []) 1 3;
      expected = outcome accepted (0x3FE0000000000000 ∷ 0 ∷ 0x3FE0000000000000 ∷ []);
    }
    -- rules Q2 to Q5, around 1, 2^-53 and below it: at the tie the even neighbour is nearest and the odd one faithful, a unit above it the other way round
    ∷ record { call = grading (0x3FF0000000000000 ∷ 0x3CA0000000000000 ∷ []) 0x3FF0000000000000; expected = outcome (count 1) [] }
    ∷ record { call = grading (0x3FF0000000000000 ∷ 0x3CA0000000000000 ∷ []) 0x3FF0000000000001; expected = outcome (count 2) [] }
    ∷ record { call = grading (0x3FF0000000000000 ∷ 0x3CA0000000000000 ∷ 1 ∷ []) 0x3FF0000000000000; expected = outcome (count 2) [] }
    ∷ record { call = grading (0x3FF0000000000000 ∷ 0x3CA0000000000000 ∷ 1 ∷ []) 0x3FF0000000000001; expected = outcome (count 1) [] }
    ∷ record { call = grading (0xBFF0000000000000 ∷ 0xBCA0000000000000 ∷ []) 0xBFF0000000000001; expected = outcome (count 2) [] }
    -- only the neighbour on S's side: a unit above 1 the next above it, a unit below 1 the next below it
    ∷ record { call = grading (0x3FF0000000000000 ∷ 1 ∷ []) 0x3FF0000000000000; expected = outcome (count 1) [] }
    ∷ record { call = grading (0x3FF0000000000000 ∷ 1 ∷ []) 0x3FF0000000000001; expected = outcome (count 2) [] }
    ∷ record { call = grading (0x3FF0000000000000 ∷ 1 ∷ []) 0x3FEFFFFFFFFFFFFF; expected = outcome (count 3) [] }
    ∷ record { call = grading (0x3FF0000000000000 ∷ 0x8000000000000001 ∷ []) 0x3FEFFFFFFFFFFFFF; expected = outcome (count 2) [] }
    ∷ record { call = grading (0x3FF0000000000000 ∷ 0x8000000000000001 ∷ []) 0x3FF0000000000001; expected = outcome (count 3) [] }
    -- where S is a double: exact, or wrong; -0 is zero; a claim may be above 2^1000, the largest double too
    ∷ record { call = grading (0x4630000000000000 ∷ 0x3FF0000000000000 ∷ 0xC630000000000000 ∷ []) 0x3FF0000000000000; expected = outcome (count 0) [] }
    ∷ record { call = grading (0x3FF0000000000000 ∷ []) 0x3FF0000000000001; expected = outcome (count 3) [] }
    ∷ record { call = grading (0x3FF0000000000000 ∷ 0xBFF0000000000000 ∷ []) 0x8000000000000000; expected = outcome (count 0) [] }
    ∷ record { call = grading [] 1; expected = outcome (count 3) [] }
    ∷ record { call = grading (0x7E70000000000000 ∷ 0x7E70000000000000 ∷ []) 0x7E80000000000000; expected = outcome (count 0) [] }
    ∷ record { call = grading (0x3FF0000000000000 ∷ []) 0x7FEFFFFFFFFFFFFF; expected = outcome (count 3) [] }
    ∷ []
