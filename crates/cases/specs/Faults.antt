-- Calls with two faults at once, where rules O1 to O5 and O7 to O11 say which is told, and some with the later fault alone: a table of the same kind.
-- Definitions only.
-- Patterns: 7FF0000000000000 is an infinity, FFF8000000000000 a NaN, and 7E70000000000001 the first double above 2^1000.
use Rattle.std.specs.Prelude.{List, [], ◌∷◌, ◌++◌, ℕ, replicate}
use Rattle.kinds.specs.Outcome.{outcome}
use Rattle.kinds.specs.Heard.{nowhere, at, refused}
use Rattle.cases.specs.Calls.{Given, Case, beforehand, byte_beforehand, least, greatest}
use Rattle.cases.specs.Calls.{faithful_within, step, nearest_sum, sum_in_parts, add, withdraw, round, merge, sheet, write, rescue, hand_on, grading}

abbrev numbered : ℕ → ℕ → Given
numbered n pending = record { sigma = 0x4070000000000000; t = 0; tau = 0; n = n; pending = pending; rounds = 0; ensemble = 7; largest = 0 }

abbrev closed_rounds : ℕ → ℕ → Given
closed_rounds rounds pending = record { sigma = 0x4070000000000000; t = 0; tau = 0; n = 1; pending = pending; rounds = rounds; ensemble = 7; largest = 0 }

unfoldable pub faults : List Case
faults =
    -- rule O1: 1 before 4, 5 and a bad number; 4 and 5 before it
    record { call = faithful_within (0x7FF0000000000000 ∷ replicate 4094 0) 1; expected = outcome (refused 1 nowhere) (beforehand ∷ []) }
    ∷ record { call = sum_in_parts (0x7FF0000000000000 ∷ replicate 4094 0) 0; expected = outcome (refused 1 nowhere) [] }
    ∷ record { call = faithful_within (0x7FF0000000000000 ∷ []) 0; expected = outcome (refused 4 nowhere) [] }
    ∷ record { call = faithful_within (0x7E70000000000001 ∷ []) 2; expected = outcome (refused 4 nowhere) (beforehand ∷ beforehand ∷ []) }
    ∷ record { call = sum_in_parts (0xFFF8000000000000 ∷ []) 0; expected = outcome (refused 5 nowhere) [] }
    ∷ record { call = sum_in_parts (0x7E70000000000001 ∷ []) 9; expected = outcome (refused 5 nowhere) (replicate 9 beforehand) }
    -- and among numbers the first place, whichever of 2 and 3 it has
    ∷ record { call = nearest_sum (0x7E70000000000001 ∷ 0x7FF0000000000000 ∷ []); expected = outcome (refused 3 (at 0)) [] }
    -- rule S10: in the other order the other fault is told
    ∷ record { call = nearest_sum (0x7FF0000000000000 ∷ 0x7E70000000000001 ∷ []); expected = outcome (refused 2 (at 0)) [] }
    ∷ record { call = nearest_sum (0 ∷ 0xFFF8000000000000 ∷ 0x7E70000000000001 ∷ []); expected = outcome (refused 2 (at 1)) [] }
    ∷ record { call = nearest_sum (0xFFF0000000000000 ∷ 0x7E70000000000001 ∷ []); expected = outcome (refused 2 (at 0)) [] }
    -- rule O2: 4 before 21, 8, 18 and 19; 21 before all that follow; 8 before 18 and 19; 18 before 19, 6 and 7; 19, at its lowest place, before 6 and 7
    ∷ record { call = step (numbered 4095 1) (replicate 4094 0) 7 0; expected = outcome (refused 4 nowhere) (replicate 4094 0) }
    ∷ record { call = step (numbered 2 0) (0x7FF0000000000000 ∷ []) 7 0; expected = outcome (refused 4 nowhere) (0x7FF0000000000000 ∷ []) }
    ∷ record { call = step (numbered 2 1) (0 ∷ []) 8 0; expected = outcome (refused 4 nowhere) (0 ∷ []) }
    ∷ record { call = step (closed_rounds 51 0) (0x7FF0000000000000 ∷ []) 8 1; expected = outcome (refused 21 nowhere) (0x7FF0000000000000 ∷ []) }
    ∷ record { call = step (numbered 1 0) (0 ∷ []) 0 0; expected = outcome (refused 21 nowhere) (0 ∷ []) }
    ∷ record { call = step (numbered 1 1) (0x7FF0000000000000 ∷ []) 8 0; expected = outcome (refused 21 nowhere) (0x7FF0000000000000 ∷ []) }
    ∷ record { call = step (numbered 1 1) (0 ∷ []) 8 1; expected = outcome (refused 21 nowhere) (0 ∷ []) }
    ∷ record { call = step (numbered 65 2) (replicate 65 0) 0x10007 0; expected = outcome (refused 21 nowhere) (replicate 65 0) }
    ∷ record { call = step (closed_rounds 51 0) (0 ∷ []) 7 0; expected = outcome (refused 8 nowhere) (0 ∷ []) }
    ∷ record { call = step (closed_rounds 51 1) (0x7FF0000000000000 ∷ []) 7 0; expected = outcome (refused 8 nowhere) (0x7FF0000000000000 ∷ []) }
    ∷ record { call = step (closed_rounds 51 1) (0 ∷ []) 7 1; expected = outcome (refused 8 nowhere) (0 ∷ []) }
    ∷ record { call = step (numbered 1 2) (0x7FF0000000000000 ∷ []) 7 1; expected = outcome (refused 18 nowhere) (0x7FF0000000000000 ∷ []) }
    ∷ record { call = step (numbered 1 2) (0 ∷ []) 7 1; expected = outcome (refused 18 nowhere) (0 ∷ []) }
    ∷ record { call = step (numbered 1 0) (0 ∷ []) 7 0; expected = outcome (refused 18 nowhere) (0 ∷ []) }
    ∷ record {
      call = step (numbered 65 2) (replicate 3 0 ++ (0x7FF0000000000000 ∷ replicate 61 0x7E70000000000000)) 7 0;
      expected = outcome (refused 19 (at 3)) (replicate 3 0 ++ (0x7FF0000000000000 ∷ replicate 61 0x7E70000000000000));
    }
    ∷ record { call = step (numbered 1 1) (0xFFF0000000000000 ∷ []) 7 1; expected = outcome (refused 19 (at 0)) (0xFFF0000000000000 ∷ []) }
    -- rule O3: 4 before a bad number, and that before 9
    ∷ record { call = add (replicate 32 0) 0x7FF0000000000000; expected = outcome (refused 4 nowhere) (replicate 32 0) }
    ∷ record { call = withdraw (replicate 34 0) 0x7E70000000000001; expected = outcome (refused 4 nowhere) (replicate 34 0) }
    ∷ record { call = add greatest 0x7FF0000000000000; expected = outcome (refused 2 (at 0)) greatest }
    ∷ record { call = withdraw least 0x7E70000000000001; expected = outcome (refused 3 (at 0)) least }
    ∷ record { call = withdraw least 1; expected = outcome (refused 9 nowhere) least }
    -- rule O4: 4 before 10
    ∷ record { call = round (greatest ++ (0 ∷ [])); expected = outcome (refused 4 nowhere) [] }
    ∷ record { call = round greatest; expected = outcome (refused 10 nowhere) [] }
    -- rule O9: 4 of either register and of the area before 9
    ∷ record { call = merge (greatest ++ (0 ∷ [])) greatest 33; expected = outcome (refused 4 nowhere) (replicate 33 beforehand) }
    ∷ record { call = merge least (0 ∷ least) 33; expected = outcome (refused 4 nowhere) (replicate 33 beforehand) }
    ∷ record { call = merge greatest greatest 32; expected = outcome (refused 4 nowhere) (replicate 32 beforehand) }
    ∷ record { call = merge least least 33; expected = outcome (refused 9 nowhere) (replicate 33 beforehand) }
    -- rule O5: 11 of the header before 12; 12 before 1; 1 before the numbers' 11; that and 13 before 4
    ∷ record { call = sheet (2 ∷ 0 ∷ 0 ∷ 0 ∷ []) 1; expected = outcome (refused 11 nowhere) (beforehand ∷ []) }
    ∷ record { call = sheet (2 ∷ 0 ∷ 0 ∷ 15 ∷ 255 ∷ []) 1; expected = outcome (refused 12 nowhere) (beforehand ∷ []) }
    ∷ record { call = sheet (1 ∷ 0 ∷ 0 ∷ 15 ∷ 255 ∷ []) 1; expected = outcome (refused 1 nowhere) (beforehand ∷ []) }
    ∷ record { call = sheet (1 ∷ 0 ∷ 0 ∷ 0 ∷ 2 ∷ []) 1; expected = outcome (refused 11 nowhere) (beforehand ∷ []) }
    ∷ record { call = sheet (1 ∷ 0 ∷ 0 ∷ 0 ∷ 0 ∷ 0 ∷ []) 1; expected = outcome (refused 13 nowhere) (beforehand ∷ []) }
    ∷ record { call = sheet (1 ∷ 0 ∷ 0 ∷ 0 ∷ 2 ∷ replicate 17 0) 1; expected = outcome (refused 13 nowhere) (beforehand ∷ []) }
    ∷ record { call = sheet (1 ∷ 0 ∷ 0 ∷ 0 ∷ 2 ∷ replicate 16 0) 1; expected = outcome (refused 4 nowhere) (beforehand ∷ []) }
    -- rule O8: 1 before 4; and 4 alone, one byte short
    ∷ record { call = write (replicate 4095 0) 4; expected = outcome (refused 1 nowhere) (replicate 4 byte_beforehand) }
    ∷ record { call = write (0x7FF0000000000000 ∷ []) 12; expected = outcome (refused 4 nowhere) (replicate 12 byte_beforehand) }
    -- rule O11: 11 before 12; 12 before 1; 1 before 4, however few entries are there; 4 of the sheet, and of the marks, for a dropped entry too
    ∷ record { call = rescue (2 ∷ 0 ∷ 0 ∷ 0 ∷ []) 0 0; expected = outcome (refused 11 nowhere) [] }
    ∷ record { call = rescue (2 ∷ 0 ∷ 0 ∷ 15 ∷ 255 ∷ []) 0 0; expected = outcome (refused 12 nowhere) [] }
    ∷ record { call = rescue (1 ∷ 255 ∷ 255 ∷ 255 ∷ 255 ∷ []) 4 0; expected = outcome (refused 1 nowhere) (replicate 4 byte_beforehand) }
    ∷ record { call = rescue (1 ∷ 0 ∷ 0 ∷ 0 ∷ 1 ∷ replicate 8 0) 12 1; expected = outcome (refused 4 nowhere) (replicate 13 byte_beforehand) }
    ∷ record { call = rescue (1 ∷ 0 ∷ 0 ∷ 0 ∷ 1 ∷ 255 ∷ 240 ∷ replicate 6 0) 5 0; expected = outcome (refused 4 nowhere) (replicate 5 byte_beforehand) }
    -- rule O7: 1 before 4; 4 before a bad number; that, at any place, before 14; 14 before 15; 15 before 16 and 17, also of no weight at all
    ∷ record { call = hand_on (0x7FF0000000000000 ∷ replicate 4094 0) 0 0; expected = outcome (refused 1 nowhere) [] }
    ∷ record { call = hand_on (0xFFF8000000000000 ∷ []) 0 0; expected = outcome (refused 4 nowhere) [] }
    ∷ record {
      call = hand_on (0x4000000000000000 ∷ 0x7FF0000000000000 ∷ []) 2 2;
      expected = outcome (refused 2 (at 1)) (beforehand ∷ beforehand ∷ []);
    }
    ∷ record {
      call = hand_on (0x3FF0000000000000 ∷ 0x8000000000000000 ∷ []) 2 2;
      expected = outcome (refused 14 (at 1)) (beforehand ∷ beforehand ∷ []);
    }
    ∷ record { call = hand_on (0x3FF0000000400000 ∷ []) 0 1; expected = outcome (refused 14 (at 0)) (beforehand ∷ []) }
    ∷ record { call = hand_on (0x3E00000000000000 ∷ []) 0 1; expected = outcome (refused 14 (at 0)) (beforehand ∷ []) }
    ∷ record { call = hand_on (0x3FE0000000000000 ∷ []) 1 1; expected = outcome (refused 15 nowhere) (beforehand ∷ []) }
    ∷ record { call = hand_on (0 ∷ []) 0 1; expected = outcome (refused 15 nowhere) (beforehand ∷ []) }
    ∷ record { call = hand_on [] 0 0; expected = outcome (refused 15 nowhere) [] }
    ∷ record { call = hand_on (0x3FF0000000000000 ∷ []) 1 1; expected = outcome (refused 16 nowhere) (beforehand ∷ []) }
    ∷ record { call = hand_on (0x3FF0000000000000 ∷ []) 0 1; expected = outcome (refused 17 nowhere) (beforehand ∷ []) }
    -- rule O10: 1, 2 and 3 before 20, and 20 alone
    ∷ record { call = grading (replicate 4095 0) 0x7FF0000000000000; expected = outcome (refused 1 nowhere) [] }
    ∷ record { call = grading (0 ∷ 0xFFF8000000000000 ∷ []) 0x7FF0000000000000; expected = outcome (refused 2 (at 1)) [] }
    ∷ record { call = grading (0x7E70000000000001 ∷ []) 0xFFF8000000000000; expected = outcome (refused 3 (at 0)) [] }
    ∷ record { call = grading [] 0xFFF0000000000000; expected = outcome (refused 20 nowhere) [] }
    ∷ record { call = grading (0x3FF0000000000000 ∷ []) 0x7FF0000000000001; expected = outcome (refused 20 nowhere) [] }
    ∷ []
