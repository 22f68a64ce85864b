-- Products of pairs and weighted sums: at the ends of what is allowed, and with two faults each. Definitions only.
use Rattle.std.specs.Prelude.{List, [], ◌∷◌, replicate}
use Rattle.kinds.specs.Outcome.{outcome}
use Rattle.kinds.specs.Heard.{nowhere, at, refused, nearest, accepted}
use Rattle.cases.specs.Calls.{Case, beforehand, products, weighted_sum}

unfoldable pub pairs : List Case
pairs =
    -- rules M4 and M5: (1 + 2^-52)^2 and its error 2^-104; an error below zero, and one of a product below zero; significands of all ones
    record {
      call = products (0x3FF0000000000001 ∷ 0x3FF0000000000003 ∷ []) (0x3FF0000000000001 ∷ 0x3FF8000000000001 ∷ []) 4;
      expected = outcome accepted (0x3FF0000000000002 ∷ 0x3970000000000000 ∷ 0x3FF8000000000006 ∷ 0xBC9FFFFFFFFFFFF4 ∷ []);
    }
    ∷ record {
      call = products (0x3FF8000000000001 ∷ 0x3FFFFFFFFFFFFFFF ∷ []) (0xBFF8000000000001 ∷ 0x3FFFFFFFFFFFFFFF ∷ []) 4;
      expected = outcome accepted (0xC002000000000002 ∷ 0x3CAFFFFFFFFFFFFE ∷ 0x400FFFFFFFFFFFFE ∷ 0x3970000000000000 ∷ []);
    }
    -- rule M6: 1 times 1 - 2^-30, whose error Algorithm 1.1 finds as -0; a zero of either sign
    ∷ record {
      call = products (0x3FF0000000000000 ∷ 0x8000000000000000 ∷ 0xC014000000000000 ∷ []) (0x3FEFFFFFFF800000 ∷ 0x4008000000000000 ∷ 0 ∷ []) 6;
      expected = outcome accepted (0x3FEFFFFFFF800000 ∷ 0 ∷ 0 ∷ 0 ∷ 0 ∷ 0 ∷ []);
    }
    -- rule M2: 2^-400 and 2^400 are factors, and nothing is lost at either end
    ∷ record {
      call = products (0x26F0000000000001 ∷ 0x58F0000000000000 ∷ 0x58EFFFFFFFFFFFFF ∷ []) (0x26F0000000000001 ∷ 0xD8F0000000000000 ∷ 0x58EFFFFFFFFFFFFF ∷ []) 6;
      expected = outcome accepted
          (0x0DF0000000000002 ∷ 0x0770000000000000 ∷ 0xF1F0000000000000 ∷ 0 ∷ 0x71EFFFFFFFFFFFFE ∷ 0x6B50000000000000 ∷ []);
    }
    ∷ record { call = products [] [] 0; expected = outcome accepted [] }
    -- rule M9: 1 and 2^-53, a tie; the same and 2^-800; 2^800, 1 and -2^800; zeros are +0
    ∷ record {
      call = weighted_sum (0x3FF0000000000000 ∷ 0x3E40000000000000 ∷ []) (0x3FF0000000000000 ∷ 0x3E50000000000000 ∷ []);
      expected = outcome (nearest 0x3FF0000000000000) [];
    }
    ∷ record {
      call = weighted_sum (0x3FF0000000000000 ∷ 0x3E40000000000000 ∷ 0x26F0000000000000 ∷ [])
          (0x3FF0000000000000 ∷ 0x3E50000000000000 ∷ 0x26F0000000000000 ∷ []);
      expected = outcome (nearest 0x3FF0000000000001) [];
    }
    ∷ record {
      call = weighted_sum (0x58F0000000000000 ∷ 0x3FF0000000000000 ∷ 0x58F0000000000000 ∷ [])
          (0x58F0000000000000 ∷ 0x3FF0000000000000 ∷ 0xD8F0000000000000 ∷ []);
      expected = outcome (nearest 0x3FF0000000000000) [];
    }
    ∷ record { call = weighted_sum (0x8000000000000000 ∷ []) (0x3FF0000000000000 ∷ []); expected = outcome (nearest 0) [] }
    ∷ record { call = weighted_sum [] []; expected = outcome (nearest 0) [] }
    -- rule O12: 1 of either list before 22, that before 4, and 4 before a bad pair; at one place 2 before 23, and the lowest place before both
    ∷ record { call = products [] (replicate 2048 0) 1; expected = outcome (refused 1 nowhere) (beforehand ∷ []) }
    ∷ record { call = products (0x7FF8000000000000 ∷ []) [] 1; expected = outcome (refused 22 nowhere) (beforehand ∷ []) }
    ∷ record { call = products (0x7FF8000000000000 ∷ []) (0 ∷ []) 1; expected = outcome (refused 4 nowhere) (beforehand ∷ []) }
    ∷ record {
      call = products (0x26EFFFFFFFFFFFFF ∷ []) (0x7FF0000000000000 ∷ []) 2;
      expected = outcome (refused 2 (at 0)) (beforehand ∷ beforehand ∷ []);
    }
    ∷ record {
      call = products (0 ∷ 0xFFF8000000000000 ∷ []) (0x58F0000000000001 ∷ 0 ∷ []) 4;
      expected = outcome (refused 23 (at 0)) (replicate 4 beforehand);
    }
    -- the same without an area; a subnormal factor is below 2^-400 whatever its partner is
    ∷ record { call = weighted_sum (replicate 2048 0) []; expected = outcome (refused 1 nowhere) [] }
    ∷ record { call = weighted_sum [] (0xFFF0000000000000 ∷ []); expected = outcome (refused 22 nowhere) [] }
    ∷ record { call = weighted_sum (0 ∷ 1 ∷ []) (0 ∷ 0x7FF0000000000001 ∷ []); expected = outcome (refused 2 (at 1)) [] }
    ∷ record { call = weighted_sum (0 ∷ 1 ∷ []) (0 ∷ 0 ∷ []); expected = outcome (refused 23 (at 1)) [] }
    -- the double below 2^-400 is no factor, though its partner is zero; 2,047 pairs are taken
    ∷ record { call = weighted_sum (0x26EFFFFFFFFFFFFF ∷ []) (0 ∷ []); expected = outcome (refused 23 (at 0)) [] }
    ∷ record { call = weighted_sum (replicate 2047 0) (replicate 2047 0); expected = outcome (nearest 0) [] }
    ∷ []
