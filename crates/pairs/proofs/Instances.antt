-- The limits on pairs of doubles: 2^-400 is 2^674 units and 2^400 is 2^1474 units, so that products and errors are of at most 2^1874 units, 2^800; and what is
-- promised of every pair at the scope's width. Assumes nothing.
use Rattle.std.specs.Prelude.{◌≡◌, ◌^◌}
use Rattle.std.proofs.Common.{sym, ◌∙◌, le_of_eq, lit<, lit≤}
use Rattle.std.specs.Float.{binary64}
use Rattle.std.specs.Float.Ieee.{to_bits}
use Rattle.ieee.proofs.Pattern.{magnitude_is}
use Rattle.ieee.proofs.Instances.{factors_64, least_64, most_64}
use Rattle.kinds.specs.Limits.{doubles}
use Rattle.judge.specs.Table.{size_of}
use Rattle.judge.specs.FaultLaws.{most_doubles}
use Rattle.pairs.specs.Limits.{double_pairs}
use Rattle.pairs.specs.Pairs.{Pair, product_of, error_of, pair_fault}
use Rattle.pairs.specs.Promise.{TwoNumbers}
use Rattle.pairs.specs.PairLaws.{Roomy}
use Rattle.pairs.proofs.PairLaws.{each_pair}

-- rule M2: the limits in units
pub least_factor : size_of doubles double_pairs.least ≡ 2 ^ 674
least_factor = magnitude_is binary64 0x26F0000000000000 (lit< tt) ∙ least_64

pub most_factor : size_of doubles double_pairs.most ≡ 2 ^ 1474
most_factor = magnitude_is binary64 0x58F0000000000000 (lit< tt) ∙ most_64

pub roomy_doubles : Roomy double_pairs
roomy_doubles = record {
  l = 674;
  h = 1474;
  above = le_of_eq (sym least_factor);
  below = le_of_eq most_factor;
  room = factors_64;
  small = rw most_doubles (lit≤ tt);
  twice = lit≤ tt;
}

pub pair_64 : (c : Pair) → pair_fault double_pairs c ≡ 0
    → TwoNumbers doubles c (to_bits binary64 (product_of binary64 c)) (to_bits binary64 (error_of binary64 c))
pair_64 = each_pair double_pairs roomy_doubles
