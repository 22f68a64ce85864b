-- What the theorems of proofs/ListLaws.antt speak of. Definitions only.
use Rattle.std.specs.Prelude.{◌≡◌}
use mathlib.Core.List.{List}
use Rattle.std.specs.Float.Ieee.{to_bits}
use Rattle.lists.specs.Each.{Each}
use Rattle.kinds.specs.Nearest as nearests
use Rattle.pairs.specs.Limits.{Pairing}
use Rattle.pairs.specs.Pairs.{Pair, product_of, error_of, pair_fault}
use Rattle.pairs.specs.Table as pair-rows
use Rattle.pairs.specs.Promise.{TwoNumbers}

-- what is promised of each pair that has no fault
abbrev pub EachPair : Pairing → Type 0
EachPair P =
    let f = P.width.format in
    (c : Pair) → pair_fault P c ≡ 0 → TwoNumbers P.width c (to_bits f (product_of f c)) (to_bits f (error_of f c))

-- pairs without a fault, one by one
abbrev pub Faultless : Pairing → List Pair → Type 0
Faultless P cs = Each (λ (c : Pair). pair_fault P c ≡ 0) cs
