-- Numerals, worked out: `0`, `3`, `10`, `4094`, and every hex digit. Assumes nothing.
use Rattle.std.specs.Prelude.{◌≡◌, refl, [], ◌∷◌}
use Rattle.numerals.specs.Numerals.{decimal_in, decimal_of, capitals_of, hex_of}

pub decimal_0 : decimal_of 0 ≡ 48 ∷ []
unfolding decimal_in
decimal_0 = refl

pub decimal_3 : decimal_of 3 ≡ 51 ∷ []
unfolding decimal_in
decimal_3 = refl

pub decimal_10 : decimal_of 10 ≡ 49 ∷ 48 ∷ []
unfolding decimal_in
decimal_10 = refl

pub decimal_4094 : decimal_of 4094 ≡ 52 ∷ 48 ∷ 57 ∷ 52 ∷ []
unfolding decimal_in
decimal_4094 = refl

pub hex_digits : hex_of 0x0123456789ABCDEF ≡ 48 ∷ 49 ∷ 50 ∷ 51 ∷ 52 ∷ 53 ∷ 54 ∷ 55 ∷ 56 ∷ 57 ∷ 65 ∷ 66 ∷ 67 ∷ 68 ∷ 69 ∷ 70 ∷ []
unfolding capitals_of
hex_digits = refl
