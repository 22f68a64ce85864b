-- Bytes and numbers, worked out: the definitions held to numbers that one can check by hand. Assumes nothing.
use Rattle.std.specs.Prelude.{◌≡◌, refl, [], ◌∷◌}
use Rattle.lists.specs.Digits.{number, digits}
use Rattle.octets.specs.Octets.{little_endian, big_endian, little, big, joined, eights, packed, unpacked}

pub little_256 : little (0 ∷ 1 ∷ []) ≡ 256
unfolding number
little_256 = refl

pub big_1 : big (0 ∷ 1 ∷ []) ≡ 1
unfolding number
big_1 = refl

pub little_bytes : little_endian 3 0x010203 ≡ 3 ∷ 2 ∷ 1 ∷ []
unfolding digits
little_bytes = refl

pub big_bytes : big_endian 3 0x010203 ≡ 1 ∷ 2 ∷ 3 ∷ []
unfolding digits
big_bytes = refl

-- rule C2: a word takes 8 bytes, the lowest first
pub two_packed : packed (1 ∷ 0x0203 ∷ []) ≡ 1 ∷ 0 ∷ 0 ∷ 0 ∷ 0 ∷ 0 ∷ 0 ∷ 0 ∷ 3 ∷ 2 ∷ 0 ∷ 0 ∷ 0 ∷ 0 ∷ 0 ∷ 0 ∷ []
unfolding joined digits
two_packed = refl

pub two_unpacked : unpacked 2 (1 ∷ 0 ∷ 0 ∷ 0 ∷ 0 ∷ 0 ∷ 0 ∷ 0 ∷ 3 ∷ 2 ∷ 0 ∷ 0 ∷ 0 ∷ 0 ∷ 0 ∷ 0 ∷ []) ≡ 1 ∷ 0x0203 ∷ []
unfolding eights number
two_unpacked = refl
