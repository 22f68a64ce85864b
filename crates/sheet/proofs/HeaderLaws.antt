-- A sheet's header, worked out. Assumes nothing.
use Rattle.std.specs.Prelude.{◌≡◌, refl, [], ◌∷◌}
use Rattle.lists.specs.Digits.{number, digits}
use Rattle.octets.specs.Octets.{joined}
use Rattle.sheet.specs.Sheet.{sheet_of, version_of, count_of}

-- rule H1: the version, then a count with its highest byte first
pub version_1 : version_of (1 ∷ 0 ∷ 0 ∷ 2 ∷ 3 ∷ []) ≡ 1
version_1 = refl

pub count_515 : count_of (1 ∷ 0 ∷ 0 ∷ 2 ∷ 3 ∷ []) ≡ 515
unfolding number
count_515 = refl

-- and each pattern with its highest byte first
pub one_pattern : sheet_of (0x3FF0000000000001 ∷ []) ≡ 1 ∷ 0 ∷ 0 ∷ 0 ∷ 1 ∷ 0x3F ∷ 0xF0 ∷ 0 ∷ 0 ∷ 0 ∷ 0 ∷ 0 ∷ 1 ∷ []
unfolding sheet_of joined digits
one_pattern = refl
