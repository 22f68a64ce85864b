-- A number in bytes, least significant first and most significant first, and numbers of 8 bytes one after the other. Definitions only.
use Rattle.std.specs.Prelude.{List, [], ◌∷◌, ◌++◌, reverse, ℕ, zero, suc, take, drop}
use Rattle.lists.specs.Digits.{number, digits}

-- v in so many bytes; what does not fit is cut off
abbrev pub little_endian : ℕ → ℕ → List ℕ
little_endian count v = digits 8 count v

abbrev pub big_endian : ℕ → ℕ → List ℕ
big_endian count v = reverse (digits 8 count v)

-- the number that bytes stand for
abbrev pub little : List ℕ → ℕ
little bs = number 8 bs

abbrev pub big : List ℕ → ℕ
big bs = number 8 (reverse bs)

-- so many bytes from a place on
abbrev pub bytes_at : List ℕ → ℕ → ℕ → List ℕ
bytes_at bs at count = take count (drop at bs)

-- ---- numbers of 8 bytes one after the other, in either order of the bytes: to bytes, and n of them from bytes
unfoldable pub joined : (ℕ → List ℕ) → List ℕ → List ℕ
joined bytes_of [] = []
joined bytes_of (v ∷ vs) = bytes_of v ++ joined bytes_of vs

unfoldable pub eights : (List ℕ → ℕ) → ℕ → List ℕ → List ℕ
eights number_of zero bytes = []
eights number_of (suc n) bytes = number_of (bytes_at bytes 0 8) ∷ eights number_of n (drop 8 bytes)

-- rule C2
abbrev pub packed : List ℕ → List ℕ
packed vs = joined (little_endian 8) vs

abbrev pub unpacked : ℕ → List ℕ → List ℕ
unpacked n bytes = eights little n bytes
