-- Half-way between two multiples the even one is taken. Assumes nothing.
use Rattle.std.specs.Prelude.{◌≡◌, ◌⊎◌}
use Rattle.std.proofs.Common.{inl, inr, div-add-mod', mod-lt, arith}
use Prim.Native.Nat.{ℕ, ◌+◌, ◌-◌, ◌*◌, ◌/◌, ◌%◌, ◌≤◌, ◌<◌, compare, Ordering}
use Rattle.std.specs.Float.Ieee.{nearest}
use Rattle.std.specs.Float.Ieee.Nearest.{closest}
use Rattle.units.proofs.NaturalRounding as N
use Rattle.units.specs.NaturalRounding.{Compared}
use Rattle.units.proofs.Closest.{compared}

-- half-way between two multiples of b, the even one is taken
pub closest_even : (a b : ℕ) → 0 < b → (2 * (closest a b * b) + b ≤ 2 * a) ⊎ (2 * a + b ≤ 2 * (closest a b * b)) → (v : ℕ) × (closest a b ≡ 2 * v)
closest_even a b B h = go (compare (a % b * 2) b) (compared (a % b * 2) b) h
  where
    even : (q : ℕ) → q + q % 2 ≡ 2 * ((q + 1) / 2)
    even q = omega arith

    go : (o : Ordering) → Compared o (a % b * 2) b → (2 * (nearest (a / b) o * b) + b ≤ 2 * a) ⊎ (2 * a + b ≤ 2 * (nearest (a / b) o * b))
        → (v : ℕ) × (nearest (a / b) o ≡ 2 * v)
    go Ordering.lt c (inl t) = absurd (omega (arith, div-add-mod' a b))
    go Ordering.lt c (inr t) = absurd (omega (arith, div-add-mod' a b))
    go Ordering.eq c t = ((a / b + 1) / 2, even (a / b))
    go Ordering.gt c (inl t) = absurd (omega (arith, div-add-mod' a b, mod-lt a B))
    go Ordering.gt c (inr t) = absurd (omega (arith, div-add-mod' a b, mod-lt a B))
