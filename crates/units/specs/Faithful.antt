-- Faithful rounding on whole numbers at p bits, document 000's Definition 2.4. Definitions only.
use Rattle.std.specs.Prelude.{ℕ}
use Rattle.units.specs.Whole.{Whole, ◌≺◌}
use Rattle.units.specs.Rounding.{Representable}

-- f has p bits, and no other number of p bits lies between f and s, s included: pred f < s < succ f
pub record Faithful (p : ℕ) (f s : Whole) : Type 0 where
  pub rep : Representable p f
  pub below : (h : Whole) → Representable p h → h ≺ f → h ≺ s
  pub above : (h : Whole) → Representable p h → f ≺ h → s ≺ h

-- f is below g, and no number of p bits lies between
pub record Neighbours (p : ℕ) (f g : Whole) : Type 0 where
  pub less : f ≺ g
  pub none : (h : Whole) → Representable p h → f ≺ h → h ≺ g → ⊥
