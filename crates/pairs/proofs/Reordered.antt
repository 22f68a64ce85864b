-- Pairs in another order: the list of their products and errors is a reordering too, and they have no fault exactly when the pairs have none. Assumes nothing.
use Rattle.std.specs.Prelude.{◌≡◌, Bool, true, ◌↔◌, ℕ, eqb}
use Rattle.std.proofs.Math.Path.{refl}
use Rattle.std.proofs.Common.{sym, ap, ◌∙◌, eq-eqb, eqb-true}
use Rattle.std.proofs.Math.Bool.{and-eq-true_iff}
use mathlib.Core.List.{List, [], ◌∷◌, Perm}
use mathlib.Core.List.Permᴰ
use mathlib.Core.List.{Permᴰ}
use Rattle.std.proofs.Math.Logic.{∥∥₁_map}
use Rattle.std.specs.Float.{Format}
use Rattle.std.specs.Float.Ieee.{to_bits}
use Rattle.lists.specs.Every.{every}
use Rattle.lists.proofs.Reordered.{every_reordered}
use Rattle.pairs.specs.Limits.{Pairing}
use Rattle.pairs.specs.Pairs.{Pair, product_of, error_of, products_of, pair_fault}
use Rattle.pairs.specs.ListLaws.{Faultless}

-- two and two in front of a list, exchanged
exchanged : (a b c d : ℕ) (l : List ℕ) → Permᴰ (a ∷ b ∷ c ∷ d ∷ l) (c ∷ d ∷ a ∷ b ∷ l)
exchanged a b c d l =
    Permᴰ.trans (Permᴰ.cons refl (Permᴰ.swap refl refl))
    (Permᴰ.trans (Permᴰ.swap refl refl)
    (Permᴰ.trans (Permᴰ.cons refl (Permᴰ.cons refl (Permᴰ.swap refl refl)))
    (Permᴰ.cons refl (Permᴰ.swap refl refl))))

module _ (f : Format) where
  abbrev p : Pair → ℕ
  p c = to_bits f (product_of f c)

  abbrev e : Pair → ℕ
  e c = to_bits f (error_of f c)

  derived : {cs ds : List Pair} → Permᴰ cs ds → Permᴰ (products_of f cs) (products_of f ds)
  unfolding products_of
  derived Permᴰ.nil = Permᴰ.nil
  derived (Permᴰ.cons g d) = Permᴰ.cons (ap p g) (Permᴰ.cons (ap e g) (derived d))
  derived (Permᴰ.swap {a = a} {b = b} {l = l} g h) =
      Permᴰ.trans (exchanged (p a) (e a) (p b) (e b) (products_of f l))
      (Permᴰ.cons (ap p h) (Permᴰ.cons (ap e h) (Permᴰ.cons (ap p g) (Permᴰ.cons (ap e g) (Permᴰ.refl (products_of f l))))))
  derived (Permᴰ.trans c d) = Permᴰ.trans (derived c) (derived d)

  pub products_reordered : {cs ds : List Pair} → Perm cs ds → Perm (products_of f cs) (products_of f ds)
  products_reordered {cs} {ds} π = ∥∥₁_map {B = Permᴰ (products_of f cs) (products_of f ds)} π derived

-- ---- no fault in either order
module _ (P : Pairing) where
  abbrev clear : Pair → Bool
  clear c = eqb (pair_fault P c) 0

  all : (cs : List Pair) → Faultless P cs ↔ (every clear cs ≡ true)
  unfolding every
  all [] = (λ F. refl, λ e. tt)
  all (c ∷ cs) =
      let both = and-eq-true_iff (clear c) (every clear cs) in (
        λ F. both.1 (eq-eqb (pair_fault P c) 0 F.0, (all cs).0 F.1),
        λ e. (eqb-true (pair_fault P c) 0 (both.0 e).0, (all cs).1 (both.0 e).1),
      )

  pub faultless_reordered : {cs ds : List Pair} → Perm cs ds → Faultless P cs → Faultless P ds
  faultless_reordered {cs} {ds} π F = (all ds).1 (sym (every_reordered clear π) ∙ (all cs).0 F)
