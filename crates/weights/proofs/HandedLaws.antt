-- What 14 to 17 are given for, case by case; and that somebody else has weight exactly where the others' total isn't zero. Assumes nothing.
use Rattle.std.specs.Prelude.{◌≡◌, List, [], ◌∷◌, ℕ, zero, suc, ◌≤◌, ◌<◌, length, get_or}
use Rattle.std.proofs.Common.{◌∙◌, inl, inr, arith, get_or-set_same, get_or-set_other}
use borrow.Author.Tests.{lt-ltb, le-ltb, le-leb, lt-leb, eq-eqb, ne_eqb}
use Rattle.std.proofs.lemmas.List.{length-map}
use Rattle.lists.proofs.Front.{map_at}
use Rattle.kinds.specs.Limits.{Width}
use Rattle.kinds.specs.Verdict as verdicts
use Rattle.weights.specs.Weights.{grains, weight_of, total, staying, bad_weight, weights_of, weighed}
use Rattle.weights.specs.Table.{Weighed, Other}
use Rattle.weights.proofs.LoopLaws.{found, bad_at, staying_length}

-- ---- 14 to 17, case by case
module _ (W : Width) (ps : List ℕ) (at : ℕ) where
  abbrev ks : List ℕ
  ks = weights_of W ps

  abbrev others : ℕ
  others = total (staying at (weights_of W ps))

  pub weighed_14 : bad_weight W ps < length ps → weighed W ps at ≡ verdicts.Refused 14 (bad_weight W ps)
  unfolding weighed
  weighed_14 b = rw (lt-ltb (bad_weight W ps) (length ps) b)

  module _ (b : length ps ≤ bad_weight W ps) where
    pub weighed_15 : (total ks ≡ grains → ⊥) → weighed W ps at ≡ verdicts.Refused 15 0
    unfolding weighed
    weighed_15 t = rw (le-ltb (bad_weight W ps) (length ps) b, ne_eqb (total ks) grains t)

    module _ (t : total ks ≡ grains) where
      pub weighed_16 : length ps ≤ at → weighed W ps at ≡ verdicts.Refused 16 0
      unfolding weighed
      weighed_16 h = rw (le-ltb (bad_weight W ps) (length ps) b, eq-eqb (total ks) grains t, le-leb (length ps) at h)

      module _ (h : at < length ps) where
        pub weighed_17 : others ≡ 0 → weighed W ps at ≡ verdicts.Refused 17 0
        unfolding weighed
        weighed_17 o = rw (le-ltb (bad_weight W ps) (length ps) b, eq-eqb (total ks) grains t, lt-leb (length ps) at h, eq-eqb others 0 o)

        pub weighed_good : (others ≡ 0 → ⊥) → weighed W ps at ≡ verdicts.Good
        unfolding weighed
        weighed_good o = rw (le-ltb (bad_weight W ps) (length ps) b, eq-eqb (total ks) grains t, lt-leb (length ps) at h, ne_eqb others 0 o)

-- no place is bad exactly where each holds a weight
pub all_weighed : (W : Width) (ps : List ℕ) → length ps ≤ bad_weight W ps → Weighed W ps (length ps)
all_weighed W ps h = elim (found W ps) [
  | inl G ↦ G
  | inr B ↦ absurd (omega (arith, bad_at W ps B.place B.inside B.before B.none, B.inside))
]

-- ---- somebody else has weight exactly where the others' total isn't zero
pub at_most_total : (ks : List ℕ) (i : ℕ) → i < length ks → get_or ks i 0 ≤ total ks
unfolding total
at_most_total [] i h = absurd (omega arith)
at_most_total (k ∷ ks) zero h = omega arith
at_most_total (k ∷ ks) (suc i) h = omega (arith, at_most_total ks i (omega arith))

positive_place : (ks : List ℕ) → 0 < total ks → (i : ℕ) × (i < length ks) × (0 < get_or ks i 0)
unfolding total
positive_place [] h = absurd (omega arith)
positive_place (zero ∷ ks) h = let r = positive_place ks (omega arith) in (suc r.0, omega (arith, r.1), r.2)
positive_place (suc k ∷ ks) h = (0, omega arith, omega arith)

module _ (W : Width) (ps : List ℕ) (at : ℕ) where
  stayer : (i : ℕ) → i < length ps → (i ≡ at → ⊥) → get_or (staying at (weights_of W ps)) i 0 ≡ weight_of W (get_or ps i 0)
  stayer i h s = get_or-set_other (weights_of W ps) at i 0 0 s ∙ map_at (weight_of W) ps i 0 0 h

  pub other_positive : Other W ps at → 0 < others W ps at
  other_positive O =
      omega (
        arith,
        at_most_total (staying at (weights_of W ps)) O.place (rw (staying_length W ps at) O.inside),
        stayer O.place O.inside O.stays,
        O.positive,
      )

  pub positive_other : at < length ps → 0 < others W ps at → Other W ps at
  positive_other h o = record { place = r.0; inside = inside; stays = stays; positive = rw (stayer r.0 inside stays) at r.2 }
    where
      r : (i : ℕ) × (i < length (staying at (weights_of W ps))) × (0 < get_or (staying at (weights_of W ps)) i 0)
      r = positive_place (staying at (weights_of W ps)) o

      inside : r.0 < length ps
      inside = rw (staying_length W ps at) at r.1

      stays : r.0 ≡ at → ⊥
      stays e =
          let z = get_or-set_same (weights_of W ps) at 0 0 (rw (length-map ps (weight_of W)) h) in
          omega (arith, rw e at r.2, z)
