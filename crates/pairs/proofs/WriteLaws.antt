-- The list of products and errors: how long it is, of pairs joined, and what a loop that writes two numbers for each pair leaves. Assumes nothing.
use Rattle.std.specs.Prelude.{◌≡◌, Bool, true, false, ◌&&◌, ℕ, ◌+◌, ◌*◌, ◌/◌, ◌%◌, ◌≤◌, ◌<◌, eqb, length, take}
use Rattle.std.proofs.Math.Path.{refl, sym, ap}
use Rattle.std.proofs.Common.{◌∙◌, div-add-mod', eq-eqb, ne_eqb, eqb-true, drop_of_length-le, take_all, length-take-le}
use mathlib.Core.List.{List, [], ◌∷◌, ◌++◌, append_assoc, append-nil}
use native.Mathlib.Omega.{arith}
use Rattle.std.proofs.lemmas.Bool.{eqb-false}
use Rattle.std.proofs.Math.ListN.{get_or, drop, set, length-append}
use Rattle.std.specs.Float.{Format}
use Rattle.std.specs.Float.Ieee.{to_bits}
use Rattle.lists.proofs.Front.{store_front, take_next}
use Rattle.pairs.specs.Pairs.{Pair, product_of, error_of, products_of}

-- two places for each of m pairs, as the code tests it
pub two_each_lem : (n m : ℕ) → (eqb (n / 2) m && eqb (n % 2) 0) ≡ eqb n (2 * m)
two_each_lem n m = go (eqb (n / 2) m) (eqb (n % 2) 0) refl refl
  where
    parts : n ≡ n / 2 * 2 + n % 2
    parts = sym (div-add-mod' n 2)

    go : (a b : Bool) → eqb (n / 2) m ≡ a → eqb (n % 2) 0 ≡ b → (a && b) ≡ eqb n (2 * m)
    go true true e g = sym (eq-eqb n (2 * m) (omega (arith, parts, eqb-true (n / 2) m e, eqb-true (n % 2) 0 g)))
    go true false e g = sym (ne_eqb n (2 * m) (λ h. eqb-false (n % 2) 0 g (omega (arith, h, parts))))
    go false b e g = sym (ne_eqb n (2 * m) (λ h. eqb-false (n / 2) m e (omega (arith, h, parts))))

module _ (f : Format) where
  pub products_length : (cs : List Pair) → length (products_of f cs) ≡ 2 * length cs
  unfolding products_of
  products_length [] = refl
  products_length (c ∷ cs) = omega (arith, products_length cs)

  pub products_join : (cs ds : List Pair) → products_of f (cs ++ ds) ≡ products_of f cs ++ products_of f ds
  unfolding products_of
  products_join [] ds = refl
  products_join (c ∷ cs) ds = ap (λ (l : List ℕ). to_bits f (product_of f c) ∷ to_bits f (error_of f c) ∷ l) (products_join cs ds)

  -- ---- the first i pairs are written to the first 2 i places of o
  module _ (cs : List Pair) (o : List ℕ) (d : Pair) (i : ℕ) where
    abbrev written : List ℕ
    written = products_of f (take i cs)

    written_length : i ≤ length cs → length written ≡ 2 * i
    written_length h = products_length (take i cs) ∙ ap (λ (n : ℕ). 2 * n) (length-take-le i cs h)

    pub written_next : i < length cs → 2 * i + 1 < length o
        → let c = get_or cs i d in
        set (set (products_of f (take i cs) ++ drop (2 * i) o) (2 * i) (to_bits f (product_of f c))) (2 * i + 1) (to_bits f (error_of f c))
        ≡ products_of f (take (i + 1) cs) ++ drop (2 * (i + 1)) o
    unfolding products_of
    written_next h k =
        let c = get_or cs i d in
        let x = to_bits f (product_of f c) in
        let y = to_bits f (error_of f c) in
        let first : set (written ++ drop (2 * i) o) (2 * i) x ≡ (written ++ (x ∷ [])) ++ drop (2 * i + 1) o =
        store_front 0 written o (2 * i) (written_length (omega arith)) (omega arith) x in
        let second : set ((written ++ (x ∷ [])) ++ drop (2 * i + 1) o) (2 * i + 1) y ≡ ((written ++ (x ∷ [])) ++ (y ∷ [])) ++ drop (2 * i + 1 + 1) o =
        store_front 0 (written ++ (x ∷ [])) o (2 * i + 1) (omega (arith, length-append written (x ∷ []), written_length (omega arith))) k y in
        let two : (written ++ (x ∷ [])) ++ (y ∷ []) ≡ products_of f (take (i + 1) cs) =
        append_assoc written (x ∷ []) (y ∷ []) ∙ sym (ap (products_of f) (take_next d cs i h) ∙ products_join (take i cs) (c ∷ [])) in
        let places : 2 * i + 1 + 1 ≡ 2 * (i + 1) = omega arith in
        ap (λ (l : List ℕ). set l (2 * i + 1) y) first ∙ second ∙ (λ j. two j ++ drop (places j) o)

    pub written_all : length cs ≤ i → length o ≤ 2 * i → products_of f (take i cs) ++ drop (2 * i) o ≡ products_of f cs
    written_all h k = rw (take_all i cs, drop_of_length-le o {i = 2 * i}) (append-nil (products_of f cs))

  pub written_none : (cs : List Pair) (o : List ℕ) → o ≡ products_of f (take 0 cs) ++ drop (2 * 0) o
  unfolding products_of
  written_none cs o = refl
