-- Rule S3 beside IEEE 754: a list of any patterns, added up in its format from the first number on, from left to right, gives -0 exactly where the list is
-- nothing but -0. Assumes nothing.
use Rattle.std.specs.Prelude.{◌≡◌, refl, ◌↔◌, true, false, ℕ, T, Float}
use Rattle.std.proofs.Common.{sym, ap, ◌∙◌, arith}
use mathlib.Core.List.{List, [], ◌∷◌, foldl}
use Rattle.std.specs.Float.{Format, binary32, binary64}
use Rattle.std.specs.Float.Ieee.{fits, of_bits, add}
use Rattle.std.specs.Float.Ieee.Fits.{add-fits}
use Rattle.std.specs.Float.Ieee.Bits.{of_bits-fits}
use Rattle.ieee.specs.Units.{negative}
use Rattle.ieee.specs.Zeros.{minus_zero}
use Rattle.ieee.proofs.Zeros.{minus_sign, minus_pattern_lem, add_minus}
use Rattle.lists.proofs.Apart.{apart}
use Rattle.lists.specs.Each.{Each}
use Rattle.kinds.specs.Limits.{Width}
use Rattle.judge.specs.Judge.{floats, minus_pattern, zero_sign}
use Rattle.judge.specs.Table.{MinusZeros}
use Rattle.judge.proofs.ZeroLaws.{zero_sign_lem}
use Rattle.judge.specs.IeeeZero.{ieee_sum, Patterns}

plus : (f : Format) → negative (of_bits f 0) ≡ false
unfolding of_bits negative
plus binary32 = refl
plus binary64 = refl

-- ---- from x on
module _ (W : Width) where
  from : (x : Float) → T (fits W.format x) → (ps : List ℕ) → Patterns W ps
      → (foldl (add W.format) x (floats W ps) ≡ minus_zero W.format) ↔ ((x ≡ minus_zero W.format) × Each (λ p. p ≡ minus_pattern W) ps)
  from x u [] P = (λ e. (e, tt), λ h. h.0)
  from x u (p ∷ ps) P =
      let f = W.format in
      let y = of_bits f p in
      let rest = from (add f x y) (add-fits f x y) ps P.1 in
      let two = add_minus f x y u (of_bits-fits f p) in
      let one = minus_pattern_lem f p P.0 in (
        λ e.
            let h = rest.0 e in
            let g = two.0 h.0 in
            (g.0, (one.0 g.1, h.1)),
        λ h. rest.1 (two.1 (h.0, one.1 h.1.0), h.1.1),
      )

  not_minus : of_bits W.format 0 ≡ minus_zero W.format → ⊥
  not_minus e = let z : false ≡ true = sym (plus W.format) ∙ ap negative e ∙ minus_sign W.format in apart (cc)

  pub ieee_zero : (ps : List ℕ) → Patterns W ps → (ieee_sum W.format (floats W ps) ≡ minus_zero W.format) ↔ MinusZeros W ps
  unfolding ieee_sum
  ieee_zero [] P = (λ e. absurd (not_minus e), λ h. absurd (omega (arith, h.some)))
  ieee_zero (p ∷ ps) P =
      let f = W.format in
      let all = from (of_bits f p) (of_bits-fits f p) ps P.1 in
      let one = minus_pattern_lem f p P.0 in (
        λ e.
            let h = all.0 e in
            record { some = omega arith; each = (one.0 h.0, h.1) },
        λ h. all.1 (one.1 h.each.0, h.each.1),
      )

  -- so the sign is that of IEEE 754's sum wherever either is -0
  pub ieee_sign : (ps : List ℕ) → Patterns W ps → (ieee_sum W.format (floats W ps) ≡ minus_zero W.format) ↔ (zero_sign W ps ≡ true)
  ieee_sign ps P = (λ e. (zero_sign_lem W ps).1 ((ieee_zero ps P).0 e), λ e. (ieee_zero ps P).1 ((zero_sign_lem W ps).0 e))
