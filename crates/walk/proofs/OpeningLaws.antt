-- The opening of an allowed list is a round of a run: its numbers are small, and sigma is taken from them. Assumes nothing.
use Rattle.std.specs.Prelude.{◌≡◌, false, List, [], ◌∷◌, ℕ, ◌-◌, ◌*◌, ◌%◌, ◌^◌, ◌≤◌, ◌<◌, max, leb, length}
use Rattle.std.proofs.Common.{sym, inl, inr, zero-mul, arith, ltb→lt}
use Rattle.std.proofs.lemmas.List.{length-map}
use Rattle.std.specs.Float.{Format, nan}
use Rattle.std.specs.Float.Ieee.{prec, hid, ones, top, of_bits}
use Rattle.units.proofs.Powers.{le_or_lt}
use Rattle.units.specs.Rounding.{ceil}
use Rattle.units.proofs.Ceiling.{ceil_least}
use Rattle.ieee.specs.Units.{Number, magnitude, pattern_units}
use Rattle.ieee.proofs.Finite.{is_units}
use Rattle.ieee.proofs.Pattern.{pattern_is, pattern_finite}
use Rattle.lists.specs.Each.{Each, each_from, each_weaker}
use Rattle.kinds.specs.Limits.{Width, exponent_of}
use Rattle.judge.specs.Judge.{floats}
use Rattle.judge.specs.Table.{Allowed, size_of}
use Rattle.judge.specs.FaultLaws.{allowed_number}
use Rattle.judge.proofs.FirstFaultLaws.{allowed_float, allowed_size}
use Rattle.judge.proofs.AllowedLaws.{allowed_first, allowed_rest}
use Rattle.judge.specs.GreatestLaws.{greatest}
use Rattle.extract.specs.Extract.{largest}
use Rattle.extract.specs.ExtractLaws.{largest_le}
use Rattle.extract.specs.LargestLaws.{Stands, zero_stands, larger, kept}
use Rattle.rounds.specs.Round.{all_zero, fresh_round}
use Rattle.rounds.specs.Fitting.{Fitting}
use Rattle.rounds.specs.InUnits.{Small}
use Rattle.rounds.specs.Begun.{Begun}
use Rattle.rounds.proofs.FreshRound.{begins, largest_small, some_left}

-- a finite pattern without its sign stands for its magnitude
pub pattern_stands : (f : Format) (p : ℕ) → Number f (of_bits f p) → Stands f (p % top f) (magnitude f (of_bits f p))
pattern_stands f p X =
    let h : p % top f < ones f * hid f = ltb→lt (p % top f) (ones f * hid f) (rw (pattern_finite f p) at X.fini) in
    record { below = h; units = sym (is_units f (of_bits f p) (leb (top f) p) (pattern_units f (p % top f)) (pattern_is f p h)).1 }

-- the greatest pattern of an allowed list stands for its largest magnitude
pub greatest_stands : (W : Width) (ps : List ℕ) → Allowed W ps → Stands W.format (greatest W ps) (largest W.format (floats W ps))
unfolding greatest largest
greatest_stands W [] A = zero_stands W.format
greatest_stands W (p ∷ ps) A =
    let f = W.format in
    let R = pattern_stands f p (allowed_number W p (allowed_first A)) in
    let Q = greatest_stands W ps (allowed_rest A) in
    elim (le_or_lt (greatest W ps) (p % top f)) [
      | inl l ↦ let e : max (p % top f) (greatest W ps) ≡ p % top f = omega arith in rw e (kept f R Q l)
      | inr l ↦ let e : max (p % top f) (greatest W ps) ≡ greatest W ps = omega arith in rw e (larger f R Q l)
    ]

module _ {W : Width} {ps : List ℕ} (A : Allowed W ps) where
  floats_length : length (floats W ps) ≡ length ps
  floats_length = length-map ps (of_bits W.format)

  pub allowed_small : Each (Small W.format (size_of W W.magnitude)) (floats W ps)
  allowed_small =
      each_from (Small W.format (size_of W W.magnitude)) (floats W ps) nan
      (λ i h. let l : i < length ps = omega (arith, floats_length) in record { number = allowed_float A i l; within = allowed_size A i l })

  pub opens : (F : Fitting W) (k : ℕ) → length ps ≤ W.length → all_zero W.format (floats W ps) ≡ false
      → Begun W F (ceil (largest W.format (floats W ps))) (fresh_round W (length ps) (largest W.format (floats W ps)) 0 k) (floats W ps)
  opens F k few z =
      begins (largest W.format (floats W ps)) (omega (arith, some_left W.format (floats W ps) z, floats_length)) few floats_length
      (largest_small W.format _ (floats W ps) allowed_small)
      (omega (arith, least, zero-mul (prec W.format - exponent_of (length ps))))
    where
      least : ceil (largest W.format (floats W ps)) ≤ F.top
      least = ceil_least (largest_le W.format (2 ^ F.top) (floats W ps)
          (each_weaker _ _ (λ y Y. rw F.top_is at Y.within) (floats W ps) allowed_small))
