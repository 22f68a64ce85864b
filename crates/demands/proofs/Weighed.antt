-- Rule V7: the new weights have the exact sum of the old ones, which is 1, and so their nearest sum is 1. Assumes nothing.
use Rattle.std.specs.Prelude.{◌≡◌, Bool, true, List, ℕ, zero, suc, ◌*◌, ◌<◌, ℤ}
use Rattle.std.proofs.Common.{sym, ◌∙◌, arith, pow_pos}
use Rattle.std.proofs.Math.Path.{ap}
use Rattle.std.proofs.Math.Bool.{false}
use Rattle.std.proofs.Math.IntN.{pos}
use Rattle.std.specs.Float.{Format}
use Rattle.std.specs.Float.Ieee.{low, to_bits}
use Rattle.ieee.specs.Units.{nearest_float}
use Rattle.ieee.proofs.Overflow.{nearest_round}
use Rattle.kinds.specs.Limits.{doubles}
use Rattle.kinds.specs.Heard.{nearest_heard, nearest}
use Rattle.kinds.specs.Verdict.{Good}
use Rattle.judge.specs.Judge.{zero_sign}
use Rattle.judge.specs.Table.{ListWhen, allowed}
use Rattle.sums.specs.Sums.{sum_of, nearest_of}
use Rattle.sums.proofs.SumLaws.{sums_doubles}
use Rattle.sums.proofs.Promised.{nearest_promised}
use Rattle.weights.specs.Weights.{grains, grain, whole_weight, pattern_for, handed_of}
use Rattle.weights.specs.Table.{Accepted}
use Rattle.weights.specs.Promise.{HandedOn}
use Rattle.weights.proofs.WeightLaws.{one_is, weighed_allowed}
use Rattle.weights.proofs.FieldLaws.{fine_doubles}
use Rattle.weights.proofs.Instances.{one_64, promised_64}

-- a number that isn't zero has its own sign, whatever sign a zero would have
nearest_positive : (f : Format) (z y : Bool) (n : ℕ) → 0 < n → nearest_float f z (pos n) ≡ nearest_float f y (pos n)
nearest_positive f z y zero h = absurd (omega arith)
nearest_positive f z y (suc n) h = nearest_round f z (pos (suc n)) ∙ sym (nearest_round f y (pos (suc n)))

module _ (ps : List ℕ) (at : ℕ) (area : List ℕ) (A : Accepted doubles ps at area) where
  abbrev f : Format
  f = doubles.format

  abbrev new : List ℕ
  new = (handed_of doubles ps at area).area

  P : HandedOn doubles ps at new
  P = promised_64 ps at area A

  pub weights_conserved : sum_of doubles.format (handed_of doubles ps at area).area ≡ sum_of doubles.format ps
  weights_conserved = P.conserved

  listed : ListWhen doubles true true new Good
  listed =
      allowed (record { few = rw P.as_long A.fitting.few; right_area = tt; right_parts = tt })
      (weighed_allowed doubles fine_doubles new P.again.weights)

  -- 1 in units is 2^30 grains
  one_pattern : (z : Bool) (S : ℤ) → S ≡ pos (whole_weight doubles.format)
      → to_bits doubles.format (nearest_float doubles.format z S) ≡ pattern_for doubles grains
  unfolding pattern_for
  one_pattern z S e =
      ap (to_bits f)
      (ap (nearest_float f z) (e ∙ ap pos (sym (one_is doubles fine_doubles)))
      ∙ nearest_positive f z false (grains * grain f) (rw (one_is doubles fine_doubles) (pow_pos (low f))))

  pub weights_nearest : nearest_heard doubles (nearest_of doubles (handed_of doubles ps at area).area) ≡ nearest 0x3FF0000000000000
  weights_nearest =
      (nearest_promised sums_doubles new listed).0
      ∙ ap nearest (one_pattern (zero_sign doubles new) (sum_of doubles.format new) P.whole ∙ one_64)
