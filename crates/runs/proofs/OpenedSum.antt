-- The opening of an accepted list: a list of zeros ends the walk with the sum 0, and any other opens a round over numbers that sum to S. Assumes nothing.
use Rattle.std.specs.Prelude.{◌≡◌, refl, true, false, List, [], ◌∷◌, map, ℕ, eqb, pos, ◌+ℤ◌, length, Float}
use Rattle.std.proofs.Common.{sym, ap, ◌∙◌, arith, eq-eqb}
use Rattle.std.proofs.lemmas.List.{length-map}
use Rattle.std.specs.Float.{Format}
use Rattle.std.specs.Float.Ieee.{prec, top, of_bits}
use Rattle.units.specs.Whole.{nat, ◌≈◌, int, difference, exact_sum, total}
use Rattle.units.proofs.Integers.{int_only, int_back, int_same, int_difference}
use Rattle.units.proofs.ExactSum.{sum_total}
use Rattle.units.specs.Rounding.{ceil}
use Rattle.units.proofs.RemainderSum.{total_zero}
use Rattle.units.specs.Walk as units
use Rattle.units.proofs.Turns as turns
use Rattle.ieee.specs.Units.{whole}
use Rattle.ieee.proofs.Sum.{value_int}
use Rattle.ieee.proofs.Zeros.{minus_magnitude}
use Rattle.lists.specs.Each.{Each}
use Rattle.kinds.specs.Limits.{Width, exponent_of}
use Rattle.kinds.specs.Outcome.{outcome}
use Rattle.kinds.specs.Step.{Step}
use Rattle.kinds.specs.Step.{More, Done}
use Rattle.kinds.specs.Verdict.{Good}
use Rattle.judge.specs.Judge.{floats}
use Rattle.judge.specs.Table.{ListWhen, MinusZeros}
use Rattle.judge.proofs.JudgeLaws.{list_when, list_passed, list_allowed}
use Rattle.sums.specs.Sums.{sum_of}
use Rattle.extract.specs.Extract.{plus_zero, largest}
use Rattle.rounds.specs.Round.{all_zero, fresh_round, fresh}
use Rattle.rounds.specs.ClosedLaws.{fresh_zero, fresh_round_lem}
use Rattle.rounds.specs.Fitting.{Fitting}
use Rattle.rounds.specs.InUnits.{wholes, all_ready}
use Rattle.rounds.specs.Begun.{Begun}
use Rattle.walk.specs.Walk.{opened}
use Rattle.walk.specs.OpeningLaws.{opened_judged}
use Rattle.walk.proofs.OpeningLaws.{opens}
use Rattle.runs.proofs.CloseUnits.{zero_whole}
use Rattle.runs.specs.Summing.{Summing}
use Rattle.runs.proofs.Summing.{all_zero_lem}
use Rattle.runs.specs.OpenedSum.{zero_of}

-- the exact sum in integers is the sum of the units
sum_wholes : (W : Width) (ps : List ℕ) → total (wholes W.format (floats W ps)) ≈ difference (sum_of W.format ps)
sum_wholes W ps = int_back _ _ (sym (sum_total (wholes f (floats W ps))) ∙ same ps ∙ sym (int_difference (sum_of f ps)))
  where
    f : Format
    f = W.format

    same : (ps : List ℕ) → exact_sum (map int (wholes f (floats W ps))) ≡ sum_of f ps
    same [] = refl
    same (p ∷ ps) = λ i. sym (value_int f (of_bits f p)) i +ℤ same ps i

-- ---- zeros
none : (f : Format) (ps : List ℕ) → Each (λ p. p ≡ top f) ps → largest f (map (of_bits f) ps) ≡ 0
unfolding largest
none f [] h = refl
none f (p ∷ ps) h = rw (h.0, minus_magnitude f, none f ps h.1)

-- nothing but -0 is nothing but zeros
pub minus_all_zero : {W : Width} {ps : List ℕ} → MinusZeros W ps → all_zero W.format (floats W ps) ≡ true
minus_all_zero {W} {ps} M = eq-eqb (largest W.format (floats W ps)) 0 (none W.format ps M.each)

module _ {W : Width} (F : Fitting W) (k : ℕ) (ps : List ℕ) (work : List Float) (G : ListWhen W (eqb (length work) (length ps)) true ps Good) where
  opened_is : opened W k ps work ≡ outcome (fresh W (zero_of W ps) (length ps) (largest W.format (floats W ps)) 0 k (plus_zero W.format)) (floats W ps)
  opened_is = sym (opened_judged W k ps work ((list_when W (eqb (length work) (length ps)) true ps Good).1 G) refl refl)

  -- ---- every number is zero
  pub opened_zero : all_zero W.format (floats W ps) ≡ true → opened W k ps work ≡ outcome (Done (zero_of W ps) 0) (floats W ps)
  opened_zero a = opened_is ∙ ap (λ (q : Step). outcome q (floats W ps)) (fresh_zero W (zero_of W ps) (length ps) _ 0 k (plus_zero W.format) a)

  pub zero_sum : all_zero W.format (floats W ps) ≡ true → sum_of W.format ps ≡ pos 0
  zero_sum a =
      let all = wholes W.format (floats W ps) in
      sym (int_only (total all) (sum_of W.format ps) (sum_wholes W ps))
      ∙ int_same (total all) (nat 0) (total_zero all (all_zero_lem W.format (floats W ps) a))
      ∙ int_difference (pos 0)

  -- ---- the first round opens
  pub opened_round : all_zero W.format (floats W ps) ≡ false
      → opened W k ps work ≡ outcome (More (fresh_round W (length ps) (largest W.format (floats W ps)) 0 k) (plus_zero W.format)) (floats W ps)
  opened_round a = opened_is ∙ ap (λ (q : Step). outcome q (floats W ps)) (fresh_round_lem W (zero_of W ps) (length ps) _ 0 k (plus_zero W.format) a)

  pub opened_summing : all_zero W.format (floats W ps) ≡ false
      → Summing W F (difference (sum_of W.format ps)) (ceil (largest W.format (floats W ps)))
      (fresh_round W (length ps) (largest W.format (floats W ps)) 0 k) (floats W ps)
  opened_summing a =
      let f = W.format in
      let xs = floats W ps in
      let B : Begun W F (ceil (largest f xs)) (fresh_round W (length ps) (largest f xs) 0 k) xs =
      opens (list_allowed G) F k (list_passed G).few a in
      let O : units.Opened (prec f) (exponent_of (length ps)) (length (wholes f xs)) (ceil (largest f xs)) (total (wholes f xs)) (nat 0) (wholes f xs) =
      turns.opens (all_ready B.scale xs B.work) in
      record {
        begun = B;
        opened = rw (zero_whole f) (record {
          rep = O.rep;
          on = O.on;
          ready = O.ready;
          count = length-map xs (whole f) ∙ length-map ps (of_bits f);
          sum = omega (arith, sum_wholes W ps);
        });
      }
