-- Rule D2 for the faithful sum: for every accepted list the undivided call's answer is a number of the format with no other strictly between it and S, and
-- is S where S is one; it has as many rounds as a sound state may have closed, and one more, at most. Assumes nothing.
use Rattle.std.specs.Prelude.{◌≡◌, refl, Bool, true, false, List, ℕ, suc, ◌<◌, eqb, pos, length, Float}
use Rattle.std.proofs.Common.{sym, ap, ◌∙◌, subst, arith}
use Rattle.std.specs.Float.{Format}
use Rattle.ieee.specs.Units.{limit}
use Rattle.ieee.proofs.Overflow.{power_below, nearest_negative}
use Rattle.ieee.proofs.FaithfulFloat.{faithful_float, nearest_faithful}
use Rattle.ieee.proofs.TwoFaithful.{faithful_close}
use Rattle.lists.proofs.Apart.{apart}
use Rattle.kinds.specs.Limits.{Width, blocks_of}
use Rattle.kinds.specs.Step.{Done}
use Rattle.kinds.specs.Verdict.{Good}
use Rattle.judge.specs.Judge.{floats, zero_sign}
use Rattle.judge.specs.Table.{ListWhen, MinusZeros}
use Rattle.judge.proofs.ZeroLaws.{zero_plus}
use Rattle.rounds.specs.Round.{all_zero}
use Rattle.extract.specs.Extract.{plus_zero}
use Rattle.rounds.specs.Fitting.{Fitting}
use Rattle.walk.specs.Walk.{Walked, rounds_from, faithful_of}
use Rattle.walk.proofs.UndividedLaws.{faithful_done}
use Rattle.runs.specs.OpenedSum.{zero_of}
use Rattle.runs.proofs.OpenedSum.{minus_all_zero, opened_zero, zero_sum, opened_round, opened_summing}
use Rattle.runs.proofs.SumRun.{run_faithful}
use Rattle.runs.specs.Faithful.{FaithfulSum}

module _ {W : Width} (F : Fitting W) (ps : List ℕ) (work : List Float) (G : ListWhen W (eqb (length work) (length ps)) true ps Good) where
  zeros : all_zero W.format (floats W ps) ≡ true → FaithfulSum W ps (faithful_of W ps work)
  zeros a = record {
    sum = zero_of W ps;
    rounds = 0;
    answer = ap (λ (w : Walked). w.answer) (sym (faithful_done F 0 ps work (Done (zero_of W ps) 0) (floats W ps) (sym (opened_zero F 0 ps work G a)) _ 0 refl));
    faithful = rw (zero_sum F 0 ps work G a) (nearest_faithful W.format (zero_sign W ps) (pos 0) (positive W.format));
    close = rw (zero_sum F 0 ps work G a) (record { close = λ h. absurd (omega arith) });
    most = omega arith;
    zero = λ m. nearest_negative W.format (zero_sign W ps) (pos 0) (positive W.format);
  }
    where
      positive : (f : Format) → 0 < limit f
      positive f = omega (arith, power_below f {k = 0} (omega arith))

  numbers : all_zero W.format (floats W ps) ≡ false → FaithfulSum W ps (faithful_of W ps work)
  numbers a =
      let R = run_faithful W.rounds (plus_zero W.format) (record { e = _; count = refl; summing = opened_summing F 0 ps work G a }) (omega arith) in
      subst (λ (w : Walked). FaithfulSum W ps (rounds_from W (blocks_of W (length ps)) (suc W.rounds) w)) (sym (opened_round F 0 ps work G a)) (record {
        sum = R.sum;
        rounds = R.rounds;
        answer = R.answer;
        faithful = faithful_float R.number R.faithful;
        close = faithful_close R.faithful;
        most = R.most;
        zero = λ m. R.plus m ∙ sym ((zero_plus W ps).1 other);
      })
    where
      other : MinusZeros W ps → ⊥
      other M = let z : true ≡ false = sym (minus_all_zero M) ∙ a in apart (cc)

  pub faithful_promised : FaithfulSum W ps (faithful_of W ps work)
  faithful_promised = go (all_zero W.format (floats W ps)) refl
    where
      go : (b : Bool) → all_zero W.format (floats W ps) ≡ b → FaithfulSum W ps (faithful_of W ps work)
      go true a = zeros a
      go false a = numbers a
