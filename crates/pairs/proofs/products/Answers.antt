-- `pairs::products` meets its contract: the verdict is the definition's, and allowed pairs are written. Assumes nothing.
use Rattle.std.specs.Prelude.{◌≡◌, Bool, List, ℕ, ◌*◌, eqb, length}
use Rattle.std.proofs.Common.{sym, ap, ◌∙◌, eqb-true}
use Rattle.std.proofs.lemmas.Result.{err_from_is_err_and}
use Rattle.std.specs.Float.Ieee.Bits.{is_true}
use Rattle.kinds.specs.Verdict.{Verdict, Good}
use Rattle.kinds.specs.Outcome.{outcome}
use Rattle.pairs.specs.Limits.{double_pairs}
use Rattle.pairs.specs.Paired.{Multiplied}
use Rattle.pairs.specs.Pairs.{two_each, pairs_judged}
use Rattle.pairs.proofs.JudgedLaws.{pairs_when, when_matching, when_allowed, when_area}
use Rattle.pairs.proofs.TableLaws.{good_multiplies, refused_multiplies}
use Rattle.pairs.proofs.products.Goals as goal

-- the verdict by the definition's own test of the area
judged : {v : Verdict} {fits : Bool} {n : ℕ} (ps qs area : List ℕ) → v ≡ pairs_judged double_pairs fits ps qs → fits ≡ eqb (length area) (2 * n) → n ≡ length ps
    → pairs_judged double_pairs (two_each ps area) ps qs ≡ v
judged ps qs area e f g = sym (e ∙ ap (λ (t : Bool). pairs_judged double_pairs t ps qs) (f ∙ ap (λ (n : ℕ). eqb (length area) (2 * n)) g))

pub write-requires : goal.write-requires
write-requires c =
    let a = c.args in
    let e = judged a.a.now a.b.now a.out.now c.in_ok-judge.ensures c.fits-fits.ensures c.of.ensures in
    let W = (pairs_when double_pairs _ a.a.now a.b.now Good).0 e in
    (when_matching W, when_allowed W, eqb-true (length a.out.now) (2 * length a.a.now) (is_true (two_each a.a.now a.out.now) (when_area W)))

pub returns-in_err-judge : goal.returns-in_err-judge
returns-in_err-judge c =
    let q = err_from_is_err_and c.from_residual.result c.from_residual.ensures.1 in
    let a = c.args in
    let e = judged a.a.now a.b.now a.out.now c.in_err-judge.ensures c.fits-fits.ensures c.of.ensures in
    rw (q.1, q.2) (sym (refused_multiplies double_pairs a.a.now a.b.now a.out.now e))

pub returns : goal.returns
returns c =
    let a = c.args in
    let e = judged a.a.now a.b.now a.out.now c.in_ok-judge.ensures c.fits-fits.ensures c.of.ensures in
    ap (outcome Multiplied) c.write.ensures ∙ sym (good_multiplies double_pairs a.a.now a.b.now a.out.now e)
