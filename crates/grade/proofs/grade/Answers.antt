-- `grade::grade` meets its contract: the words hold the sum of an allowed list, and a refusal is the judge's or the claim's. Assumes nothing.
use borrow.Author.Rules.{rules}
use mathlib.Core.Path.{◌≡◌, refl, sym, ap, ◌∙◌}
use mathlib.Core.Bool.{true, false}
use Rattle.std.proofs.lemmas.Result.{err_from_is_err_and}
use Prim.Native.Nat.{ℕ, ◌%◌, ◌^◌, ◌≤◌, ◌<◌}
use borrow.Author.Tests.{lt-ltb, le-ltb}
use lib.IntN.{ℤ}
use lib.Ieee.{binary64, of_bits}
use lib.Ieee.Scale.{finite}
use Rattle.ieee.proofs.Pattern.{pattern_finite}
use Rattle.kinds.specs.Limits.{doubles}
use Rattle.kinds.specs.Verdict.{Good}
use Rattle.judge.proofs.JudgeLaws.{list_when, list_passed, list_allowed}
use Rattle.sums.specs.Sums.{sum_of}
use Rattle.sums.proofs.SumLaws.{sums_doubles, sum_below_limit, sum_whole}
use Rattle.grade.specs.Grade.{grade_at}
use Rattle.grade.proofs.AnswerLaws.{list_refused, claim_refused, claim_graded}
use Rattle.grade.proofs.grade.Goals as goal

-- which claims are finite, by the pattern without its sign
not_finite : (p : ℕ) → 0x7FF0000000000000 ≤ p % 2 ^ 63 → finite (of_bits binary64 p) ≡ false
not_finite p h = pattern_finite binary64 p ∙ le-ltb (p % 2 ^ 63) 0x7FF0000000000000 h

is_finite : (p : ℕ) → p % 2 ^ 63 < 0x7FF0000000000000 → finite (of_bits binary64 p) ≡ true
is_finite p h = pattern_finite binary64 p ∙ lt-ltb (p % 2 ^ 63) 0x7FF0000000000000 h

pub returns-in_err-judge : goal.returns-in_err-judge
returns-in_err-judge c =
    let q = err_from_is_err_and c.from_residual.result c.from_residual.ensures.1 in
    rw (q.1, q.2) (sym (list_refused doubles c.args.list.now c.args.claim _ _ (sym c.in_err-judge.ensures)))

pub returns-then-not-finite : goal.returns-then-not-finite
returns-then-not-finite c =
    sym (claim_refused doubles c.args.list.now c.args.claim (sym c.in_ok-judge.ensures) (not_finite c.args.claim c.if-not-finite.true))

pub total-requires : goal.total-requires
total-requires c =
    let v = (list_when doubles true true c.args.list.now Good).0 (sym c.in_ok-judge.ensures) in
    (refl, list_allowed v, (list_passed v).few)

pub grade_words-requires : goal.grade_words-requires
grade_words-requires c =
    let list = c.args.list.now in
    let v = (list_when doubles true true list Good).0 (sym c.in_ok-judge.ensures) in
    let l = sum_below_limit sums_doubles (list_passed v).few (list_allowed v) in
    let w = sum_whole doubles.format (sum_of doubles.format list) l c.total.ensures in
    (search rules, rw w l, rw (is_finite c.args.claim c.if-not-finite.false) tt)

pub returns : goal.returns
returns c =
    let list = c.args.list.now in
    let e = sym c.in_ok-judge.ensures in
    let v = (list_when doubles true true list Good).0 e in
    let l = sum_below_limit sums_doubles (list_passed v).few (list_allowed v) in
    let w = sum_whole doubles.format (sum_of doubles.format list) l c.total.ensures in
    c.grade_words.ensures
    ∙ ap (λ (S : ℤ). grade_at binary64 S (of_bits binary64 c.args.claim)) w
    ∙ sym (claim_graded doubles list c.args.claim e (is_finite c.args.claim c.if-not-finite.false))
