-- Rule Q6 for the nearest sum: it is graded exact or nearest. Of any accepted list a faithful double isn't graded wrong; and rule Q1: both zeros have one
-- grade, for every list. Assumes nothing.
use Rattle.std.specs.Prelude.{◌≡◌, refl, true, List, ℕ, ◌*◌, ◌%◌, ◌<◌, leb, Float}
use Rattle.std.proofs.Common.{sym, ap, ◌∙◌, inl, inr, lit<}
use Rattle.std.specs.Float.Ieee.{hid, ones, top, of_bits, to_bits}
use Rattle.std.specs.Float.Ieee.Bits.{is_true, of_bits-to_bits}
use Rattle.std.specs.Float.Ieee.Scale.{finite}
use Rattle.ieee.specs.Units.{Number, magnitude, nearest_float, pattern_units}
use Rattle.ieee.proofs.Finite.{is_units}
use Rattle.ieee.proofs.Pattern.{no_units, pattern_is}
use Rattle.ieee.proofs.PatternBounds.{pattern_number}
use Rattle.ieee.specs.Accuracy.{FaithfulTo, NearestTo}
use Rattle.lists.proofs.Apart.{apart}
use Rattle.kinds.specs.Limits.{doubles}
use Rattle.kinds.specs.Heard.{nearest_heard, nearest}
use Rattle.kinds.specs.Verdict.{Verdict}
use Rattle.kinds.specs.Verdict as verdicts
use Rattle.judge.specs.Judge.{judged, zero_sign}
use Rattle.judge.specs.Table.{ListWhen}
use Rattle.judge.proofs.JudgeLaws.{list_when}
use Rattle.sums.specs.Sums.{sum_of, nearest_of}
use Rattle.sums.proofs.AnswerLaws.{nearest_refused}
use Rattle.sums.proofs.SumLaws.{sums_doubles}
use Rattle.sums.proofs.Promised.{nearest_promised}
use Rattle.grade.specs.Grade.{grade_at, grade_of}
use Rattle.grade.specs.Table as table
use Rattle.grade.specs.Table.{Earns, AtLeastNearest, NotWrong}
use Rattle.grade.proofs.Distances.{nearest_faithful}
use Rattle.grade.proofs.GradeLaws.{some_grade, grade_earned, zeros_alike}
use Rattle.grade.proofs.AnswerLaws.{list_refused, claim_graded}
use Rattle.grade.proofs.TableLaws.{roomy_doubles}
use Rattle.grade.specs.Graded.{Graded}
use Rattle.grade.specs.Graded.{Wrong}

module _ (ps : List ℕ) (G : ListWhen doubles true true ps verdicts.Good) where
  -- the grade of a finite claim
  graded : {x : Float} → Number doubles.format x → grade_of doubles ps (to_bits doubles.format x) ≡ grade_at doubles.format (sum_of doubles.format ps) x
  graded {x} X =
      claim_graded doubles ps (to_bits doubles.format x) ((list_when doubles true true ps verdicts.Good).1 G) (ap finite back ∙ is_true (finite x) X.fini)
      ∙ ap (grade_at doubles.format (sum_of doubles.format ps)) back
    where
      back : of_bits doubles.format (to_bits doubles.format x) ≡ x
      back = of_bits-to_bits doubles.format x X.fit

  nearest_claim : {x : Float} → NearestTo doubles.format (sum_of doubles.format ps) x
      → AtLeastNearest (grade_of doubles ps (to_bits doubles.format x))
  nearest_claim {x} N = by (some_grade (roomy_doubles.inside ps G) N.number) (graded N.number)
    where
      by : {g : Graded} → Earns doubles.format (sum_of doubles.format ps) x g → grade_of doubles ps (to_bits doubles.format x) ≡ g
          → AtLeastNearest (grade_of doubles ps (to_bits doubles.format x))
      by (table.exact e) i = inl i
      by (table.nearest M d) i = inr i
      by (table.faithful F n) i = absurd (n N)
      by (table.wrong w) i = absurd (w (nearest_faithful doubles.format N))

  pub faithful_claim : {x : Float} → FaithfulTo doubles.format (sum_of doubles.format ps) x → NotWrong (grade_of doubles ps (to_bits doubles.format x))
  faithful_claim {x} F e = by ((grade_earned (roomy_doubles.inside ps G) F.number Wrong).0 (sym (graded F.number) ∙ e))
    where
      by : Earns doubles.format (sum_of doubles.format ps) x Wrong → ⊥
      by (table.wrong w) = w F

-- ---- the nearest sum that is heard of a list, as a claim of that list's sum
pub nearest_graded : (ps : List ℕ) (c : ℕ) → nearest_heard doubles (nearest_of doubles ps) ≡ nearest c → AtLeastNearest (grade_of doubles ps c)
nearest_graded ps c h = by (judged doubles true true ps) refl
  where
    by : (v : Verdict) → judged doubles true true ps ≡ v → AtLeastNearest (grade_of doubles ps c)
    by verdicts.Good e =
        let G = (list_when doubles true true ps verdicts.Good).0 e in
        let P = nearest_promised sums_doubles ps G in
        let x = nearest_float doubles.format (zero_sign doubles ps) (sum_of doubles.format ps) in
        let s : nearest (to_bits doubles.format x) ≡ nearest c = sym P.0 ∙ h in
        let b : to_bits doubles.format x ≡ c = cc in
        rw b at (nearest_claim ps G P.1)
    by (verdicts.Refused k i) e =
        let s = sym (ap (nearest_heard doubles) (nearest_refused doubles ps k i e)) ∙ h in
        apart (cc)

-- ---- rule Q1: -0 and +0 have one grade, for every list
pub zeros_graded : (ps : List ℕ) → grade_of doubles ps (top doubles.format) ≡ grade_of doubles ps 0
zeros_graded ps = by (judged doubles true true ps) refl
  where
    none : (b : ℕ) → b % top doubles.format ≡ 0
        → Number doubles.format (of_bits doubles.format b) × (magnitude doubles.format (of_bits doubles.format b) ≡ 0)
    none b z =
        let f = doubles.format in
        let h : b % top f < ones f * hid f = rw z (lit< tt) in (
          pattern_number f b h,
          (is_units f (of_bits f b) (leb (top f) b) (pattern_units f (b % top f)) (pattern_is f b h)).1 ∙ ap (pattern_units f) z ∙ no_units f,
        )

    by : (v : Verdict) → judged doubles true true ps ≡ v → grade_of doubles ps (top doubles.format) ≡ grade_of doubles ps 0
    by verdicts.Good e =
        let m = none (top doubles.format) refl in
        let p = none 0 refl in
        claim_graded doubles ps (top doubles.format) e (is_true (finite (of_bits doubles.format (top doubles.format))) m.0.fini)
        ∙ zeros_alike (roomy_doubles.inside ps ((list_when doubles true true ps verdicts.Good).0 e)) m.0 p.0 m.1 p.1
        ∙ sym (claim_graded doubles ps 0 e (is_true (finite (of_bits doubles.format 0)) p.0.fini))
    by (verdicts.Refused k i) e = list_refused doubles ps (top doubles.format) k i e ∙ sym (list_refused doubles ps 0 k i e)
