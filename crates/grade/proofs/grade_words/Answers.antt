-- `grade::grade_words` meets its contract: with the nearest double taken out, the words are zero exactly where it is S, and else tell its other side.
-- Assumes nothing.
use mathlib.Core.Path.{sym, ap, ◌∙◌}
use mathlib.Core.Bool.{Bool, cond}
use Prim.Native.Nat.{ℕ, ◌+◌, ◌-◌}
use lib.Dec.{leb}
use Rattle.words.specs.Words.{whole_of}
use Rattle.grade.proofs.WordLaws.{near_finite}
use Rattle.grade.proofs.CaseWords.{whole_exact, whole_wrong, left_positive, left_near, left_side, left_off}
use Rattle.grade.proofs.grade_words.Goals as goal

-- the pattern asked for, as the rest's sign has it
abbrev stepped : Bool → ℕ → Bool → ℕ
stepped s p below = cond s (cond below (p + 1) (p - 1)) (cond below (p - 1) (p + 1))

pub withdraw-requires : goal.withdraw-requires
withdraw-requires c = (c.requires.0, near_finite (whole_of c.args.words.now) c.requires.1 c.nearest_pattern-near.ensures)

pub same_number-requires : goal.same_number-requires
same_number-requires c = (c.requires.2, near_finite (whole_of c.args.words.now) c.requires.1 c.nearest_pattern-near.ensures)

pub returns-then-same_number : goal.returns-then-same_number
returns-then-same_number c =
    whole_exact (whole_of c.args.words.now) c.requires.1 c.ranges.claim.fits c.requires.2 c.nearest_pattern-near.ensures
    c.withdraw.ensures (sym c.is_zero.ensures ∙ c.if-is_zero.true) (sym c.same_number.ensures ∙ c.if-same_number.true)

pub returns-then-is_zero : goal.returns-then-is_zero
returns-then-is_zero c =
    whole_wrong (whole_of c.args.words.now) c.requires.1 c.ranges.claim.fits c.requires.2 c.nearest_pattern-near.ensures
    c.withdraw.ensures (sym c.is_zero.ensures ∙ c.if-is_zero.true) (sym c.same_number.ensures ∙ c.if-same_number.false)

pub returns-then-claim-near : goal.returns-then-claim-near
returns-then-claim-near c =
    left_near (whole_of c.args.words.now) c.requires.1 c.ranges.claim.fits c.requires.2 c.nearest_pattern-near.ensures
    c.withdraw.ensures (sym c.is_zero.ensures ∙ c.if-is_zero.false) c.if-claim-near.true

pub other_side-requires : goal.other_side-requires
other_side-requires c =
    let S = whole_of c.args.words.now in (
      left_positive S c.requires.1 c.ranges.claim.fits c.requires.2 c.nearest_pattern-near.ensures c.withdraw.ensures
          (sym c.is_zero.ensures ∙ c.if-is_zero.false),
      near_finite S c.requires.1 c.nearest_pattern-near.ensures,
    )

pub returns-then-claim-other_side : goal.returns-then-claim-other_side
returns-then-claim-other_side c =
    let p = c.nearest_pattern-near.result in
    left_side (whole_of c.args.words.now) c.requires.1 c.ranges.claim.fits c.requires.2 c.nearest_pattern-near.ensures
    c.withdraw.ensures (sym c.is_zero.ensures ∙ c.if-is_zero.false) c.if-claim-near.false
    (c.other_side.ensures ∙ ap (stepped (leb 0x8000000000000000 p) p) c.is_negative.ensures) c.if-claim-other_side.true

pub returns : goal.returns
returns c =
    let p = c.nearest_pattern-near.result in
    left_off (whole_of c.args.words.now) c.requires.1 c.ranges.claim.fits c.requires.2 c.nearest_pattern-near.ensures
    c.withdraw.ensures (sym c.is_zero.ensures ∙ c.if-is_zero.false) c.if-claim-near.false
    (c.other_side.ensures ∙ ap (stepped (leb 0x8000000000000000 p) p) c.is_negative.ensures) c.if-claim-other_side.false
