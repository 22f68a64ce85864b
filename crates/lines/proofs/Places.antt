-- When a refusal's line tells a place: where the refusal holds one, and it is that one. Assumes nothing.
use Rattle.std.specs.Prelude.{◌≡◌, refl, ◌++◌, ℕ, Option, Some, None}
use Rattle.std.proofs.Common.{ap, ◌∙◌}
use Rattle.kinds.specs.Heard.{Place, nowhere, at, place_of, told}
use Rattle.kinds.specs.Refusals.{number, place, place_told}
use Rattle.kinds.specs.declared.refusal.Refusal.{Refusal}
use Rattle.kinds.specs.declared.refusal.Refusal.TheVariants as refusals
use Rattle.kinds.proofs.AnswersLaws.{as_told}
use Rattle.numerals.specs.Numerals.{decimal_of}
use Rattle.lines.specs.Lines.{refused_word, at_word, line_end, refused_line}

abbrev as_place : Option ℕ → Place
as_place None = nowhere
as_place (Some p) = at p

told_same : (r : Refusal) → told (number r) (place r) ≡ as_place (place_told r)
told_same refusals.TooMany = refl
told_same (refusals.NotFinite i) = refl
told_same (refusals.TooLarge i) = refl
told_same refusals.WrongLength = refl
told_same refusals.WrongParts = refl
told_same refusals.NoSuchBlock = refl
told_same refusals.BlockNotPending = refl
told_same refusals.UnsoundNumbers = refl
told_same refusals.RegisterFull = refl
told_same refusals.NoFiniteDouble = refl
told_same refusals.SheetTooShort = refl
told_same refusals.OtherVersion = refl
told_same refusals.SheetTooLong = refl
told_same (refusals.NotAWeight i) = refl
told_same refusals.WrongTotal = refl
told_same refusals.NoSuchClock = refl
told_same refusals.NoOtherWeight = refl
told_same refusals.UnsoundSet = refl
told_same (refusals.UnsoundWork i) = refl
told_same refusals.ClaimNotFinite = refl
told_same refusals.OtherEnsemble = refl
told_same refusals.LengthsDiffer = refl
told_same (refusals.FactorOutside i) = refl
told_same refusals.TooManyCalls = refl
told_same refusals.NoRoom = refl

place_same : (r : Refusal) → place_of (number r) (place r) ≡ as_place (place_told r)
place_same r = as_told r ∙ told_same r

pub told_line : (r : Refusal) (p : ℕ) → place_told r ≡ Some p
    → refused_line (number r) (place_of (number r) (place r)) ≡ refused_word ++ decimal_of (number r) ++ (at_word ++ decimal_of p) ++ line_end
unfolding refused_line
told_line r p e = ap (refused_line (number r)) (place_same r ∙ ap as_place e)

pub silent_line : (r : Refusal) → place_told r ≡ None
    → refused_line (number r) (place_of (number r) (place r)) ≡ refused_word ++ decimal_of (number r) ++ line_end
unfolding refused_line
silent_line r e = ap (refused_line (number r)) (place_same r ∙ ap as_place e)
