-- Two registers merged into a third, when each answer is given, and the registers of many sites. Definitions only.
use Rattle.std.specs.Prelude.{◌≡◌, Bool, true, false, cond, not, ◌&&◌, List, [], ◌∷◌, ◌++◌, ℕ, eqb, ◌+ℤ◌, length}
use Rattle.lists.specs.Digits.{inside}
use Rattle.kinds.specs.Outcome.{outcome}
use Rattle.kinds.specs.Entry.{Entry}
use Rattle.kinds.specs.Entry.{Entered, Refused}
use Rattle.words.specs.Words.{word_count, register_bits, whole_of, words_of}
use Rattle.addend.specs.Addend.{Held}
use Rattle.register.specs.Register.{Changed}

-- rules A2 and R4: both registers and the area that is lent for the third have 33 words
abbrev pub right_lengths : List ℕ → List ℕ → List ℕ → Bool
right_lengths us vs out = eqb (length us) word_count && eqb (length vs) word_count && eqb (length out) word_count

-- rules O9 and G7
unfoldable pub merged : List ℕ → List ℕ → List ℕ → Changed
merged us vs out =
    cond (not (right_lengths us vs out)) (outcome (Refused 4 0) out)
    (cond (not (inside register_bits (whole_of us +ℤ whole_of vs))) (outcome (Refused 9 0) out)
    (outcome Entered (words_of (whole_of us +ℤ whole_of vs))))

-- ---- rule O6: the table, a row for each answer. None tells a place.
pub record ThreeRegisters (us vs out : List ℕ) : Type 0 where
  pub first : length us ≡ word_count
  pub second : length vs ≡ word_count
  pub third : length out ≡ word_count

pub data MergeWhen (us vs out : List ℕ) : Entry → Type 0 where
  merges : ThreeRegisters us vs out → inside register_bits (whole_of us +ℤ whole_of vs) ≡ true → MergeWhen us vs out Entered
  -- rule R4
  wrong_length : (ThreeRegisters us vs out → ⊥) → MergeWhen us vs out (Refused 4 0)
  -- rule R9
  out_of_range : ThreeRegisters us vs out → inside register_bits (whole_of us +ℤ whole_of vs) ≡ false → MergeWhen us vs out (Refused 9 0)

-- ---- rules G8 and G9: the registers of many sites, merged two at a time in any grouping, each time into an area that is lent for it
pub data Sites : Type 0 where
  site : List ℕ → Sites
  both : Sites → Sites → List ℕ → Sites

unfoldable pub total_of : Sites → List ℕ
total_of (site ws) = ws
total_of (both s t out) = (merged (total_of s) (total_of t) out).area

-- each site has 33 words, and no merge is refused
unfoldable pub AllMerged : Sites → Type 0
AllMerged (site ws) = Held ws
AllMerged (both s t out) = AllMerged s × AllMerged t × ((merged (total_of s) (total_of t) out).answer ≡ Entered)

-- the registers that were merged, in their order
unfoldable pub registers_of : Sites → List (List ℕ)
registers_of (site ws) = ws ∷ []
registers_of (both s t out) = registers_of s ++ registers_of t
