-- When each answer to an addition or a withdrawal is given, and what a run of them is. Definitions only.
use Rattle.std.specs.Prelude.{◌≡◌, true, false, List, [], ◌∷◌, ℕ, ℤ, neg_ℤ, ◌+ℤ◌, length, replicate}
use Rattle.lists.specs.Digits.{inside}
use Rattle.lists.specs.Filter.{filter}
use Rattle.kinds.specs.Limits.{doubles}
use Rattle.kinds.specs.Entry.{Entry}
use Rattle.kinds.specs.Entry.{Entered, Refused}
use Rattle.judge.specs.Judge.{fault_of, fault_free}
use Rattle.words.specs.Words.{word_count, register_bits, whole_of, words_of}
use Rattle.addend.specs.Addend.{units_of}
use Rattle.register.specs.Register.{Changed, enter}

-- the table, a row for each answer, 4 and 9 without a place, 2 and 3 at place 0. z is the whole number that would be there afterwards.
pub data EntryWhen (ws : List ℕ) (p : ℕ) (z : ℤ) : Entry → Type 0 where
  entered : length ws ≡ word_count → fault_of doubles p ≡ 0 → inside register_bits z ≡ true → EntryWhen ws p z Entered
  wrong_length : (length ws ≡ word_count → ⊥) → EntryWhen ws p z (Refused 4 0)
  bad_number : length ws ≡ word_count → (fault_of doubles p ≡ 0 → ⊥) → EntryWhen ws p z (Refused (fault_of doubles p) 0)
  out_of_range : length ws ≡ word_count → fault_of doubles p ≡ 0 → inside register_bits z ≡ false → EntryWhen ws p z (Refused 9 0)

-- rule A1: the words afterwards
abbrev pub afterwards : List ℕ → ℤ → Entry → List ℕ
afterwards ws z Entered = words_of z
afterwards ws z (Refused k i) = ws

-- ---- a run of additions and withdrawals: rule G6 is about two of them
pub data Change : Type 0 where
  add : ℕ → Change
  withdraw : ℕ → Change

abbrev pub pattern_of : Change → ℕ
pattern_of (add p) = p
pattern_of (withdraw p) = p

-- what a change adds to the whole number
abbrev pub change_of : Change → ℤ
change_of (add p) = units_of doubles p
change_of (withdraw p) = neg_ℤ (units_of doubles p)

-- one call: `added` or `withdrawn`, of its pattern
abbrev pub changed : List ℕ → Change → Changed
changed ws c = enter ws (pattern_of c) (whole_of ws +ℤ change_of c)

-- the words after all calls
unfoldable pub run : List ℕ → List Change → List ℕ
run ws [] = ws
run ws (c ∷ cs) = run (changed ws c).area cs

-- none of the calls refuses
unfoldable pub AllEntered : List ℕ → List Change → Type 0
AllEntered ws [] = Unit {0}
AllEntered ws (c ∷ cs) = ((changed ws c).answer ≡ Entered) × AllEntered (changed ws c).area cs

-- none of the calls leaves the range
unfoldable pub NeverOut : List ℕ → List Change → Type 0
NeverOut ws [] = Unit {0}
NeverOut ws (c ∷ cs) = ((changed ws c).answer ≡ Refused 9 0 → ⊥) × NeverOut (changed ws c).area cs

-- how many of the calls are of allowed numbers: the others are refused whatever is held
abbrev pub allowed_in : List Change → ℕ
allowed_in cs = length (filter (λ (c : Change). fault_free doubles (pattern_of c)) cs)

abbrev pub zeros : List ℕ
zeros = replicate word_count 0

-- ---- the calls of a history that aren't refused, each judged where it stands
abbrev pub keep : Entry → Change → List Change → List Change
keep Entered c cs = c ∷ cs
keep (Refused k i) c cs = cs

unfoldable pub entered_of : List ℕ → List Change → List Change
entered_of ws [] = []
entered_of ws (c ∷ cs) = keep (changed ws c).answer c (entered_of (changed ws c).area cs)
