-- A register in bytes: a call that returns 0 changes the whole number by exactly the number's units, what was added and is withdrawn leaves the same
-- 264 bytes, and the code of every row of the table. Assumes nothing.
use Rattle.std.specs.Prelude.{◌≡◌, ℕ, ◌*◌, ℤ, ◌+ℤ◌, ◌-ℤ◌, length}
use Rattle.std.proofs.Math.Path.{refl, ap}
use Rattle.std.proofs.Common.{sym, ◌∙◌, arith}
use mathlib.Core.List.{List, []}
use Rattle.lists.specs.Digits.{Digits}
use Rattle.kinds.specs.Limits.{doubles}
use Rattle.kinds.specs.Outcome.{outcome}
use Rattle.kinds.specs.Heard.{entry_heard}
use Rattle.kinds.specs.Entry.{Entry}
use Rattle.kinds.specs.Entry as entries
use Rattle.octets.specs.Octets.{little_endian, little, packed, unpacked}
use Rattle.octets.proofs.OctetsLaws.{little_length, little_below, little_back, little_bytes_back}
use Rattle.octets.proofs.EightsLaws.{eights_length, eights_below, eights_joined, joined_eights, joined_length}
use Rattle.words.specs.Words.{word_count, whole_of}
use Rattle.register.specs.Register.{Changed, enter, added, withdrawn}
use Rattle.addend.specs.Addend.{units_of, Held}
use Rattle.register.specs.Entries.{EntryWhen, entered, wrong_length, bad_number, out_of_range}
use Rattle.register.proofs.RegisterLaws.{entry_when, whole_after, held_after, withdraw_undoes, add_undoes}
use Rattle.calls.specs.Calls.{Called, answered, register_call, add_call, withdraw_call, register_bytes, words_in}
use Rattle.calls.proofs.CallsLaws.{register_refused, register_registered, answered_accepted}

-- ---- words to bytes, and back
words_back : (ws : List ℕ) → Held ws → words_in (packed ws) ≡ ws
words_back ws W = ap (λ (n : ℕ). unpacked n (packed ws)) (sym W.long) ∙ eights_joined (little_endian 8) (little_length 8) little (little_back 8) ws W.below

-- ---- an entry that returns 0 was entered
enters : (ws : List ℕ) (p : ℕ) (z : ℤ) (register words : List ℕ) (a : Entry) → EntryWhen ws p z a → (answered (entry_heard a) register words).answer ≡ 0
    → a ≡ entries.Entered
unfolding answered
enters ws p z register words a (entered l f s) e = refl
enters ws p z register words a (wrong_length l) e = absurd (omega arith)
enters ws p z register words a (bad_number l f) e = absurd (f (omega arith))
enters ws p z register words a (out_of_range l f s) e = absurd (omega arith)

-- ---- one call, and the one that undoes it
module _ (register : List ℕ) (B : Digits 8 register) (l : length register ≡ register_bytes) (p : ℕ) (z : List ℕ → ℤ) (undone : List ℕ → Changed)
    (undoes : (ws : List ℕ) → Held ws → (enter ws p (z ws)).answer ≡ entries.Entered → undone (enter ws p (z ws)).area ≡ outcome entries.Entered ws) where
  abbrev ws : List ℕ
  ws = words_in register

  abbrev e : Changed
  e = enter ws p (z ws)

  abbrev doing : List ℕ → Changed
  doing vs = enter vs p (z vs)

  held : Held ws
  held = record { long = eights_length little word_count register; below = eights_below little little_below word_count register B (omega arith) }

  is_entered : (register_call doing register).answer ≡ 0 → e.answer ≡ entries.Entered
  is_entered c =
      enters ws p (z ws) register e.area e.answer ((entry_when ws p (z ws) e.answer).0 refl)
      (ap (λ (x : Called). x.answer) (sym (register_registered doing register l)) ∙ c)

  is_words : (register_call doing register).answer ≡ 0 → register_call doing register ≡ outcome 0 (packed e.area)
  is_words c =
      register_registered doing register l
      ∙ ap (λ (x : Entry). answered (entry_heard x) register e.area) (is_entered c)
      ∙ answered_accepted register e.area

  -- the whole number afterwards
  whole : (register_call doing register).answer ≡ 0 → whole_of (words_in (register_call doing register).area) ≡ z ws
  whole c =
      ap (λ (x : Called). whole_of (words_in x.area)) (is_words c)
      ∙ ap whole_of (words_back e.area (held_after ws p (z ws) held))
      ∙ whole_after ws p (z ws) (is_entered c)

  back : (register_call doing register).answer ≡ 0 → register_call undone (register_call doing register).area ≡ outcome 0 register
  back c =
      let h : Held e.area = held_after ws p (z ws) held in
      let s : length (packed e.area) ≡ register_bytes = joined_length (little_endian 8) (little_length 8) e.area ∙ ap (λ (n : ℕ). 8 * n) h.long in
      let u : undone (words_in (packed e.area)) ≡ outcome entries.Entered ws =
      ap undone (words_back e.area h) ∙ undoes ws held (is_entered c) in
      let w : packed ws ≡ register = joined_eights (little_endian 8) little (λ bs D k. rw k at (little_bytes_back bs D)) 33 register B l in
      ap (λ (x : Called). register_call undone x.area) (is_words c)
      ∙ register_registered undone (packed e.area) s
      ∙ ap (λ (x : Changed). answered (entry_heard x.answer) (packed e.area) x.area) u
      ∙ answered_accepted (packed e.area) ws
      ∙ ap (outcome 0) w

module _ (register : List ℕ) (B : Digits 8 register) (l : length register ≡ register_bytes) (p : ℕ) where
  pub add_call_undone : (add_call register p).answer ≡ 0 → withdraw_call (add_call register p).area p ≡ outcome 0 register
  add_call_undone = back register B l p (λ ws. whole_of ws +ℤ units_of doubles p) (λ ws. withdrawn ws p) (λ ws W. withdraw_undoes W p)

  pub withdraw_call_undone : (withdraw_call register p).answer ≡ 0 → add_call (withdraw_call register p).area p ≡ outcome 0 register
  withdraw_call_undone = back register B l p (λ ws. whole_of ws -ℤ units_of doubles p) (λ ws. added ws p) (λ ws W. add_undoes W p)

  -- rules G1 and G2
  pub add_call_whole : (add_call register p).answer ≡ 0 → whole_of (words_in (add_call register p).area) ≡ whole_of (words_in register) +ℤ units_of doubles p
  add_call_whole = whole register B l p (λ ws. whole_of ws +ℤ units_of doubles p) (λ ws. withdrawn ws p) (λ ws W. withdraw_undoes W p)

  pub withdraw_call_whole : (withdraw_call register p).answer ≡ 0
      → whole_of (words_in (withdraw_call register p).area) ≡ whole_of (words_in register) -ℤ units_of doubles p
  withdraw_call_whole = whole register B l p (λ ws. whole_of ws -ℤ units_of doubles p) (λ ws. added ws p) (λ ws W. add_undoes W p)

-- ---- what each row of the table returns: 4 for another length than registerBytes bytes, and by the words' rows for registerBytes
module _ (register : List ℕ) (p : ℕ) where
  rows : (z : List ℕ → ℤ) → length register ≡ register_bytes → (a : Entry) → EntryWhen (words_in register) p (z (words_in register)) a
      → (register_call (λ ws. enter ws p (z ws)) register).answer ≡ (answered (entry_heard a) register []).answer
  unfolding answered
  rows z l a R =
      let ws = words_in register in
      let e : (enter ws p (z ws)).answer ≡ a = (entry_when ws p (z ws) a).1 R in
      ap (λ (x : Called). x.answer) (register_registered (λ ws. enter ws p (z ws)) register l)
      ∙ ap (λ (x : Entry). (answered (entry_heard x) register (enter ws p (z ws)).area).answer) e
      ∙ same a (enter ws p (z ws)).area
    where
      same : (a : Entry) (words : List ℕ) → (answered (entry_heard a) register words).answer ≡ (answered (entry_heard a) register []).answer
      same entries.Entered words = refl
      same (entries.Refused k i) words = refl

  pub add_call_when : length register ≡ register_bytes → (a : Entry) → EntryWhen (words_in register) p (whole_of (words_in register) +ℤ units_of doubles p) a
      → (add_call register p).answer ≡ (answered (entry_heard a) register []).answer
  add_call_when = rows (λ ws. whole_of ws +ℤ units_of doubles p)

  pub withdraw_call_when : length register ≡ register_bytes → (a : Entry)
      → EntryWhen (words_in register) p (whole_of (words_in register) -ℤ units_of doubles p) a
      → (withdraw_call register p).answer ≡ (answered (entry_heard a) register []).answer
  withdraw_call_when = rows (λ ws. whole_of ws -ℤ units_of doubles p)

  pub add_call_length : (length register ≡ register_bytes → ⊥) → add_call register p ≡ outcome 4 register
  add_call_length = register_refused (λ ws. added ws p) register

  pub withdraw_call_length : (length register ≡ register_bytes → ⊥) → withdraw_call register p ≡ outcome 4 register
  withdraw_call_length = register_refused (λ ws. withdrawn ws p) register
