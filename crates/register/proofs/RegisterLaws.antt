-- Additions and withdrawals: each answer is given exactly when the table says, a refused call changes no word, a withdrawal undoes an addition and the
-- other way round, zeros change nothing. Assumes nothing.
use Rattle.std.specs.Prelude.{◌≡◌, refl, ◌↔◌, Bool, true, false, List, ℕ, ◌%◌, ℤ, pos, neg_ℤ, ◌+ℤ◌, length}
use Rattle.std.proofs.Common.{sym, ap, subst, ◌∙◌, arith, lit<}
use Rattle.std.proofs.Math.Decide.{ℕ_discrete}
use Rattle.std.proofs.Math.IntN.{+ℤ_idr, +ℤ-neg_ℤ_cancel, -ℤ-+ℤ_cancel}
use Rattle.std.specs.Float.Ieee.{top}
use Rattle.addend.specs.PatternFields.{zero_value}
use Rattle.lists.specs.Digits.{inside}
use Rattle.lists.proofs.SignedDigits.{cut_words, cut_whole, whole_cut, whole_inside}
use Rattle.kinds.proofs.Hearing.{exactly}
use Rattle.kinds.specs.Limits.{doubles}
use Rattle.kinds.specs.Outcome.{outcome}
use Rattle.kinds.specs.Entry.{Entry}
use Rattle.kinds.specs.Entry.{Refused, Entered}
use Rattle.judge.specs.Judge.{fault_of}
use Rattle.judge.specs.FaultLaws.{pattern_0, proper_doubles}
use Rattle.words.specs.Words.{word_bits, word_count, register_bits, whole_of}
use Rattle.addend.specs.Addend.{units_of, Held}
use Rattle.register.specs.Register.{Changed, enter, added, withdrawn}
use Rattle.register.proofs.EnterLaws.{enter_long, enter_bad, enter_out, enter_in}
use Rattle.register.specs.Entries.{EntryWhen, entered, wrong_length, bad_number, out_of_range, afterwards}
use Rattle.register.specs.Entries.{Change, add, withdraw, pattern_of, changed}

module _ (ws : List ℕ) (p : ℕ) (z : ℤ) where
  row : {a : Entry} → EntryWhen ws p z a → enter ws p z ≡ outcome a (afterwards ws z a)
  row (entered l e h) = enter_in ws p z l e h
  row (wrong_length n) = enter_long ws p z n
  row (bad_number l n) = enter_bad ws p z l n
  row (out_of_range l e h) = enter_out ws p z l e h

  some_row : (a : Entry) × EntryWhen ws p z a
  some_row = elim (ℕ_discrete (length ws) word_count) [
    | no n ↦ (Refused 4 0, wrong_length n)
    | yes l ↦ elim (ℕ_discrete (fault_of doubles p) 0) [
      | no n ↦ (Refused (fault_of doubles p) 0, bad_number l n)
      | yes e ↦ by_range l e (inside register_bits z) refl
    ]
  ]
    where
      by_range : length ws ≡ word_count → fault_of doubles p ≡ 0 → (b : Bool) → inside register_bits z ≡ b → (a : Entry) × EntryWhen ws p z a
      by_range l e true h = (Entered, entered l e h)
      by_range l e false h = (Refused 9 0, out_of_range l e h)

  answered : {a : Entry} → EntryWhen ws p z a → (enter ws p z).answer ≡ a
  answered r = ap (λ (o : Changed). o.answer) (row r)

  -- each answer is given exactly when the table says
  pub entry_when : (a : Entry) → ((enter ws p z).answer ≡ a) ↔ EntryWhen ws p z a
  entry_when = exactly (enter ws p z).answer (EntryWhen ws p z) (λ a. answered) some_row

  -- and the words are left as it says
  pub entry_leaves : {a : Entry} → (enter ws p z).answer ≡ a → (enter ws p z).area ≡ afterwards ws z a
  entry_leaves {a} e = ap (λ (o : Changed). o.area) (row ((entry_when a).0 e))

  -- ---- the whole number afterwards

  pub no_fault : (enter ws p z).answer ≡ Entered → fault_of doubles p ≡ 0
  no_fault a = fault ((entry_when Entered).0 a)
    where
      fault : EntryWhen ws p z Entered → fault_of doubles p ≡ 0
      fault (entered l e h) = e

  pub whole_after : (enter ws p z).answer ≡ Entered → whole_of (enter ws p z).area ≡ z
  whole_after a = ap whole_of (entry_leaves a) ∙ whole_cut word_bits word_count (lit< tt) z (range ((entry_when Entered).0 a))
    where
      range : EntryWhen ws p z Entered → inside register_bits z ≡ true
      range (entered l e h) = h

  pub held_after : Held ws → Held (enter ws p z).area
  held_after W = subst Held (sym (entry_leaves refl)) (kept (enter ws p z).answer)
    where
      kept : (a : Entry) → Held (afterwards ws z a)
      kept Entered = cut_words word_bits word_count z
      kept (Refused k i) = W

-- ---- what comes back to the whole number of ws leaves ws
module _ {ws : List ℕ} (W : Held ws) where
  back : (vs : List ℕ) (p : ℕ) (z : ℤ) → length vs ≡ word_count → fault_of doubles p ≡ 0 → z ≡ whole_of ws → enter vs p z ≡ outcome Entered ws
  back vs p z l e b =
      ap (enter vs p) b
      ∙ enter_in vs p (whole_of ws) l e (whole_inside word_bits word_count (lit< tt) W)
      ∙ ap (outcome Entered) (cut_whole word_bits word_count (lit< tt) W)

  undo : (p : ℕ) (u v : ℤ) → whole_of ws +ℤ u +ℤ v ≡ whole_of ws → (enter ws p (whole_of ws +ℤ u)).answer ≡ Entered
      → enter (enter ws p (whole_of ws +ℤ u)).area p (whole_of (enter ws p (whole_of ws +ℤ u)).area +ℤ v) ≡ outcome Entered ws
  undo p u v c a =
      back (enter ws p (whole_of ws +ℤ u)).area p (whole_of (enter ws p (whole_of ws +ℤ u)).area +ℤ v)
      (held_after ws p (whole_of ws +ℤ u) W).long
      (no_fault ws p (whole_of ws +ℤ u) a)
      (ap (λ (y : ℤ). y +ℤ v) (whole_after ws p (whole_of ws +ℤ u) a) ∙ c)

  -- what is added and then withdrawn leaves the words as they were, and the other way round
  pub withdraw_undoes : (p : ℕ) → (added ws p).answer ≡ Entered → withdrawn (added ws p).area p ≡ outcome Entered ws
  withdraw_undoes p a = undo p (units_of doubles p) (neg_ℤ (units_of doubles p)) (+ℤ-neg_ℤ_cancel (whole_of ws) (units_of doubles p)) a

  pub add_undoes : (p : ℕ) → (withdrawn ws p).answer ≡ Entered → added (withdrawn ws p).area p ≡ outcome Entered ws
  add_undoes p a = undo p (neg_ℤ (units_of doubles p)) (units_of doubles p) (-ℤ-+ℤ_cancel (whole_of ws) (units_of doubles p)) a

  still : (p : ℕ) (u : ℤ) → p % top doubles.format ≡ 0 → u ≡ pos 0 → enter ws p (whole_of ws +ℤ u) ≡ outcome Entered ws
  still p u h e =
      back ws p (whole_of ws +ℤ u) W.long (pattern_0 doubles proper_doubles p (omega arith))
      (ap (λ (v : ℤ). whole_of ws +ℤ v) e ∙ +ℤ_idr (whole_of ws))

  -- +0 and -0 change nothing
  pub zero_keeps : (c : Change) → pattern_of c % top doubles.format ≡ 0 → changed ws c ≡ outcome Entered ws
  zero_keeps (add p) h = still p (units_of doubles p) h (zero_value doubles.format p h)
  zero_keeps (withdraw p) h = still p (neg_ℤ (units_of doubles p)) h (ap neg_ℤ (zero_value doubles.format p h))
