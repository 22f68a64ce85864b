-- The refusals of an entry that the calls turn to a code: each is one of the table, and tells a place as the table says. Assumes nothing.
use Rattle.std.specs.Prelude.{◌≡◌, refl, ◌⊎◌, List, ℕ, ◌<◌, ℤ}
use Rattle.std.proofs.Common.{inl, inr, arith, lit<}
use Rattle.kinds.proofs.Hearing.{at_place_0}
use Rattle.kinds.specs.Limits.{doubles}
use Rattle.kinds.specs.Entry.{Entry}
use Rattle.judge.specs.Judge.{fault_of}
use Rattle.judge.specs.FaultLaws.{fault_number}
use Rattle.register.specs.Register.{enter}
use Rattle.register.specs.Entries.{EntryWhen, entered, wrong_length, bad_number, out_of_range}
use Rattle.register.proofs.RegisterLaws.{entry_when}
use Rattle.calls.specs.Inner.{EntryRefusal}

row_refusal : {ws : List ℕ} {p : ℕ} {z : ℤ} {a : Entry} → EntryWhen ws p z a → EntryRefusal a
row_refusal (entered l f s) = tt
row_refusal (wrong_length l) = at_place_0 (lit< tt)
row_refusal {p = p} (bad_number l f) = at_place_0 (go (fault_number doubles p f))
  where
    go : (fault_of doubles p ≡ 2) ⊎ (fault_of doubles p ≡ 3) → fault_of doubles p < 32
    go (inl e) = omega arith
    go (inr e) = omega arith
row_refusal (out_of_range l f s) = at_place_0 (lit< tt)

pub entry_refusal : (ws : List ℕ) (p : ℕ) (z : ℤ) → EntryRefusal (enter ws p z).answer
entry_refusal ws p z = row_refusal ((entry_when ws p z (enter ws p z).answer).0 refl)
