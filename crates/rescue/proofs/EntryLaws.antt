-- An entry of a damaged sheet as a loop reads it: which of the patterns it is, and whether it is kept. Assumes nothing.
use Rattle.std.specs.Prelude.{◌≡◌, Bool, true, false, not, List, ℕ, ◌+◌, ◌*◌, ◌<◌, length, drop, get_or, Option, Some, None, refl}
use Rattle.std.specs.Option.{is_some}
use Rattle.std.proofs.Common.{sym, ◌∙◌, arith, eq-eqb, ne_eqb}
use Rattle.lists.proofs.Apart.{apart}
use Rattle.kinds.specs.Limits.{doubles}
use Rattle.kinds.specs.Refusals.{fault_numbered}
use Rattle.kinds.specs.declared.refusal.Fault.{Fault}
use Rattle.kinds.specs.declared.refusal.Fault.TheVariants as faults
use Rattle.judge.specs.Judge.{fault_of, fault_free}
use Rattle.octets.specs.Octets.{big, bytes_at}
use Rattle.octets.proofs.EightsLaws.{eights_length, eights_at}
use Rattle.sheet.specs.Sheet.{patterns_of}

-- no fault has the number 0
none_0 : (o : Option Fault) → is_some o ≡ false → fault_numbered o ≡ 0
none_0 None e = refl
none_0 (Some f) e = apart (cc)

some_fault : (o : Option Fault) → is_some o ≡ true → fault_numbered o ≡ 0 → ⊥
some_fault None e z = apart (cc)
some_fault (Some faults.NotFinite) e z = omega arith
some_fault (Some faults.TooLarge) e z = omega arith

module _ (bytes : List ℕ) (n i : ℕ) (h : i < n) where
  pub entry_inside : i < length (patterns_of n (drop 5 bytes))
  entry_inside = omega (arith, eights_length big n (drop 5 bytes))

  -- p is what was read
  module _ {p : ℕ} (is : p ≡ big (bytes_at bytes (5 + 8 * i) 8)) where
    pub entry_at : get_or (patterns_of n (drop 5 bytes)) i 0 ≡ p
    entry_at = eights_at big n i 5 bytes h ∙ sym is

    -- and o its fault, of which b says that it has none
    module _ (o : Option Fault) (f : fault_numbered o ≡ fault_of doubles p) {b : Bool} (none : is_some o ≡ not b) where
      pub entry_kept : b ≡ true → fault_free doubles (get_or (patterns_of n (drop 5 bytes)) i 0) ≡ true
      entry_kept e = rw entry_at (eq-eqb (fault_of doubles p) 0 (sym f ∙ none_0 o (rw e at none)))

      pub entry_dropped : b ≡ false → fault_free doubles (get_or (patterns_of n (drop 5 bytes)) i 0) ≡ false
      entry_dropped e = rw entry_at (ne_eqb (fault_of doubles p) 0 (λ z. some_fault o (rw e at none) (f ∙ z)))
