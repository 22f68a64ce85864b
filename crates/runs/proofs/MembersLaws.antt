-- Members of a set: which has any, and how many: none of the empty set, each of the full one, and one less without a member. Assumes nothing.
use Rattle.std.specs.Prelude.{◌≡◌, refl, ◌⊎◌, Bool, true, false, cond, ℕ, zero, suc, ◌+◌, ◌^◌, ◌≤◌, ◌<◌}
use Rattle.std.proofs.Common.{sym, ◌∙◌, inl, inr, eq-or-lt_of_le, le_of_suc-le-suc, arith}
use Rattle.std.proofs.Math.Nat.{zero-div}
use Rattle.lists.proofs.Apart.{apart}
use Rattle.lists.specs.Bitset.{has, without, full}
use Rattle.lists.proofs.BitsetLaws.{has_full, has_without, has_other}
use Rattle.runs.specs.Runs.{members}

-- the empty set has no member
pub empty_has : (b : ℕ) → has 0 b ≡ false
empty_has b = rw (zero-div (2 ^ b))

pub has_positive : (P b : ℕ) → has P b ≡ true → 0 < P
has_positive zero b h = let z : ◌≡◌ {A = Bool} true false = sym h ∙ empty_has b in apart (cc)
has_positive (suc P) b h = omega arith

pub members_none : (B : ℕ) → members 0 B ≡ 0
unfolding members
members_none zero = refl
members_none (suc B) = rw (empty_has B, members_none B)

pub members_all : (P B : ℕ) → ((b : ℕ) → b < B → has P b ≡ true) → members P B ≡ B
unfolding members
members_all P zero h = refl
members_all P (suc B) h = rw (h B (omega arith), members_all P B (λ b l. h b (omega arith))) (omega arith)

pub members_full : (B : ℕ) → members (full B) B ≡ B
members_full B = members_all (full B) B (λ b l. has_full l)

-- those below b are the same
others : (P b B : ℕ) → B ≤ b → members (without P b) B ≡ members P B
unfolding members
others P b zero h = refl
others P b (suc B) h = λ i. cond (has_other P b B (omega arith) i) 1 0 + others P b B (omega arith) i

pub members_without : (P b B : ℕ) → has P b ≡ true → b < B → members (without P b) B + 1 ≡ members P B
unfolding members
members_without P b zero h l = absurd (omega arith)
members_without P b (suc B) h l = go (eq-or-lt_of_le (le_of_suc-le-suc l)) (members_without P b B h)
  where
    go : (b ≡ B) ⊎ (b < B) → (b < B → members (without P b) B + 1 ≡ members P B)
        → cond (has (without P b) B) 1 0 + members (without P b) B + 1 ≡ cond (has P B) 1 0 + members P B
    go (inl e) k = rw (← e, has_without P b, h) (omega (arith, others P b b (omega arith)))
    go (inr m) k = rw (has_other P b B (omega arith)) (omega (arith, k m))
