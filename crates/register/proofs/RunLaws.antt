-- Runs of additions and withdrawals: the whole number afterwards, and that fewer than 2 ^ 37 allowed numbers from zero, and any others between,
-- never leave the range.
-- Assumes nothing.
use Rattle.std.specs.Prelude.{◌≡◌, refl, Bool, cond, ℕ, zero, suc, ◌+◌, ◌-◌, ◌*◌, ◌^◌, ◌≤◌, ◌<◌, ℤ, pos, negsuc, neg_ℤ, nat_abs, ◌+ℤ◌}
use Rattle.std.proofs.Common.{sym, ap, ◌∙◌, inl, inr, mul-lt-mul_of_pos_right, lt_of_le_of_lt, le-add_right, eq-eqb, length-append, pow_pos}
use Rattle.std.proofs.Math.Bool.{true, false}
use mathlib.Core.List.{List, [], ◌∷◌, ◌++◌, map}
use native.Mathlib.Omega.{arith}
use Rattle.std.proofs.Math.IntN.{+ℤ_idl, +ℤ_idr, +ℤ_assoc}
use Rattle.std.proofs.Math.ListN.{length}
use Rattle.std.proofs.lemmas.List.{length-map}
use Rattle.units.specs.Whole.{exact_sum}
use Rattle.units.proofs.Integers.{int_mag}
use Rattle.units.proofs.ExactSum.{abs_plus}
use Rattle.ieee.specs.Units.{whole}
use Rattle.ieee.proofs.Sum.{value_int, whole_mag}
use Rattle.lists.proofs.Apart.{apart}
use Rattle.lists.specs.Digits.{number, digits, residue, signed, inside}
use Rattle.lists.specs.Filter.{filter}
use Rattle.lists.proofs.Filter.{filter_others}
use Rattle.lists.proofs.TwosComplement.{inside_small}
use Rattle.lists.proofs.SignedDigits.{cut_words}
use Rattle.kinds.specs.Limits.{doubles}
use Rattle.kinds.specs.Entry.{Entry}
use Rattle.kinds.specs.Entry.{Refused, Entered}
use Rattle.judge.specs.Judge.{fault_of, fault_free}
use Rattle.judge.specs.Table.{float_of, size_of, most, Allowed}
use Rattle.judge.specs.FaultLaws.{fault_0, fault_number, most_doubles}
use Rattle.words.specs.Words.{word_bits, word_count, register_bits, whole_of, words_of}
use Rattle.addend.specs.Addend.{units_of, Held}
use Rattle.register.specs.Register.{added, withdrawn}
use Rattle.register.specs.Entries.{EntryWhen, entered, wrong_length, bad_number, out_of_range}
use Rattle.register.specs.Entries.{Change, add, withdraw, pattern_of, change_of, changed, run, AllEntered, NeverOut, allowed_in, zeros}
use Rattle.register.proofs.RegisterLaws.{entry_when, entry_leaves, no_fault, whole_after}

-- ---- the two calls
pub changed_add : (ws : List ℕ) (p : ℕ) → changed ws (add p) ≡ added ws p
changed_add ws p = refl

pub changed_withdraw : (ws : List ℕ) (p : ℕ) → changed ws (withdraw p) ≡ withdrawn ws p
changed_withdraw ws p = refl

-- ---- rules G1 and G2
pub change_whole : (ws : List ℕ) (c : Change) → (changed ws c).answer ≡ Entered → whole_of (changed ws c).area ≡ whole_of ws +ℤ change_of c
change_whole ws c a = whole_after ws (pattern_of c) (whole_of ws +ℤ change_of c) a

pub run_whole : (ws : List ℕ) (cs : List Change) → AllEntered ws cs → whole_of (run ws cs) ≡ whole_of ws +ℤ exact_sum (map change_of cs)
unfolding run AllEntered
run_whole ws [] A = sym (+ℤ_idr (whole_of ws))
run_whole ws (c ∷ cs) A =
    run_whole (changed ws c).area cs A.1
    ∙ ap (λ (y : ℤ). y +ℤ exact_sum (map change_of cs)) (change_whole ws c A.0)
    ∙ +ℤ_assoc (whole_of ws) (change_of c) (exact_sum (map change_of cs))

-- ---- the bound: each call adds at most the limit's units, refused or not
abs_neg : (z : ℤ) → nat_abs (neg_ℤ z) ≡ nat_abs z
abs_neg (pos zero) = refl
abs_neg (pos (suc n)) = refl
abs_neg (negsuc n) = refl

units_abs : (p : ℕ) → nat_abs (units_of doubles p) ≡ size_of doubles p
units_abs p =
    ap nat_abs (value_int doubles.format (float_of doubles p))
    ∙ int_mag (whole doubles.format (float_of doubles p))
    ∙ whole_mag doubles.format (float_of doubles p)

pub change_size : (c : Change) → nat_abs (change_of c) ≡ size_of doubles (pattern_of c)
change_size (add p) = units_abs p
change_size (withdraw p) = abs_neg (units_of doubles p) ∙ units_abs p

pub change_small : (c : Change) → fault_of doubles (pattern_of c) ≡ 0 → nat_abs (change_of c) ≤ most doubles
change_small c e = rw (change_size c) ((fault_0 doubles (pattern_of c)).0 e).1

module _ (ws : List ℕ) (c : Change) where
  next_bound : fault_of doubles (pattern_of c) ≡ 0 → nat_abs (whole_of ws +ℤ change_of c) ≤ nat_abs (whole_of ws) + most doubles
  next_bound e = omega (arith, abs_plus (whole_of ws) (change_of c), change_small c e)

  change_bound : nat_abs (whole_of (changed ws c).area) ≤ nat_abs (whole_of ws) + most doubles
  change_bound = by (changed ws c).answer refl
    where
      by : (a : Entry) → (changed ws c).answer ≡ a → nat_abs (whole_of (changed ws c).area) ≤ nat_abs (whole_of ws) + most doubles
      by Entered a = rw (change_whole ws c a) (next_bound (no_fault ws (pattern_of c) (whole_of ws +ℤ change_of c) a))
      by (Refused k i) a = rw (entry_leaves ws (pattern_of c) (whole_of ws +ℤ change_of c) a) (le-add_right (nat_abs (whole_of ws)) (most doubles))

-- ---- the range, H its bound on magnitudes
module _ (H : ℕ) (I : (z : ℤ) → nat_abs z < H → inside register_bits z ≡ true) (ws : List ℕ) (c : Change) (h : nat_abs (whole_of ws) + most doubles < H) where
  stays : fault_of doubles (pattern_of c) ≡ 0 → inside register_bits (whole_of ws +ℤ change_of c) ≡ true
  stays e = I (whole_of ws +ℤ change_of c) (lt_of_le_of_lt (next_bound ws c e) h)

module _ (ws : List ℕ) (c : Change) (stays : fault_of doubles (pattern_of c) ≡ 0 → inside register_bits (whole_of ws +ℤ change_of c) ≡ true) where
  no_nine : {a : Entry} → EntryWhen ws (pattern_of c) (whole_of ws +ℤ change_of c) a → a ≡ Refused 9 0 → ⊥
  no_nine (entered l e i) q = apart (cc)
  no_nine (wrong_length n) q = let f : ◌≡◌ {A = ℕ} 4 9 = cc in omega arith
  no_nine (bad_number l n) q =
      let f : fault_of doubles (pattern_of c) ≡ 9 = cc in
      elim (fault_number doubles (pattern_of c) n) [ inl e ↦ omega arith | inr e ↦ omega arith ]
  no_nine (out_of_range l e o) q = let i : inside register_bits (whole_of ws +ℤ change_of c) ≡ true = stays e in apart (cc)

module _ (H : ℕ) (I : (z : ℤ) → nat_abs z < H → inside register_bits z ≡ true) where
  enters : (ws : List ℕ) (cs : List Change) → length ws ≡ word_count → nat_abs (whole_of ws) + length cs * most doubles < H
      → Allowed doubles (map pattern_of cs) → AllEntered ws cs
  unfolding AllEntered
  enters ws [] l h A = tt
  enters ws (c ∷ cs) l h A = (head, enters (changed ws c).area cs long (omega (arith, change_bound ws c)) rest)
    where
      rest : Allowed doubles (map pattern_of cs)
      rest = record { none = λ j g. A.none (suc j) (omega arith) }

      first : fault_of doubles (pattern_of c) ≡ 0
      first = A.none 0 (omega arith)

      head : (changed ws c).answer ≡ Entered
      head = (entry_when ws (pattern_of c) (whole_of ws +ℤ change_of c) Entered).1 (entered l first (stays H I ws c (omega arith) first))

      long : length (changed ws c).area ≡ word_count
      long =
          ap length (entry_leaves ws (pattern_of c) (whole_of ws +ℤ change_of c) head)
          ∙ (cut_words word_bits word_count (whole_of ws +ℤ change_of c)).long

-- ---- from zero

pub zero_whole : whole_of zeros ≡ pos 0
unfolding number signed
zero_whole = refl

-- the words of zero, so that a run from them is one of words
zero_words : words_of (pos 0) ≡ zeros
unfolding digits residue
zero_words = refl

pub zeros_held : Held zeros
zeros_held = rw zero_words at (cut_words word_bits word_count (pos 0))

pub run_from_zero : (cs : List Change) → AllEntered zeros cs → whole_of (run zeros cs) ≡ exact_sum (map change_of cs)
run_from_zero cs A = run_whole zeros cs A ∙ ap (λ (z : ℤ). z +ℤ exact_sum (map change_of cs)) zero_whole ∙ +ℤ_idl (exact_sum (map change_of cs))

-- n calls from zero come to at most n * 2 ^ 2074 units, and 2 ^ 37 * 2 ^ 2074 is 2 ^ 2111
pub few_calls : (n : ℕ) → n < 2 ^ 37 → n * most doubles < 2 ^ (register_bits - 1)
few_calls n h = rw most_doubles (mul-lt-mul_of_pos_right h (pow_pos 2074))

-- ---- how many of the changes are of allowed numbers
module _ (c : Change) (cs : List Change) where
  pub allowed_one : fault_of doubles (pattern_of c) ≡ 0 → allowed_in (c ∷ cs) ≡ suc (allowed_in cs)
  unfolding filter
  allowed_one e = rw (eq-eqb (fault_of doubles (pattern_of c)) 0 e)

  pub allowed_rest : allowed_in cs ≤ allowed_in (c ∷ cs)
  unfolding filter
  allowed_rest = by (fault_free doubles (pattern_of c)) (filter (λ (d : Change). fault_free doubles (pattern_of d)) cs)
    where
      by : (b : Bool) (ds : List Change) → length ds ≤ length (cond b (c ∷ ds) ds)
      by true ds = omega arith
      by false ds = omega arith

pub allowed_most : (cs : List Change) → allowed_in cs ≤ length cs
allowed_most cs = omega (arith, filter_others (λ (c : Change). fault_free doubles (pattern_of c)) cs)

-- ---- fewer than 2 ^ 37 of them: the range is never left. n of them come to at most n times the limit.
module _ (ws : List ℕ) (c : Change) (cs : List Change) (n : ℕ) (b : nat_abs (whole_of ws) ≤ n * most doubles) (h : n + allowed_in (c ∷ cs) < 2 ^ 37) where
  one_more : fault_of doubles (pattern_of c) ≡ 0 → nat_abs (whole_of ws +ℤ change_of c) ≤ (n + 1) * most doubles
  one_more e = omega (arith, next_bound ws c e)

  one_more_stays : fault_of doubles (pattern_of c) ≡ 0 → inside register_bits (whole_of ws +ℤ change_of c) ≡ true
  one_more_stays e =
      let f : n + 1 < 2 ^ 37 = omega (arith, allowed_one c cs e) in
      inside_small register_bits (whole_of ws +ℤ change_of c) (lt_of_le_of_lt (one_more e) (few_calls (n + 1) f))

  not_out : (changed ws c).answer ≡ Refused 9 0 → ⊥
  not_out a = no_nine ws c one_more_stays ((entry_when ws (pattern_of c) (whole_of ws +ℤ change_of c) (Refused 9 0)).0 a) refl

  -- the words afterwards, and how many numbers they hold
  after_bound : (m : ℕ) × (nat_abs (whole_of (changed ws c).area) ≤ m * most doubles) × (m + allowed_in cs < 2 ^ 37)
  after_bound = by (changed ws c).answer refl
    where
      by : (a : Entry) → (changed ws c).answer ≡ a → (m : ℕ) × (nat_abs (whole_of (changed ws c).area) ≤ m * most doubles) × (m + allowed_in cs < 2 ^ 37)
      by Entered a =
          let e = no_fault ws (pattern_of c) (whole_of ws +ℤ change_of c) a in
          (n + 1, rw (change_whole ws c a) (one_more e), omega (arith, allowed_one c cs e))
      by (Refused k i) a = (n, rw (entry_leaves ws (pattern_of c) (whole_of ws +ℤ change_of c) a) b, omega (arith, allowed_rest c cs))

stays_in : (ws : List ℕ) (cs : List Change) (n : ℕ) → nat_abs (whole_of ws) ≤ n * most doubles → n + allowed_in cs < 2 ^ 37 → NeverOut ws cs
unfolding NeverOut
stays_in ws [] n b h = tt
stays_in ws (c ∷ cs) n b h =
    let m = after_bound ws c cs n b h in (not_out ws c cs n b h, stays_in (changed ws c).area cs m.0 m.1 m.2)

pub never_out : (cs : List Change) → allowed_in cs < 2 ^ 37 → NeverOut zeros cs
never_out cs h = stays_in zeros cs 0 (omega (arith, ap nat_abs zero_whole)) (omega arith)

-- so the last of fewer than 2 ^ 37 calls, whatever their numbers
last_not_out : (ws : List ℕ) (cs : List Change) (c : Change) → NeverOut ws (cs ++ (c ∷ [])) → (changed (run ws cs) c).answer ≡ Refused 9 0 → ⊥
unfolding NeverOut run
last_not_out ws [] c N = N.0
last_not_out ws (d ∷ cs) c N = last_not_out (changed ws d).area cs c N.1

pub never_nine : (cs : List Change) (c : Change) → length (c ∷ cs) < 2 ^ 37 → (changed (run zeros cs) c).answer ≡ Refused 9 0 → ⊥
never_nine cs c h =
    let all = cs ++ (c ∷ []) in last_not_out zeros cs c (never_out all (omega (arith, allowed_most all, length-append cs (c ∷ []))))

pub all_entered : (cs : List Change) → length cs < 2 ^ 37 → Allowed doubles (map pattern_of cs) → AllEntered zeros cs
all_entered cs h A =
    let small : nat_abs (whole_of zeros) + length cs * most doubles ≤ length cs * most doubles = omega (arith, ap nat_abs zero_whole) in
    enters (2 ^ (register_bits - 1)) (inside_small register_bits) zeros cs refl (lt_of_le_of_lt small (few_calls (length cs) h)) A

-- ---- a list added up from zero
pub patterns : (ps : List ℕ) → map pattern_of (map add ps) ≡ ps
patterns [] = refl
patterns (p ∷ ps) = ap (λ (qs : List ℕ). p ∷ qs) (patterns ps)

pub changes : (ps : List ℕ) → map change_of (map add ps) ≡ map (units_of doubles) ps
changes [] = refl
changes (p ∷ ps) = ap (λ (zs : List ℤ). units_of doubles p ∷ zs) (changes ps)

-- it comes to its exact sum
pub list_whole : (ps : List ℕ) → length ps < 2 ^ 37 → Allowed doubles ps → whole_of (run zeros (map add ps)) ≡ exact_sum (map (units_of doubles) ps)
list_whole ps h A =
    run_from_zero (map add ps) (all_entered (map add ps) (rw (length-map ps add) h) (rw (patterns ps) A)) ∙ ap exact_sum (changes ps)
