-- A merge: each answer is given exactly when the table says, a refused one leaves the area, and the third register's whole number is the sum of the two.
-- It doesn't matter which of the two comes first, nor how three are grouped, and a register of zeros changes nothing. Assumes nothing.
use Rattle.std.specs.Prelude.{◌≡◌, refl, ◌↔◌, ◌⊎◌, Bool, true, false, cond, not, List, ℕ, ℤ, ◌+ℤ◌, length}
use Rattle.std.proofs.Common.{sym, ap, ◌∙◌, inl, inr, lit<}
use Rattle.std.proofs.Math.Dec.{T}
use Rattle.std.proofs.Math.IntN.{+ℤ_idr, +ℤ_comm, +ℤ_assoc}
use Rattle.lists.proofs.Apart.{apart}
use Rattle.lists.specs.Digits.{inside}
use Rattle.lists.proofs.SignedDigits.{cut_words, cut_whole, whole_cut, whole_inside}
use Rattle.kinds.proofs.Hearing.{exactly}
use Rattle.kinds.specs.Outcome.{outcome}
use Rattle.kinds.specs.Entry.{Entry}
use Rattle.kinds.specs.Entry.{Refused, Entered}
use Rattle.words.specs.Words.{word_bits, word_count, register_bits, whole_of, words_of}
use Rattle.addend.specs.Addend.{Held}
use Rattle.register.specs.Register.{Changed}
use Rattle.register.specs.Entries.{afterwards, zeros}
use Rattle.register.proofs.RunLaws.{zero_whole}
use Rattle.register.specs.Merge.{right_lengths, merged, ThreeRegisters, MergeWhen, merges, wrong_length, out_of_range}
use Rattle.register.proofs.ThreeLengths.{lengths_right, right_lengths_lem}

-- what is left to ask of a sum z once the lengths are right
abbrev fitted : List ℕ → ℤ → Changed
fitted out z = cond (not (inside register_bits z)) (outcome (Refused 9 0) out) (outcome Entered (words_of z))

module _ (us vs out : List ℕ) where
  three? : ThreeRegisters us vs out ⊎ (ThreeRegisters us vs out → ⊥)
  three? = by (right_lengths us vs out) refl
    where
      by : (b : Bool) → right_lengths us vs out ≡ b → ThreeRegisters us vs out ⊎ (ThreeRegisters us vs out → ⊥)
      by true e = inl (right_lengths_lem us vs out e)
      by false e = inr (λ T. let t : right_lengths us vs out ≡ true = lengths_right us vs out T in apart (cc))

  merged_fitted : ThreeRegisters us vs out → merged us vs out ≡ fitted out (whole_of us +ℤ whole_of vs)
  unfolding merged
  merged_fitted T = rw (lengths_right us vs out T)

  pub merged_wrong : right_lengths us vs out ≡ false → merged us vs out ≡ outcome (Refused 4 0) out
  unfolding merged
  merged_wrong e = rw e

  pub merged_long : (ThreeRegisters us vs out → ⊥) → merged us vs out ≡ outcome (Refused 4 0) out
  merged_long N = by (right_lengths us vs out) refl
    where
      by : (b : Bool) → right_lengths us vs out ≡ b → merged us vs out ≡ outcome (Refused 4 0) out
      by true e = absurd (N (right_lengths_lem us vs out e))
      by false e = merged_wrong e

  pub merged_out : ThreeRegisters us vs out → inside register_bits (whole_of us +ℤ whole_of vs) ≡ false → merged us vs out ≡ outcome (Refused 9 0) out
  merged_out T h = merged_fitted T ∙ rw h

  pub merged_in : ThreeRegisters us vs out → inside register_bits (whole_of us +ℤ whole_of vs) ≡ true
      → merged us vs out ≡ outcome Entered (words_of (whole_of us +ℤ whole_of vs))
  merged_in T h = merged_fitted T ∙ rw h

  -- ---- the table
  row : {a : Entry} → MergeWhen us vs out a → merged us vs out ≡ outcome a (afterwards out (whole_of us +ℤ whole_of vs) a)
  row (merges T h) = merged_in T h
  row (wrong_length n) = merged_long n
  row (out_of_range T h) = merged_out T h

  some_row : (a : Entry) × MergeWhen us vs out a
  some_row = elim three? [ inr n ↦ (Refused 4 0, wrong_length n) | inl T ↦ by_range T (inside register_bits (whole_of us +ℤ whole_of vs)) refl ]
    where
      by_range : ThreeRegisters us vs out → (b : Bool) → inside register_bits (whole_of us +ℤ whole_of vs) ≡ b → (a : Entry) × MergeWhen us vs out a
      by_range T true h = (Entered, merges T h)
      by_range T false h = (Refused 9 0, out_of_range T h)

  -- each answer is given exactly when the table says
  pub merge_when : (a : Entry) → ((merged us vs out).answer ≡ a) ↔ MergeWhen us vs out a
  merge_when = exactly (merged us vs out).answer (MergeWhen us vs out) (λ a r. ap (λ (o : Changed). o.answer) (row r)) some_row

  -- and the area is left as it says
  pub merge_leaves : {a : Entry} → (merged us vs out).answer ≡ a → (merged us vs out).area ≡ afterwards out (whole_of us +ℤ whole_of vs) a
  merge_leaves {a} e = ap (λ (o : Changed). o.area) (row ((merge_when a).0 e))

  -- ---- an accepted merge
  module _ (a : (merged us vs out).answer ≡ Entered) where
    pub merge_three : ThreeRegisters us vs out
    merge_three = go ((merge_when Entered).0 a)
      where
        go : MergeWhen us vs out Entered → ThreeRegisters us vs out
        go (merges T h) = T

    -- rule G7
    pub merge_whole : whole_of (merged us vs out).area ≡ whole_of us +ℤ whole_of vs
    merge_whole = ap whole_of (merge_leaves a) ∙ whole_cut word_bits word_count (lit< tt) (whole_of us +ℤ whole_of vs) (range ((merge_when Entered).0 a))
      where
        range : MergeWhen us vs out Entered → inside register_bits (whole_of us +ℤ whole_of vs) ≡ true
        range (merges T h) = h

    pub merge_held : Held (merged us vs out).area
    merge_held = rw (merge_leaves a) (cut_words word_bits word_count (whole_of us +ℤ whole_of vs))

-- ---- two merges of the same whole numbers in all are the same, refused ones too
pub merge_same : (us vs ws xs out : List ℕ) → (ThreeRegisters us vs out → ThreeRegisters ws xs out) → (ThreeRegisters ws xs out → ThreeRegisters us vs out)
    → whole_of us +ℤ whole_of vs ≡ whole_of ws +ℤ whole_of xs → merged us vs out ≡ merged ws xs out
merge_same us vs ws xs out there back e = elim (three? us vs out) [
  | inl T ↦ merged_fitted us vs out T ∙ ap (fitted out) e ∙ sym (merged_fitted ws xs out (there T))
  | inr N ↦ merged_long us vs out N ∙ sym (merged_long ws xs out (λ T. N (back T)))
]

-- ---- rule G8: whichever comes first
pub merge_commutes : (us vs out : List ℕ) → merged us vs out ≡ merged vs us out
merge_commutes us vs out = merge_same us vs vs us out (turned us vs) (turned vs us) (+ℤ_comm (whole_of us) (whole_of vs))
  where
    turned : (us vs : List ℕ) → ThreeRegisters us vs out → ThreeRegisters vs us out
    turned us vs T = record { first = T.second; second = T.first; third = T.third }

-- and however three are grouped, where the two inner merges are accepted: then the outer ones are accepted or refused alike, and leave the same. That both
-- inner ones are has to be asked: of the largest register, one unit and -1 unit the first two are refused with 9, and the last two aren't.
pub merge_grouped : (us vs ws a b out : List ℕ) → (merged us vs a).answer ≡ Entered → (merged vs ws b).answer ≡ Entered
    → merged (merged us vs a).area ws out ≡ merged us (merged vs ws b).area out
merge_grouped us vs ws a b out A B =
    merge_same (merged us vs a).area ws us (merged vs ws b).area out
    (λ T. record { first = (merge_three us vs a A).first; second = (merge_held vs ws b B).long; third = T.third })
    (λ T. record { first = (merge_held us vs a A).long; second = (merge_three vs ws b B).second; third = T.third })
    (ap (λ (z : ℤ). z +ℤ whole_of ws) (merge_whole us vs a A)
    ∙ +ℤ_assoc (whole_of us) (whole_of vs) (whole_of ws)
    ∙ ap (λ (z : ℤ). whole_of us +ℤ z) (sym (merge_whole vs ws b B)))

-- ---- and zeros change nothing
module _ {us : List ℕ} (U : Held us) (out : List ℕ) (l : length out ≡ word_count) where
  pub merge_zeros : merged us zeros out ≡ outcome Entered us
  merge_zeros =
      merged_in us zeros out (record { first = U.long; second = refl; third = l }) (rw same (whole_inside word_bits word_count (lit< tt) U))
      ∙ ap (outcome Entered) (ap words_of same ∙ cut_whole word_bits word_count (lit< tt) U)
    where
      same : whole_of us +ℤ whole_of zeros ≡ whole_of us
      same = ap (λ (z : ℤ). whole_of us +ℤ z) zero_whole ∙ +ℤ_idr (whole_of us)

  pub zeros_merge : merged zeros us out ≡ outcome Entered us
  zeros_merge = merge_commutes zeros us out ∙ merge_zeros
