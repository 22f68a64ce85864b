-- Rooms that keep a register each: the merge of two histories is the history of both, and a number that joined in one room and left in the other is in
-- neither. Assumes nothing.
use Rattle.std.specs.Prelude.{◌≡◌, ℕ, ℤ, ◌+ℤ◌, length}
use Rattle.std.proofs.Common.{sym, ap, ◌∙◌, lit<}
use mathlib.Core.List.{List, [], ◌∷◌, ◌++◌, map, map-append, append_assoc}
use Rattle.std.proofs.Math.IntN.{+ℤ_assoc, +ℤ_comm}
use Rattle.units.specs.Whole.{exact_sum}
use Rattle.units.proofs.ExactSum.{sum_append}
use Rattle.lists.proofs.SignedDigits.{cut_whole, whole_inside}
use Rattle.kinds.specs.Outcome.{outcome}
use Rattle.kinds.specs.Entry.{Entered}
use Rattle.words.specs.Words.{word_bits, word_count, whole_of, words_of}
use Rattle.addend.specs.Addend.{Held}
use Rattle.register.specs.Register.{added, withdrawn}
use Rattle.register.specs.Entries.{Change, add, withdraw, change_of, run, AllEntered, zeros}
use Rattle.register.proofs.RunLaws.{run_whole, run_from_zero, zeros_held}
use Rattle.register.specs.Farewell.{history, stayed}
use Rattle.register.proofs.Farewell.{run_held, gone}
use Rattle.register.specs.Merge.{merged}
use Rattle.register.proofs.MergeLaws.{merged_in, merge_same}

-- what a list of calls adds
abbrev changes_of : List Change → ℤ
changes_of cs = exact_sum (map change_of cs)

together : (cs ds : List Change) → changes_of (cs ++ ds) ≡ changes_of cs +ℤ changes_of ds
together cs ds = ap exact_sum (map-append change_of cs ds) ∙ sum_append (map change_of cs) (map change_of ds)

-- four numbers in a sum
in_pairs : (u x v y : ℤ) → u +ℤ x +ℤ (v +ℤ y) ≡ u +ℤ v +ℤ (x +ℤ y)
in_pairs u x v y =
    +ℤ_assoc u x (v +ℤ y)
    ∙ ap (λ (z : ℤ). u +ℤ z) (sym (+ℤ_assoc x v y) ∙ ap (λ (z : ℤ). z +ℤ y) (+ℤ_comm x v) ∙ +ℤ_assoc v x y)
    ∙ sym (+ℤ_assoc u v (x +ℤ y))

-- ---- two rooms from zero: the merge is accepted, and has the words of one register that took all calls
module _ (cs ds : List Change) (out : List ℕ) (l : length out ≡ word_count) where
  pub merge_runs : AllEntered zeros cs → AllEntered zeros ds → AllEntered zeros (cs ++ ds)
      → merged (run zeros cs) (run zeros ds) out ≡ outcome Entered (run zeros (cs ++ ds))
  merge_runs A B C =
      merged_in (run zeros cs) (run zeros ds) out
      (record { first = (run_held zeros cs zeros_held).long; second = (run_held zeros ds zeros_held).long; third = l })
      (rw whole (whole_inside word_bits word_count (lit< tt) all))
      ∙ ap (outcome Entered) (ap words_of whole ∙ cut_whole word_bits word_count (lit< tt) all)
    where
      all : Held (run zeros (cs ++ ds))
      all = run_held zeros (cs ++ ds) zeros_held

      whole : whole_of (run zeros cs) +ℤ whole_of (run zeros ds) ≡ whole_of (run zeros (cs ++ ds))
      whole = (λ i. run_from_zero cs A i +ℤ run_from_zero ds B i) ∙ sym (together cs ds) ∙ sym (run_from_zero (cs ++ ds) C)

-- ---- two rooms from any registers: what matters is what was added in all, less what was withdrawn
module _ {us vs : List ℕ} (U : Held us) (W : Held vs) (out : List ℕ) where
  pub rooms_same : (cs ds es fs : List Change) → AllEntered us cs → AllEntered vs ds → AllEntered us es → AllEntered vs fs
      → exact_sum (map change_of (cs ++ ds)) ≡ exact_sum (map change_of (es ++ fs)) → merged (run us cs) (run vs ds) out ≡ merged (run us es) (run vs fs) out
  rooms_same cs ds es fs A B C D e =
      merge_same (run us cs) (run vs ds) (run us es) (run vs fs) out
      (λ T. record { first = (run_held us es U).long; second = (run_held vs fs W).long; third = T.third })
      (λ T. record { first = (run_held us cs U).long; second = (run_held vs ds W).long; third = T.third })
      (all cs ds A B ∙ ap (λ (z : ℤ). whole_of us +ℤ whole_of vs +ℤ z) e ∙ sym (all es fs C D))
    where
      all : (gs hs : List Change) → AllEntered us gs → AllEntered vs hs
          → whole_of (run us gs) +ℤ whole_of (run vs hs) ≡ whole_of us +ℤ whole_of vs +ℤ changes_of (gs ++ hs)
      all gs hs A B =
          (λ i. run_whole us gs A i +ℤ run_whole vs hs B i)
          ∙ in_pairs (whole_of us) (changes_of gs) (whole_of vs) (changes_of hs)
          ∙ ap (λ (z : ℤ). whole_of us +ℤ whole_of vs +ℤ z) (sym (together gs hs))

  -- rule G8: p joins in one room and leaves in the other, and the merge is that of the same histories without p
  pub rooms_farewell : (xs ys zs ws : List Change) (p : ℕ) → AllEntered us (xs ++ (add p ∷ ys)) → AllEntered vs (zs ++ (withdraw p ∷ ws))
      → AllEntered us (xs ++ ys) → AllEntered vs (zs ++ ws)
      → merged (run us (xs ++ (add p ∷ ys))) (run vs (zs ++ (withdraw p ∷ ws))) out ≡ merged (run us (xs ++ ys)) (run vs (zs ++ ws)) out
  rooms_farewell xs ys zs ws p A B C D =
      rooms_same (xs ++ (add p ∷ ys)) (zs ++ (withdraw p ∷ ws)) (xs ++ ys) (zs ++ ws) A B C D
      (ap changes_of joined ∙ gone xs (ys ++ zs) ws p ∙ ap changes_of (sym without))
    where
      joined : (xs ++ (add p ∷ ys)) ++ (zs ++ (withdraw p ∷ ws)) ≡ history xs (ys ++ zs) ws p
      joined = simp append_assoc

      without : (xs ++ ys) ++ (zs ++ ws) ≡ stayed xs (ys ++ zs) ws
      without = simp append_assoc

  pub rooms_undo : (p : ℕ) → (added us p).answer ≡ Entered → (withdrawn vs p).answer ≡ Entered
      → merged (added us p).area (withdrawn vs p).area out ≡ merged us vs out
  unfolding run AllEntered
  rooms_undo p A B = rooms_farewell [] [] [] [] p (A, tt) (B, tt) tt tt
