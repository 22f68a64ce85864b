-- The farewell: a run's words depend on what was added less what was withdrawn and on nothing else, so that a number that was added and withdrawn leaves the
-- words of a history without it. Assumes nothing.
use Rattle.std.specs.Prelude.{◌≡◌, List, [], ◌∷◌, ◌++◌, map, ℕ, ℤ, neg_ℤ, ◌+ℤ◌, ◌-ℤ◌}
use Rattle.std.proofs.Common.{sym, ap, ◌∙◌, lit<}
use Rattle.std.proofs.Math.IntN.{+ℤ_assoc, +ℤ_comm, -ℤ-+ℤ_cancel}
use Rattle.units.specs.Whole.{exact_sum}
use Rattle.lists.proofs.SignedDigits.{cut_whole}
use Rattle.words.specs.Words.{word_bits, word_count, whole_of, words_of}
use Rattle.kinds.specs.Limits.{doubles}
use Rattle.addend.specs.Addend.{units_of, Held}
use Rattle.register.specs.Entries.{Change, withdraw, pattern_of, change_of, changed, run, AllEntered}
use Rattle.register.proofs.RegisterLaws.{held_after}
use Rattle.register.proofs.RunLaws.{run_whole}
use Rattle.register.specs.Farewell.{history, stayed}

pub run_held : (ws : List ℕ) (cs : List Change) → Held ws → Held (run ws cs)
unfolding run
run_held ws [] H = H
run_held ws (c ∷ cs) H = run_held (changed ws c).area cs (held_after ws (pattern_of c) (whole_of ws +ℤ change_of c) H)

module _ (ws : List ℕ) (H : Held ws) where
  run_words : (cs : List Change) → AllEntered ws cs → run ws cs ≡ words_of (whole_of ws +ℤ exact_sum (map change_of cs))
  run_words cs A = sym (cut_whole word_bits word_count (lit< tt) (run_held ws cs H)) ∙ ap words_of (run_whole ws cs A)

  -- two histories with the same changes in all end in the same words
  pub run_same : (cs ds : List Change) → AllEntered ws cs → AllEntered ws ds → exact_sum (map change_of cs) ≡ exact_sum (map change_of ds)
      → run ws cs ≡ run ws ds
  run_same cs ds A B e = run_words cs A ∙ ap (λ (z : ℤ). words_of (whole_of ws +ℤ z)) e ∙ sym (run_words ds B)

pub gone : (xs ys zs : List Change) (p : ℕ) → exact_sum (map change_of (history xs ys zs p)) ≡ exact_sum (map change_of (stayed xs ys zs))
gone (x ∷ xs) ys zs p = ap (λ (z : ℤ). change_of x +ℤ z) (gone xs ys zs p)
gone [] ys zs p =
    ap (λ (z : ℤ). units_of doubles p +ℤ z) (leaves ys)
    ∙ +ℤ_comm (units_of doubles p) (exact_sum (map change_of (ys ++ zs)) -ℤ units_of doubles p)
    ∙ -ℤ-+ℤ_cancel (exact_sum (map change_of (ys ++ zs))) (units_of doubles p)
  where
    leaves : (ys : List Change) → exact_sum (map change_of (ys ++ (withdraw p ∷ zs))) ≡ exact_sum (map change_of (ys ++ zs)) -ℤ units_of doubles p
    leaves [] = +ℤ_comm (neg_ℤ (units_of doubles p)) (exact_sum (map change_of zs))
    leaves (y ∷ ys) = ap (λ (z : ℤ). change_of y +ℤ z) (leaves ys)
        ∙ sym (+ℤ_assoc (change_of y) (exact_sum (map change_of (ys ++ zs))) (neg_ℤ (units_of doubles p)))

-- after it the words are those of what stayed
pub farewell_words : (ws : List ℕ) (xs ys zs : List Change) (p : ℕ) → Held ws → AllEntered ws (history xs ys zs p)
    → run ws (history xs ys zs p) ≡ words_of (whole_of ws +ℤ exact_sum (map change_of (stayed xs ys zs)))
farewell_words ws xs ys zs p H A = run_words ws H (history xs ys zs p) A ∙ ap (λ (z : ℤ). words_of (whole_of ws +ℤ z)) (gone xs ys zs p)

-- and all are those of the same history without p. That no call of it refuses has to be asked: at the largest register, with p = -1 unit, a unit can be added
-- and withdrawn again after p has joined, and not without it.
pub farewell : (ws : List ℕ) (xs ys zs : List Change) (p : ℕ) → Held ws → AllEntered ws (history xs ys zs p) → AllEntered ws (stayed xs ys zs)
    → run ws (history xs ys zs p) ≡ run ws (stayed xs ys zs)
farewell ws xs ys zs p H A B = run_same ws H (history xs ys zs p) (stayed xs ys zs) A B (gone xs ys zs p)
