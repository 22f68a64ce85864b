-- Histories with refused calls between: a refused call changes nothing, so that a history leaves what its accepted calls leave; and a number that joined and
-- left leaves no trace in them. Assumes nothing.
use Rattle.std.specs.Prelude.{◌≡◌, refl, List, [], ◌∷◌, ◌++◌, map, ℕ, ◌+ℤ◌}
use Rattle.std.proofs.Common.{sym, ap, subst, ◌∙◌}
use Rattle.units.specs.Whole.{exact_sum}
use Rattle.words.specs.Words.{whole_of, words_of}
use Rattle.kinds.specs.Entry.{Entry}
use Rattle.kinds.specs.Entry.{Refused, Entered}
use Rattle.addend.specs.Addend.{Held}
use Rattle.register.specs.Entries.{Change, add, withdraw, pattern_of, change_of, changed, run, AllEntered, keep, entered_of}
use Rattle.register.proofs.RegisterLaws.{entry_leaves}
use Rattle.register.proofs.RunLaws.{run_whole}
use Rattle.register.specs.Farewell.{history, stayed}
use Rattle.register.proofs.Farewell.{farewell_words}

-- a refused call leaves the words
still : (ws : List ℕ) (c : Change) (k i : ℕ) → (changed ws c).answer ≡ Refused k i → (changed ws c).area ≡ ws
still ws c k i e = entry_leaves ws (pattern_of c) (whole_of ws +ℤ change_of c) e

pub run_entered : (ws : List ℕ) (cs : List Change) → run ws (entered_of ws cs) ≡ run ws cs
unfolding run entered_of
run_entered ws [] = refl
run_entered ws (c ∷ cs) = go (changed ws c).answer refl (run_entered (changed ws c).area cs)
  where
    next : List ℕ
    next = (changed ws c).area

    go : (a : Entry) → (changed ws c).answer ≡ a → run next (entered_of next cs) ≡ run next cs → run ws (keep a c (entered_of next cs)) ≡ run next cs
    go Entered e rest = rest
    go (Refused k i) e rest = subst (λ (v : List ℕ). run v (entered_of next cs) ≡ run next cs) (still ws c k i e) rest

pub all_entered_of : (ws : List ℕ) (cs : List Change) → AllEntered ws (entered_of ws cs)
unfolding AllEntered entered_of
all_entered_of ws [] = tt
all_entered_of ws (c ∷ cs) = go (changed ws c).answer refl (all_entered_of (changed ws c).area cs)
  where
    next : List ℕ
    next = (changed ws c).area

    go : (a : Entry) → (changed ws c).answer ≡ a → AllEntered next (entered_of next cs) → AllEntered ws (keep a c (entered_of next cs))
    go Entered e rest = (e, rest)
    go (Refused k i) e rest = subst (λ (v : List ℕ). AllEntered v (entered_of next cs)) (still ws c k i e) rest

-- ---- rule D2: the register holds the whole number itself, through whatever is called
pub history_whole : (ws : List ℕ) (cs : List Change) → whole_of (run ws cs) ≡ whole_of ws +ℤ exact_sum (map change_of (entered_of ws cs))
history_whole ws cs = ap whole_of (sym (run_entered ws cs)) ∙ run_whole ws (entered_of ws cs) (all_entered_of ws cs)

-- ---- rule G6 with refused calls between: p joins after xs and leaves after ys
entered_after : (ws : List ℕ) (xs cs : List Change) → entered_of ws (xs ++ cs) ≡ entered_of ws xs ++ entered_of (run ws xs) cs
unfolding run entered_of
entered_after ws [] cs = refl
entered_after ws (x ∷ xs) cs = ap (keep (changed ws x).answer x) (entered_after (changed ws x).area xs cs) ∙ go (changed ws x).answer
  where
    go : (a : Entry) → keep a x (entered_of (changed ws x).area xs ++ entered_of (run (changed ws x).area xs) cs)
        ≡ keep a x (entered_of (changed ws x).area xs) ++ entered_of (run (changed ws x).area xs) cs
    go Entered = refl
    go (Refused k i) = refl

entered_first : (ws : List ℕ) (c : Change) (cs : List Change) → (changed ws c).answer ≡ Entered → entered_of ws (c ∷ cs) ≡ c ∷ entered_of (changed ws c).area cs
unfolding entered_of
entered_first ws c cs e = rw e

module _ (ws : List ℕ) (xs ys zs : List Change) (p : ℕ) where
  -- the words as p joins, once it has joined, as it leaves, and once it has left
  abbrev joins : List ℕ
  joins = run ws xs

  abbrev with_p : List ℕ
  with_p = (changed joins (add p)).area

  abbrev leaves : List ℕ
  leaves = run with_p ys

  abbrev without_p : List ℕ
  without_p = (changed leaves (withdraw p)).area

  pub farewell_any : Held ws → (changed joins (add p)).answer ≡ Entered → (changed leaves (withdraw p)).answer ≡ Entered
      → run ws (history xs ys zs p)
      ≡ words_of (whole_of ws +ℤ exact_sum (map change_of (stayed (entered_of ws xs) (entered_of with_p ys) (entered_of without_p zs))))
  farewell_any H a b =
      let parts = history (entered_of ws xs) (entered_of with_p ys) (entered_of without_p zs) p in
      let e : entered_of ws (history xs ys zs p) ≡ parts =
      entered_after ws xs (add p ∷ (ys ++ (withdraw p ∷ zs)))
      ∙ ap (λ (l : List Change). entered_of ws xs ++ l) (
      entered_first joins (add p) (ys ++ (withdraw p ∷ zs)) a
      ∙ ap (λ (l : List Change). add p ∷ l) (
      entered_after with_p ys (withdraw p ∷ zs) ∙ ap (λ (l : List Change). entered_of with_p ys ++ l) (entered_first leaves (withdraw p) zs b)
      )
      ) in
      sym (run_entered ws (history xs ys zs p))
      ∙ ap (run ws) e
      ∙ farewell_words ws (entered_of ws xs) (entered_of with_p ys) (entered_of without_p zs) p H
      (subst (AllEntered ws) e (all_entered_of ws (history xs ys zs p)))
