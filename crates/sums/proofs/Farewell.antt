-- The farewell and the sum: rounding a register from which a number was withdrawn gives the nearest sum of what stayed, where that isn't nothing but -0: a
-- register knows no -0. Assumes nothing.
use Rattle.std.specs.Prelude.{◌≡◌, List, [], ◌∷◌, ◌++◌, map, true, ℕ, ◌+◌, ◌≤◌, ◌<◌, length, nat_abs}
use Rattle.std.proofs.Common.{sym, ap, ◌∙◌, append-nil, lt_of_le_of_lt, arith, lit<, length-append}
use Rattle.std.proofs.lemmas.List.{map-append, length-map}
use Rattle.units.specs.Whole.{exact_sum}
use Rattle.ieee.specs.Units.{limit, nearest_float}
use Rattle.kinds.specs.Limits.{doubles}
use Rattle.kinds.specs.Nearest.{Sum}
use Rattle.kinds.specs.Verdict.{Good}
use Rattle.judge.specs.Table.{Allowed, ListWhen, MinusZeros, allowed}
use Rattle.judge.proofs.AllowedLaws.{allowed_none, allowed_first, allowed_rest, allowed_more, allowed_join, allowed_left, allowed_right}
use Rattle.judge.proofs.JudgeLaws.{list_when, list_passed, list_allowed}
use Rattle.judge.proofs.ZeroLaws.{zero_plus}
use Rattle.words.specs.Words.{whole_of}
use Rattle.register.specs.Register.{rounded}
use Rattle.register.specs.Entries.{Change, add, withdraw, pattern_of, change_of, run, AllEntered, zeros}
use Rattle.register.proofs.RunLaws.{run_from_zero, zeros_held, all_entered, patterns, changes}
use Rattle.register.proofs.RoundedLaws.{rounded_sum}
use Rattle.register.specs.Farewell.{history, stayed}
use Rattle.register.proofs.Farewell.{gone, run_held}
use Rattle.sums.specs.Sums.{sum_of, nearest_of}
use Rattle.sums.proofs.SumLaws.{sums_doubles, sum_below_limit}
use Rattle.sums.proofs.AnswerLaws.{nearest_good}

-- qs is a list of what stayed: an accepted list with the exact sum of the history without p
pub farewell_rounds : (xs ys zs : List Change) (p : ℕ) (qs : List ℕ) → AllEntered zeros (history xs ys zs p) → ListWhen doubles true true qs Good
    → (MinusZeros doubles qs → ⊥) → exact_sum (map change_of (stayed xs ys zs)) ≡ sum_of doubles.format qs
    → rounded (run zeros (history xs ys zs p)) ≡ nearest_of doubles qs
farewell_rounds xs ys zs p qs A G n e =
    let f = doubles.format in
    let cs = history xs ys zs p in
    let whole : whole_of (run zeros cs) ≡ sum_of f qs = run_from_zero cs A ∙ gone xs ys zs p ∙ e in
    let small : nat_abs (whole_of (run zeros cs)) < limit f = rw whole (sum_below_limit sums_doubles (list_passed G).few (list_allowed G)) in
    rounded_sum (run zeros cs) (run_held zeros cs zeros_held).long small
    ∙ (λ i. Sum (nearest_float f (sym ((zero_plus doubles qs).1 n) i) (whole i)))
    ∙ sym (nearest_good doubles qs ((list_when doubles true true qs Good).1 G))

-- ---- an accepted list split at the leaver: all of it joins, then p leaves. Nothing else has to be asked: what stayed is accepted too.
module _ (ps qs : List ℕ) (p : ℕ) (G : ListWhen doubles true true (ps ++ (p ∷ qs)) Good) where
  allowed_all : Allowed doubles (ps ++ (p ∷ qs))
  allowed_all = list_allowed G

  -- the calls
  abbrev pub joined_and_left : List Change
  joined_and_left = history (map add ps) (map add qs) [] p

  calls_length : length joined_and_left ≡ length (ps ++ (p ∷ qs)) + 1
  calls_length = simp (length-append, length-map) (omega arith)

  short : length joined_and_left ≤ 4095
  short = omega (arith, calls_length, (list_passed G).few)

  calls_patterns : Allowed doubles (map pattern_of joined_and_left)
  calls_patterns =
      rw (
        map-append pattern_of (map add ps) (add p ∷ (map add qs ++ (withdraw p ∷ []))),
        map-append pattern_of (map add qs) (withdraw p ∷ []),
        patterns ps,
        patterns qs,
      )
      (allowed_join ps (allowed_left ps (p ∷ qs) allowed_all)
      (allowed_more (allowed_first rest) (allowed_join qs (allowed_rest rest) (allowed_more (allowed_first rest) allowed_none))))
    where
      rest : Allowed doubles (p ∷ qs)
      rest = allowed_right ps (p ∷ qs) allowed_all

  stayed_sum : exact_sum (map change_of (stayed (map add ps) (map add qs) [])) ≡ sum_of doubles.format (ps ++ qs)
  stayed_sum = rw (append-nil (map add qs), ← (map-append add ps qs)) (ap exact_sum (changes (ps ++ qs)))

  stayed_good : ListWhen doubles true true (ps ++ qs) Good
  stayed_good = allowed
      (record { few = omega (arith, (list_passed G).few, length-append ps (p ∷ qs), length-append ps qs); right_area = tt; right_parts = tt })
      (allowed_join ps (allowed_left ps (p ∷ qs) allowed_all) (allowed_rest (allowed_right ps (p ∷ qs) allowed_all)))

  pub farewell_list : (MinusZeros doubles (ps ++ qs) → ⊥) → rounded (run zeros joined_and_left) ≡ nearest_of doubles (ps ++ qs)
  farewell_list n =
      farewell_rounds (map add ps) (map add qs) [] p (ps ++ qs)
      (all_entered joined_and_left (lt_of_le_of_lt short (lit< tt)) calls_patterns)
      stayed_good n stayed_sum
