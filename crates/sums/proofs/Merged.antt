-- Rule G9: rooms that each added a list to an empty register, merged and rounded, give the nearest sum of both lists together; and so do any number of sites.
-- Assumes nothing.
use Rattle.std.specs.Prelude.{◌≡◌, refl, true, ℕ, ◌+◌, ◌≤◌, ◌<◌, length, nat_abs}
use Rattle.std.proofs.Common.{sym, ap, ◌∙◌, lt_of_le_of_lt, arith, lit<, length-append}
use mathlib.Core.List.{List, [], ◌∷◌, ◌++◌, map, map-append, flatten}
use Rattle.std.proofs.lemmas.List.{length-map}
use Rattle.ieee.specs.Units.{limit, nearest_float}
use Rattle.lists.specs.Each.{Each}
use Rattle.kinds.specs.Limits.{doubles}
use Rattle.kinds.specs.Outcome.{outcome}
use Rattle.kinds.specs.Entry.{Entered}
use Rattle.kinds.specs.Nearest.{Sum}
use Rattle.kinds.specs.Verdict.{Good}
use Rattle.judge.specs.Table.{Allowed, ListWhen, MinusZeros}
use Rattle.judge.proofs.AllowedLaws.{allowed_left, allowed_right}
use Rattle.judge.proofs.JudgeLaws.{list_when, list_passed, list_allowed}
use Rattle.judge.proofs.ZeroLaws.{zero_plus}
use Rattle.words.specs.Words.{word_count, whole_of}
use Rattle.register.specs.Register.{Changed, rounded}
use Rattle.register.specs.Entries.{Change, add, run, AllEntered, zeros}
use Rattle.register.proofs.RunLaws.{all_entered, patterns, list_whole, zeros_held}
use Rattle.register.proofs.RoundedLaws.{rounded_sum}
use Rattle.register.proofs.Farewell.{run_held}
use Rattle.register.specs.Merge.{merged, Sites, total_of, AllMerged, registers_of}
use Rattle.register.proofs.Rooms.{merge_runs}
use Rattle.register.proofs.SitesLaws.{sites_run}
use Rattle.sums.specs.Sums.{sum_of, nearest_of}
use Rattle.sums.proofs.SumLaws.{sums_doubles, sum_below_limit}
use Rattle.sums.proofs.AnswerLaws.{nearest_good}
use Rattle.sums.specs.Merged.{added_up}

enters : (ps : List ℕ) → length ps ≤ doubles.length → Allowed doubles ps → AllEntered zeros (map add ps)
enters ps h A = all_entered (map add ps) (rw (length-map ps add) (lt_of_le_of_lt h (lit< tt))) (rw (patterns ps) A)

-- one register: rounded, the nearest sum of its list. Of nothing but -0 that would be -0, and a register knows none.
pub added_nearest : (ps : List ℕ) → ListWhen doubles true true ps Good → (MinusZeros doubles ps → ⊥) → rounded (added_up ps) ≡ nearest_of doubles ps
added_nearest ps G n =
    let f = doubles.format in
    let whole : whole_of (added_up ps) ≡ sum_of f ps = list_whole ps (lt_of_le_of_lt (list_passed G).few (lit< tt)) (list_allowed G) in
    let small : nat_abs (whole_of (added_up ps)) < limit f = rw whole (sum_below_limit sums_doubles (list_passed G).few (list_allowed G)) in
    rounded_sum (added_up ps) (run_held zeros (map add ps) zeros_held).long small
    ∙ (λ i. Sum (nearest_float f (sym ((zero_plus doubles ps).1 n) i) (whole i)))
    ∙ sym (nearest_good doubles ps ((list_when doubles true true ps Good).1 G))

-- ---- two rooms. Nothing is asked of the merge: of an accepted list it is accepted.
module _ (ps qs out : List ℕ) (l : length out ≡ word_count) (G : ListWhen doubles true true (ps ++ qs) Good) where
  pub merged_lists : merged (added_up ps) (added_up qs) out ≡ outcome Entered (added_up (ps ++ qs))
  merged_lists =
      merge_runs (map add ps) (map add qs) out l
      (enters ps (omega (arith, long, (list_passed G).few)) (allowed_left ps qs (list_allowed G)))
      (enters qs (omega (arith, long, (list_passed G).few)) (allowed_right ps qs (list_allowed G)))
      (rw (map-append add ps qs) at (enters (ps ++ qs) (list_passed G).few (list_allowed G)))
      ∙ ap (λ (cs : List Change). outcome Entered (run zeros cs)) (sym (map-append add ps qs))
    where
      long : length (ps ++ qs) ≡ length ps + length qs
      long = length-append ps qs

  pub merged_nearest : (MinusZeros doubles (ps ++ qs) → ⊥) → rounded (merged (added_up ps) (added_up qs) out).area ≡ nearest_of doubles (ps ++ qs)
  merged_nearest n = ap (λ (c : Changed). rounded c.area) merged_lists ∙ added_nearest (ps ++ qs) G n

-- ---- many sites, in any grouping where no merge is refused
all_enter : (pss : List (List ℕ)) → length (flatten pss) ≤ doubles.length → Allowed doubles (flatten pss) → Each (AllEntered zeros) (map (map add) pss)
unfolding flatten
all_enter [] h A = tt
all_enter (ps ∷ pss) h A =
    let long : length (ps ++ flatten pss) ≡ length ps + length (flatten pss) = length-append ps (flatten pss) in (
      enters ps (omega (arith, long)) (allowed_left ps (flatten pss) A),
      all_enter pss (omega (arith, long)) (allowed_right ps (flatten pss) A),
    )

all_calls : (pss : List (List ℕ)) → flatten (map (map add) pss) ≡ map add (flatten pss)
unfolding flatten
all_calls [] = refl
all_calls (ps ∷ pss) = ap (λ (cs : List Change). map add ps ++ cs) (all_calls pss) ∙ sym (map-append add ps (flatten pss))

each_run : (pss : List (List ℕ)) → map added_up pss ≡ map (run zeros) (map (map add) pss)
each_run [] = refl
each_run (ps ∷ pss) = ap (λ (wss : List (List ℕ)). added_up ps ∷ wss) (each_run pss)

module _ (t : Sites) (pss : List (List ℕ)) (A : AllMerged t) (e : registers_of t ≡ map added_up pss) (G : ListWhen doubles true true (flatten pss) Good) where
  pub sites_lists : total_of t ≡ added_up (flatten pss)
  sites_lists =
      sites_run t (map (map add) pss) A (e ∙ each_run pss) (all_enter pss (list_passed G).few (list_allowed G))
      (rw (all_calls pss) (enters (flatten pss) (list_passed G).few (list_allowed G)))
      ∙ ap (run zeros) (all_calls pss)

  pub sites_nearest : (MinusZeros doubles (flatten pss) → ⊥) → rounded (total_of t) ≡ nearest_of doubles (flatten pss)
  sites_nearest n = ap rounded sites_lists ∙ added_nearest (flatten pss) G n
