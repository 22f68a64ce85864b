-- The farewell, lane by lane: a number that was added and withdrawn, with other calls before, between and after, leaves in each lane what it would hold without
-- that number, carries and all. Assumes nothing.
use Rattle.std.specs.Prelude.{◌≡◌, refl, List, [], ◌∷◌, ◌++◌, map, ℕ, ◌+◌, ◌≤◌, ◌<◌, ℤ, neg_ℤ, ◌+ℤ◌, length}
use Rattle.std.proofs.Common.{sym, ap, ◌∙◌, arith, length-append}
use Rattle.std.proofs.Math.IntN.{neg_ℤ-neg_ℤ, +ℤ_assoc, +ℤ_comm}
use Rattle.lists.specs.Each.{Each, each_join}
use Rattle.kinds.specs.Heard.{count}
use Rattle.kinds.specs.Limits.{doubles}
use Rattle.judge.specs.Judge.{fault_of}
use Rattle.addend.specs.Addend.{units_of}
use Rattle.register.specs.Entries.{Change, add, withdraw, pattern_of, change_of}
use Rattle.register.specs.Farewell.{history, stayed}
use Rattle.lanes.specs.Laid.{Counted}
use Rattle.lanes.specs.Lanes.{lane_count, most_calls, digits_of, plus_lanes, laid_heard}
use Rattle.lanes.specs.Table.{Roomy, counted}
use Rattle.lanes.specs.Runs.{lane_changed, LaneRegister, change, acted, lane_run, AllCounted, plus_all}
use Rattle.lanes.proofs.LanesLaws.{laid_heard_lem, lay_when, lay_counts, lay_given}
use Rattle.lanes.proofs.ChangeLaws.{change_lanes, change_count, change_roomy, plus_opposite}
use Rattle.lanes.specs.LaneFarewell.{around}

-- where the next count is heard, the call was accepted
next_counted : (r : LaneRegister) (c : Change) → laid_heard (lane_changed r.lanes r.calls c).answer ≡ count (r.calls + 1)
    → (lane_changed r.lanes r.calls c).answer ≡ Counted (r.calls + 1)
next_counted r c e = laid_heard_lem _ (Counted (r.calls + 1)) e

-- an accepted run puts its digits into the lanes
pub run_lanes : (r : LaneRegister) (cs : List Change) → AllCounted r cs → (lane_run r (map change cs)).lanes ≡ plus_all r.lanes cs
unfolding lane_run AllCounted plus_all
run_lanes r [] A = refl
run_lanes r (c ∷ cs) A =
    run_lanes (acted r (change c)) cs A.1 ∙ ap (λ (zs : List ℤ). plus_all zs cs) (change_lanes r.lanes r.calls c (next_counted r c A.0))

-- ---- in whichever order
swap : (z d e : ℤ) → z +ℤ d +ℤ e ≡ z +ℤ e +ℤ d
swap z d e = +ℤ_assoc z d e ∙ ap (λ (x : ℤ). z +ℤ x) (+ℤ_comm d e) ∙ sym (+ℤ_assoc z e d)

plus_swap : (zs ds es : List ℤ) → plus_lanes (plus_lanes zs ds) es ≡ plus_lanes (plus_lanes zs es) ds
unfolding plus_lanes
plus_swap [] ds es = refl
plus_swap (z ∷ zs) [] [] = refl
plus_swap (z ∷ zs) [] (e ∷ es) = refl
plus_swap (z ∷ zs) (d ∷ ds) [] = refl
plus_swap (z ∷ zs) (d ∷ ds) (e ∷ es) = λ i. swap z d e i ∷ plus_swap zs ds es i

all_swap : (zs ds : List ℤ) (cs : List Change) → plus_all (plus_lanes zs ds) cs ≡ plus_lanes (plus_all zs cs) ds
unfolding plus_all
all_swap zs ds [] = refl
all_swap zs ds (c ∷ cs) =
    ap (λ (ys : List ℤ). plus_all ys cs) (plus_swap zs ds (digits_of (change_of c))) ∙ all_swap (plus_lanes zs (digits_of (change_of c))) ds cs

all_join : (zs : List ℤ) (xs ys : List Change) → plus_all zs (xs ++ ys) ≡ plus_all (plus_all zs xs) ys
unfolding plus_all
all_join zs [] ys = refl
all_join zs (x ∷ xs) ys = all_join (plus_lanes zs (digits_of (change_of x))) xs ys

gone : (zs : List ℤ) (xs ys ws : List Change) (a b : Change) → neg_ℤ (change_of a) ≡ change_of b
    → plus_all zs (around xs ys ws a b) ≡ plus_all zs (stayed xs ys ws)
unfolding plus_all
gone zs xs ys ws a b o =
    let u = change_of a in
    let low = plus_all zs xs in
    all_join zs xs (a ∷ (ys ++ (b ∷ ws)))
    ∙ all_join (plus_lanes low (digits_of u)) ys (b ∷ ws)
    ∙ ap (λ (vs : List ℤ). plus_all (plus_lanes vs (digits_of (change_of b))) ws) (all_swap low (digits_of u) ys)
    ∙ ap (λ (vs : List ℤ). plus_all vs ws) (rw (← o) (plus_opposite (plus_all low ys) u))
    ∙ sym (all_join low ys ws)
    ∙ sym (all_join zs xs (ys ++ ws))

-- ---- without p none is refused either: they are fewer, of the same numbers, and lanes that have room for more calls have it for fewer
abbrev Free : Change → Type 0
Free c = fault_of doubles (pattern_of c) ≡ 0

takes_all : (r : LaneRegister) (cs : List Change) → length r.lanes ≡ lane_count → Roomy r.calls r.lanes → r.calls + length cs ≤ most_calls
    → Each Free cs → AllCounted r cs
unfolding AllCounted
takes_all r [] l R h E = tt
takes_all r (c ∷ cs) l R h E = (ap laid_heard a, takes_all (acted r (change c)) cs (change_count r.lanes r.calls c a) room few E.1)
  where
    a : (lane_changed r.lanes r.calls c).answer ≡ Counted (r.calls + 1)
    a = (lay_when r.lanes r.calls (pattern_of c) (change_of c) (Counted (r.calls + 1))).1 (counted l R E.0 (omega arith))

    room : Roomy (acted r (change c)).calls (acted r (change c)).lanes
    room = rw a (change_roomy r.lanes r.calls c a)

    few : (acted r (change c)).calls + length cs ≤ most_calls
    few = rw a (omega arith)

all_few : (r : LaneRegister) (cs : List Change) → r.calls ≤ most_calls → AllCounted r cs → r.calls + length cs ≤ most_calls
unfolding AllCounted
all_few r [] h A = omega arith
all_few r (c ∷ cs) h A =
    let a = next_counted r c A.0 in
    let m = lay_counts r.lanes r.calls (pattern_of c) (change_of c) a in
    let next : (acted r (change c)).calls ≡ r.calls + 1 = rw a in
    omega (arith, all_few (acted r (change c)) cs (omega (arith, m.1)) A.1)

all_free : (r : LaneRegister) (cs : List Change) → AllCounted r cs → Each Free cs
unfolding AllCounted
all_free r [] A = tt
all_free r (c ∷ cs) A =
    ((lay_given r.lanes r.calls (pattern_of c) (change_of c) (next_counted r c A.0)).2, all_free (acted r (change c)) cs A.1)

fewer_counted : (r : LaneRegister) (cs ds : List Change) → AllCounted r cs → length ds < length cs → Each Free ds → AllCounted r ds
unfolding AllCounted
fewer_counted r [] ds A h E = absurd (omega arith)
fewer_counted r (c ∷ cs) ds A h E =
    let g = lay_given r.lanes r.calls (pattern_of c) (change_of c) (next_counted r c A.0) in
    takes_all r ds g.0 g.1 (omega (arith, all_few r (c ∷ cs) g.1.few A)) E

each_parts : (xs ys : List Change) → Each Free (xs ++ ys) → Each Free xs × Each Free ys
each_parts [] ys E = (tt, E)
each_parts (x ∷ xs) ys E = let p = each_parts xs ys E.1 in ((E.0, p.0), p.1)

stayed_counted : (r : LaneRegister) (xs ys ws : List Change) (a b : Change) → AllCounted r (around xs ys ws a b) → AllCounted r (stayed xs ys ws)
stayed_counted r xs ys ws a b A =
    let E = each_parts xs (a ∷ (ys ++ (b ∷ ws))) (all_free r (around xs ys ws a b) A) in
    let F = each_parts ys (b ∷ ws) E.1.1 in
    let with-both : length (around xs ys ws a b) ≡ length xs + (length ys + (length ws + 1) + 1) =
    omega (arith, length-append xs (a ∷ (ys ++ (b ∷ ws))), length-append ys (b ∷ ws)) in
    let without : length (stayed xs ys ws) ≡ length xs + (length ys + length ws) = omega (arith, length-append xs (ys ++ ws), length-append ys ws) in
    fewer_counted r (around xs ys ws a b) (stayed xs ys ws) A (omega arith) (each_join Free xs (ys ++ ws) E.0 (each_join Free ys ws F.0 F.1.1))

leaves_nothing : (r : LaneRegister) (xs ys ws : List Change) (a b : Change) → neg_ℤ (change_of a) ≡ change_of b → AllCounted r (around xs ys ws a b)
    → (lane_run r (map change (around xs ys ws a b))).lanes ≡ (lane_run r (map change (stayed xs ys ws))).lanes
leaves_nothing r xs ys ws a b o A =
    run_lanes r (around xs ys ws a b) A ∙ gone r.lanes xs ys ws a b o ∙ sym (run_lanes r (stayed xs ys ws) (stayed_counted r xs ys ws a b A))

-- p joins after xs and leaves after ys
pub lane_farewell : (r : LaneRegister) (xs ys ws : List Change) (p : ℕ) → AllCounted r (history xs ys ws p)
    → (lane_run r (map change (history xs ys ws p))).lanes ≡ (lane_run r (map change (stayed xs ys ws))).lanes
lane_farewell r xs ys ws p = leaves_nothing r xs ys ws (add p) (withdraw p) refl

-- or leaves first and comes back
pub lane_return : (r : LaneRegister) (xs ys ws : List Change) (p : ℕ) → AllCounted r (around xs ys ws (withdraw p) (add p))
    → (lane_run r (map change (around xs ys ws (withdraw p) (add p)))).lanes ≡ (lane_run r (map change (stayed xs ys ws))).lanes
lane_return r xs ys ws p = leaves_nothing r xs ys ws (withdraw p) (add p) (neg_ℤ-neg_ℤ (units_of doubles p))
