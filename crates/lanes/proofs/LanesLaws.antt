-- An addition, a withdrawal and a settling: each answer is given exactly when its table says (rule O6), a refused call leaves everything as it was, a refusal
-- and a count are heard exactly when their rows say, and results that meet one equation are the same. Assumes nothing.
use Rattle.std.specs.Prelude.{◌≡◌, refl, ◌↔◌, ◌⊎◌, Bool, true, false, List, ℕ, ◌+◌, ◌<◌, ℤ, length}
use Rattle.std.proofs.Common.{ap, ◌∙◌, inl, inr, arith, lit<}
use Rattle.std.proofs.Math.Decide.{ℕ_discrete}
use Rattle.units.proofs.Powers.{le_or_lt}
use Rattle.lists.proofs.Apart.{apart}
use Rattle.lists.specs.Digits.{inside}
use Rattle.kinds.specs.Heard.{Place, refused, count, Row, Refusal}
use Rattle.kinds.proofs.HeardLaws.{verdict_heard_lem}
use Rattle.kinds.proofs.Hearing.{exactly, at_place_0, hears}
use Rattle.kinds.specs.Limits.{doubles}
use Rattle.kinds.specs.Outcome.{outcome}
use Rattle.kinds.proofs.OutcomeLaws.{same, determined}
use Rattle.kinds.specs.Verdict.{Verdict}
use Rattle.kinds.specs.Verdict as verdicts
use Rattle.judge.specs.Judge.{fault_of}
use Rattle.judge.specs.FaultLaws.{fault_number}
use Rattle.words.specs.Words.{word_count, register_bits}
use Rattle.lanes.specs.Laid.{Laid}
use Rattle.lanes.specs.Laid.{Counted, Refused}
use Rattle.lanes.specs.Lanes.{lane_count, lane_sum, most_calls, roomy, Laying, lay, Settling, settling, settled, laid_heard}
use Rattle.lanes.proofs.LayLaws.{lay_long, lay_tight, lay_bad, lay_full, lay_in}
use Rattle.lanes.proofs.LayLaws.{settled_lanes_long, settled_words_long, settled_tight, settled_out, settled_in}
use Rattle.lanes.proofs.RoomLaws.{roomy_when}
use Rattle.lanes.specs.Table.{Roomy, LayWhen, counted, wrong_length, no_room, bad_number, too_many, lanes_after}
use Rattle.lanes.specs.SettleTable as settle
use Rattle.lanes.specs.SettleTable.{TwoAreas, SettleWhen, settles, out_of_range, lanes_settled, words_settled}

-- ---- whether there is room
roomy_not : (calls : ℕ) (zs : List ℤ) → (Roomy calls zs → ⊥) → roomy calls zs ≡ false
roomy_not calls zs N = by (roomy calls zs) refl
  where
    by : (b : Bool) → roomy calls zs ≡ b → roomy calls zs ≡ false
    by true e = absurd (N ((roomy_when calls zs).0 e))
    by false e = e

room? : (calls : ℕ) (zs : List ℤ) → Roomy calls zs ⊎ (Roomy calls zs → ⊥)
room? calls zs = by (roomy calls zs) refl
  where
    by : (b : Bool) → roomy calls zs ≡ b → Roomy calls zs ⊎ (Roomy calls zs → ⊥)
    by true e = inl ((roomy_when calls zs).0 e)
    by false e = inr (λ R. let t : roomy calls zs ≡ true = (roomy_when calls zs).1 R in apart (cc))

-- ---- two answers of which the same is heard are the same, and one of which a refusal is heard is that refusal
abbrev answer_for : Verdict → Laid
answer_for verdicts.Good = Counted 0
answer_for (verdicts.Refused k i) = Refused k i

pub laid_heard_lem : (a b : Laid) → laid_heard a ≡ laid_heard b → a ≡ b
laid_heard_lem (Counted m) (Counted n) e = cc
laid_heard_lem (Counted m) (Refused l q) e = apart (cc)
laid_heard_lem (Refused k p) (Counted n) e = apart (cc)
laid_heard_lem (Refused k p) (Refused l q) e = ap answer_for (verdict_heard_lem (verdicts.Refused k p) (verdicts.Refused l q) e)

pub laid_is : (a : Laid) (k : ℕ) (p : Place) → laid_heard a ≡ refused k p → (i : ℕ) × (a ≡ Refused k i)
laid_is (Counted n) k p e = apart (cc)
laid_is (Refused l j) k p e = (j, cc)

pub laid_count : (a : Laid) (n : ℕ) → (laid_heard a ≡ count n) ↔ (a ≡ Counted n)
laid_count a n = (λ e. laid_heard_lem a (Counted n) e, λ e. ap laid_heard e)

module _ (zs : List ℤ) (calls p : ℕ) (z : ℤ) where
  row : {a : Laid} → LayWhen zs calls p a → lay zs calls p z ≡ outcome a (lanes_after zs z a)
  row (counted l R e h) = lay_in zs calls p z l ((roomy_when calls zs).1 R) e (λ k. omega arith)
  row (wrong_length n) = lay_long zs calls p z n
  row (no_room l N) = lay_tight zs calls p z l (roomy_not calls zs N)
  row (bad_number l R n) = lay_bad zs calls p z l ((roomy_when calls zs).1 R) n
  row (too_many l R e h) = lay_full zs calls p z l ((roomy_when calls zs).1 R) e h

  some_row : (a : Laid) × LayWhen zs calls p a
  some_row = elim (ℕ_discrete (length zs) lane_count) [
    | no n ↦ (Refused 4 0, wrong_length n)
    | yes l ↦ elim (room? calls zs) [
      | inr N ↦ (Refused 25 0, no_room l N)
      | inl R ↦ elim (ℕ_discrete (fault_of doubles p) 0) [
        | no n ↦ (Refused (fault_of doubles p) 0, bad_number l R n)
        | yes e ↦ elim (le_or_lt most_calls calls) [
          | inl h ↦ (Refused 24 0, too_many l R e (omega (arith, R.few)))
          | inr h ↦ (Counted (calls + 1), counted l R e h)
        ]
      ]
    ]
  ]

  -- each answer is given exactly when the table says
  pub lay_when : (a : Laid) → ((lay zs calls p z).answer ≡ a) ↔ LayWhen zs calls p a
  lay_when = exactly (lay zs calls p z).answer (LayWhen zs calls p) (λ a r. ap (λ (o : Laying). o.answer) (row r)) some_row

  -- and the lanes are left as it says
  pub lay_leaves : {a : Laid} → (lay zs calls p z).answer ≡ a → (lay zs calls p z).area ≡ lanes_after zs z a
  lay_leaves {a} e = ap (λ (o : Laying). o.area) (row ((lay_when a).0 e))

  -- rule A1: a refused call leaves them
  pub lay_keeps : {k i : ℕ} → (lay zs calls p z).answer ≡ Refused k i → (lay zs calls p z).area ≡ zs
  lay_keeps e = lay_leaves e

  -- a refusal's number is of the table, and its place is 0, which 2 and 3 tell
  pub lay_refusal : {k i : ℕ} → LayWhen zs calls p (Refused k i) → Refusal 0 k i
  lay_refusal (wrong_length n) = at_place_0 (lit< tt)
  lay_refusal (no_room l N) = at_place_0 (lit< tt)
  lay_refusal (bad_number l R n) = at_place_0 (elim (fault_number doubles p n) [ inl e ↦ omega arith | inr e ↦ omega arith ])
  lay_refusal (too_many l R e h) = at_place_0 (lit< tt)

  -- a refusal is heard exactly when its row says
  pub lay_heard : (k : ℕ) (q : Place) → (laid_heard (lay zs calls p z).answer ≡ refused k q) ↔ Row (λ k i. LayWhen zs calls p (Refused k i)) k q
  lay_heard =
      hears laid_heard Refused (λ k i. refl) (lay zs calls p z).answer (laid_is (lay zs calls p z).answer) (λ k i. LayWhen zs calls p (Refused k i))
      (λ k i. lay_when (Refused k i)) (λ k i h. (lay_refusal h).as_told)

  -- and a count
  pub lay_heard_count : (n : ℕ) → (laid_heard (lay zs calls p z).answer ≡ count n) ↔ LayWhen zs calls p (Counted n)
  lay_heard_count n = (
    λ e. (lay_when (Counted n)).0 ((laid_count (lay zs calls p z).answer n).0 e),
    λ w. (laid_count (lay zs calls p z).answer n).1 ((lay_when (Counted n)).1 w),
  )

  pub lay_determined : {r q : Laid} {xs ys : List ℤ} → outcome r xs ≡ lay zs calls p z → outcome q ys ≡ lay zs calls p z → (r ≡ q) × (xs ≡ ys)
  lay_determined = determined (lay zs calls p z)

  -- ---- an accepted call
  module _ {n : ℕ} (a : (lay zs calls p z).answer ≡ Counted n) where
    pub lay_counts : (n ≡ calls + 1) × (calls < most_calls)
    lay_counts = go n ((lay_when (Counted n)).0 a)
      where
        go : (n : ℕ) → LayWhen zs calls p (Counted n) → (n ≡ calls + 1) × (calls < most_calls)
        go _ (counted l R e h) = (refl, h)

    -- what is heard of it
    pub lay_heard_next : laid_heard (lay zs calls p z).answer ≡ count (calls + 1)
    lay_heard_next = ap laid_heard a ∙ ap count lay_counts.0

    pub lay_given : (length zs ≡ lane_count) × Roomy calls zs × (fault_of doubles p ≡ 0)
    lay_given = go n ((lay_when (Counted n)).0 a)
      where
        go : (n : ℕ) → LayWhen zs calls p (Counted n) → (length zs ≡ lane_count) × Roomy calls zs × (fault_of doubles p ≡ 0)
        go _ (counted l R e h) = (l, R, e)

-- ---- a settling
module _ (zs : List ℤ) (calls : ℕ) (ws : List ℕ) where
  areas? : TwoAreas zs ws ⊎ (TwoAreas zs ws → ⊥)
  areas? = elim (ℕ_discrete (length zs) lane_count) [
    | no n ↦ inr (λ A. n A.first)
    | yes l ↦ elim (ℕ_discrete (length ws) word_count) [ no n ↦ inr (λ A. n A.second) | yes w ↦ inl (record { first = l; second = w }) ]
  ]

  settle_long : (TwoAreas zs ws → ⊥) → settled zs calls ws ≡ settling (Refused 4 0) zs ws
  settle_long N = elim (ℕ_discrete (length zs) lane_count) [
    | no n ↦ settled_lanes_long zs calls ws n
    | yes l ↦ settled_words_long zs calls ws l (λ w. N (record { first = l; second = w }))
  ]

  settle_row : {a : Laid} → SettleWhen zs calls ws a → settled zs calls ws ≡ settling a (lanes_settled zs a) (words_settled zs ws a)
  settle_row (settles A R h) = settled_in zs calls ws A.first A.second ((roomy_when calls zs).1 R) h
  settle_row (settle.wrong_length N) = settle_long N
  settle_row (settle.no_room A N) = settled_tight zs calls ws A.first A.second (roomy_not calls zs N)
  settle_row (out_of_range A R h) = settled_out zs calls ws A.first A.second ((roomy_when calls zs).1 R) h

  some_settle_row : (a : Laid) × SettleWhen zs calls ws a
  some_settle_row = elim areas? [
    | inr N ↦ (Refused 4 0, settle.wrong_length N)
    | inl A ↦ elim (room? calls zs) [ inr N ↦ (Refused 25 0, settle.no_room A N) | inl R ↦ by_range A R (inside register_bits (lane_sum zs)) refl ]
  ]
    where
      by_range : TwoAreas zs ws → Roomy calls zs → (b : Bool) → inside register_bits (lane_sum zs) ≡ b → (a : Laid) × SettleWhen zs calls ws a
      by_range A R true h = (Counted 0, settles A R h)
      by_range A R false h = (Refused 9 0, out_of_range A R h)

  -- each answer is given exactly when the table says
  pub settle_when : (a : Laid) → ((settled zs calls ws).answer ≡ a) ↔ SettleWhen zs calls ws a
  settle_when = exactly (settled zs calls ws).answer (SettleWhen zs calls ws) (λ a r. ap (λ (s : Settling). s.answer) (settle_row r)) some_settle_row

  -- and the lanes and the words are left as it says
  pub settle_leaves : {a : Laid} → (settled zs calls ws).answer ≡ a → settled zs calls ws ≡ settling a (lanes_settled zs a) (words_settled zs ws a)
  settle_leaves {a} e = settle_row ((settle_when a).0 e)

  pub settle_keeps : {k i : ℕ} → (settled zs calls ws).answer ≡ Refused k i → settled zs calls ws ≡ settling (Refused k i) zs ws
  settle_keeps e = settle_leaves e

  pub settle_refusal : {k i : ℕ} → SettleWhen zs calls ws (Refused k i) → Refusal 0 k i
  settle_refusal (settle.wrong_length N) = at_place_0 (lit< tt)
  settle_refusal (settle.no_room A N) = at_place_0 (lit< tt)
  settle_refusal (out_of_range A R h) = at_place_0 (lit< tt)

  pub settle_heard : (k : ℕ) (q : Place) → (laid_heard (settled zs calls ws).answer ≡ refused k q) ↔ Row (λ k i. SettleWhen zs calls ws (Refused k i)) k q
  settle_heard =
      hears laid_heard Refused (λ k i. refl) (settled zs calls ws).answer (laid_is (settled zs calls ws).answer)
      (λ k i. SettleWhen zs calls ws (Refused k i)) (λ k i. settle_when (Refused k i)) (λ k i h. (settle_refusal h).as_told)

  pub settle_heard_count : (n : ℕ) → (laid_heard (settled zs calls ws).answer ≡ count n) ↔ SettleWhen zs calls ws (Counted n)
  settle_heard_count n = (
    λ e. (settle_when (Counted n)).0 ((laid_count (settled zs calls ws).answer n).0 e),
    λ w. (laid_count (settled zs calls ws).answer n).1 ((settle_when (Counted n)).1 w),
  )

  pub settle_determined : {r q : Laid} {xs ys : List ℤ} {us vs : List ℕ} → settling r xs us ≡ settled zs calls ws → settling q ys vs ≡ settled zs calls ws
      → (r ≡ q) × (xs ≡ ys) × (us ≡ vs)
  settle_determined e f =
      let s = same e f in (ap (λ (t : Settling). t.answer) s, ap (λ (t : Settling). t.lanes) s, ap (λ (t : Settling). t.words) s)

  -- an accepted settling starts the count afresh
  pub settle_counts : {n : ℕ} → (settled zs calls ws).answer ≡ Counted n
      → (n ≡ 0) × TwoAreas zs ws × Roomy calls zs × (inside register_bits (lane_sum zs) ≡ true)
  settle_counts {n} a = go n ((settle_when (Counted n)).0 a)
    where
      go : (n : ℕ) → SettleWhen zs calls ws (Counted n) → (n ≡ 0) × TwoAreas zs ws × Roomy calls zs × (inside register_bits (lane_sum zs) ≡ true)
      go _ (settles A R h) = (refl, A, R, h)

  pub settle_heard_next : {n : ℕ} → (settled zs calls ws).answer ≡ Counted n → laid_heard (settled zs calls ws).answer ≡ count 0
  settle_heard_next a = ap laid_heard a ∙ ap count (settle_counts a).0
