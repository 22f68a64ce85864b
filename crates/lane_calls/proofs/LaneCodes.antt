-- Exactly when each code of a call on lanes is returned, and 0; any two results that meet a contract are equal, the code and every array; and another code
-- than 0 leaves every array as it was. Assumes nothing.
use Rattle.std.specs.Prelude.{◌≡◌, refl, Bool, true, false, cond, List, ℕ, eqb, ℤ, length}
use Rattle.std.proofs.Common.{ap, arith}
use Rattle.kinds.proofs.OutcomeLaws.{same}
use Rattle.lanes.specs.Lanes.{Settling, lay, settled, laid_heard}
use Rattle.lanes.specs.Table as rows
use Rattle.lanes.specs.Table.{LayWhen}
use Rattle.lanes.specs.SettleTable as settle-rows
use Rattle.lanes.specs.SettleTable.{SettleWhen}
use Rattle.lanes.proofs.LanesLaws.{laid_is, lay_heard, lay_keeps, settle_heard, settle_keeps}
use Rattle.lanes.specs.Laid.{Refused}
use Rattle.arrays.specs.Arrays.{code_of, values_of, returned}
use Rattle.arrays.specs.Codes.{Coded, Left}
use Rattle.arrays.specs.CodesLaws.{code_in}
use Rattle.arrays.proofs.CodesLaws.{coded, refused_code, values_left, call_left, returned_determined}
use Rattle.lane_calls.specs.LaneArrays.{laid_returned, SettleReturned, settle_returned, settle_lanes, SettleLeft}
use Rattle.lane_calls.proofs.LaneArraysLaws.{laid_other, laid_called, settle_other, settle_called}

-- no refusal has the number 0
some : {zs : List ℤ} {calls p k i : ℕ} → LayWhen zs calls p (Refused k i) → k ≡ 0 → ⊥
some (rows.wrong_length n) e = omega arith
some (rows.no_room l N) e = omega arith
some (rows.bad_number l R f) e = f e
some (rows.too_many l R a h) e = omega arith

settle_some : {zs : List ℤ} {calls : ℕ} {ws : List ℕ} {k i : ℕ} → SettleWhen zs calls ws (Refused k i) → k ≡ 0 → ⊥
settle_some (settle-rows.wrong_length N) e = omega arith
settle_some (settle-rows.no_room A N) e = omega arith
settle_some (settle-rows.out_of_range A R h) e = omega arith

-- ---- an addition of z units, and a withdrawal
module _ (zs : List ℤ) (calls p : ℕ) (z : ℤ) (out : List ℕ) where
  pub lanes_coded : Coded 1 (length out) 4 (laid_heard (lay zs calls p z).answer) (laid_returned (lay zs calls p z) zs out).code
  lanes_coded = coded 1 (length out) 4 (laid_heard (lay zs calls p z).answer)
      (λ l. ap code_in (laid_called (lay zs calls p z) zs out l)) (λ l. ap code_in (laid_other (lay zs calls p z) zs out l))
      (λ q e. some ((lay_heard zs calls p z 0 q).0 e).1 refl) (λ e. omega arith)

  pub lanes_determined : {r q : ℕ} {xs ys : List ℤ} {us vs : List ℕ} → returned r xs us ≡ laid_returned (lay zs calls p z) zs out
      → returned q ys vs ≡ laid_returned (lay zs calls p z) zs out → (r ≡ q) × (xs ≡ ys) × (us ≡ vs)
  lanes_determined = returned_determined (laid_returned (lay zs calls p z) zs out)

  pub lanes_left : ((laid_returned (lay zs calls p z) zs out).code ≡ 0 → ⊥) → Left (laid_returned (lay zs calls p z) zs out) zs out
  unfolding laid_returned
  lanes_left = call_left laid_heard Refused laid_is (lay zs calls p z) zs (λ k i. lay_keeps zs calls p z) values_of out values_left (eqb (length out) 1) 4

-- ---- a settling
module _ (zs : List ℤ) (calls : ℕ) (ws out : List ℕ) where
  pub settle_coded : Coded 1 (length out) 4 (laid_heard (settled zs calls ws).answer) (settle_lanes zs calls ws out).code
  settle_coded = coded 1 (length out) 4 (laid_heard (settled zs calls ws).answer)
      (λ l. ap (λ (w : SettleReturned). w.code) (settle_called zs calls ws out l)) (λ l. ap (λ (w : SettleReturned). w.code) (settle_other zs calls ws out l))
      (λ q e. settle_some ((settle_heard zs calls ws 0 q).0 e).1 refl) (λ e. omega arith)

  pub settle_determined : {r q : ℕ} {xs ys : List ℤ} {us vs ms ns : List ℕ} → settle_returned r xs us ms ≡ settle_lanes zs calls ws out
      → settle_returned q ys vs ns ≡ settle_lanes zs calls ws out → (r ≡ q) × (xs ≡ ys) × (us ≡ vs) × (ms ≡ ns)
  settle_determined p q = (
    ap (λ (w : SettleReturned). w.code) (same p q),
    ap (λ (w : SettleReturned). w.lanes) (same p q),
    ap (λ (w : SettleReturned). w.words) (same p q),
    ap (λ (w : SettleReturned). w.values) (same p q),
  )

  pub settle_left : ((settle_lanes zs calls ws out).code ≡ 0 → ⊥) → SettleLeft (settle_lanes zs calls ws out) zs ws out
  unfolding settle_lanes
  settle_left = by (eqb (length out) 1)
    where
      s : Settling
      s = settled zs calls ws

      by : (b : Bool) → let h = laid_heard s.answer in
          let c = cond b (settle_returned (code_of h) s.lanes s.words (values_of h out)) (settle_returned 4 zs ws out) in
          (c.code ≡ 0 → ⊥) → SettleLeft c zs ws out
      by true n =
          let r = refused_code (laid_heard s.answer) n in
          let i = laid_is s.answer r.0 r.1 r.2 in
          let l = settle_keeps zs calls ws i.1 in
          record {
            lanes = ap (λ (t : Settling). t.lanes) l;
            words = ap (λ (t : Settling). t.words) l;
            values = values_left (laid_heard s.answer) out n;
          }
      by false n = record { lanes = refl; words = refl; values = refl }
