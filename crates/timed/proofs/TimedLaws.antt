-- One number more, and each case of a list's addition. Assumes nothing.
use Rattle.std.specs.Prelude.{◌≡◌, refl, List, [], ◌∷◌, ◌++◌, true, ℕ, ◌+◌, ◌<◌, ℤ, length, take, get_or}
use Rattle.std.proofs.Math.Path.{sym}
use Rattle.std.proofs.Common.{ap, ◌∙◌, lit<}
use Rattle.lists.proofs.Front.{take_next}
use Rattle.kinds.specs.Limits.{doubles}
use Rattle.kinds.specs.Outcome.{outcome}
use Rattle.kinds.specs.Verdict as verdicts
use Rattle.judge.specs.Judge.{judged}
use Rattle.addend.specs.Addend.{units_of}
use Rattle.lanes.specs.Laid as laids
use Rattle.lanes.specs.Lanes.{lane_count, digits_of, plus_lanes, lane_added, Laying}
use Rattle.lanes.specs.Table.{Roomy}
use Rattle.lanes.proofs.RoomLaws.{plus_count, room_kept}
use Rattle.lanes.proofs.LanesLaws.{lay_leaves, lay_given}
use Rattle.timed.specs.Timed.{put_all, after_look, after_judgement, timed_lanes}

put_last : (zs : List ℤ) (ps : List ℕ) (p : ℕ) → put_all zs (ps ++ (p ∷ [])) ≡ plus_lanes (put_all zs ps) (digits_of (units_of doubles p))
unfolding put_all
put_last zs [] p = refl
put_last zs (q ∷ ps) p = put_last (plus_lanes zs (digits_of (units_of doubles q))) ps p

pub put_none : (zs : List ℤ) (ps : List ℕ) → zs ≡ put_all zs (take 0 ps)
unfolding put_all
put_none zs ps = refl

pub put_next : {xs : List ℤ} (zs : List ℤ) (ps : List ℕ) (i : ℕ) → i < length ps → xs ≡ put_all zs (take i ps)
    → plus_lanes xs (digits_of (units_of doubles (get_or ps i 0))) ≡ put_all zs (take (i + 1) ps)
put_next zs ps i h e =
    ap (λ (ys : List ℤ). plus_lanes ys (digits_of (units_of doubles (get_or ps i 0)))) e
    ∙ sym (ap (put_all zs) (take_next 0 ps i h) ∙ put_last zs (take i ps) (get_or ps i 0))

module _ (zs : List ℤ) (ps : List ℕ) where
  pub timed_refused : {k i : ℕ} → judged doubles true true ps ≡ verdicts.Refused k i → timed_lanes zs ps ≡ outcome k zs
  unfolding after_judgement
  timed_refused e = rw e

  module _ (g : judged doubles true true ps ≡ verdicts.Good) where
    pub timed_tight : {k i : ℕ} {xs : List ℤ} → outcome (laids.Refused k i) xs ≡ lane_added zs 0 0 → timed_lanes zs ps ≡ outcome k xs
    unfolding after_judgement after_look
    timed_tight e = rw (g, sym e)

    pub timed_put : {n : ℕ} {xs : List ℤ} → outcome (laids.Counted n) xs ≡ lane_added zs 0 0 → timed_lanes zs ps ≡ outcome 0 (put_all xs ps)
    unfolding after_judgement after_look
    timed_put e = rw (g, sym e)

-- lanes that a look by the public addition of 0 has passed
pub looked : {n : ℕ} {xs : List ℤ} (zs : List ℤ) → outcome (laids.Counted n) xs ≡ lane_added zs 0 0 → (length xs ≡ lane_count) × Roomy 1 xs
looked {n} {xs} zs e =
    let z = units_of doubles 0 in
    let a = sym (ap (λ (o : Laying). o.answer) e) in
    let s : xs ≡ plus_lanes zs (digits_of z) = ap (λ (o : Laying). o.area) e ∙ lay_leaves zs 0 0 z a in
    let g = lay_given zs 0 0 z a in
    (rw s (plus_count zs (digits_of z) ∙ g.0), rw s (room_kept z g.1 (lit< tt)))
