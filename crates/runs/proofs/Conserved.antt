-- Conservation in a round, whatever blocks were taken: t plus tau plus the work numbers is S; and at a finish tau1 plus tau2 plus the work numbers.
-- Assumes nothing.
use Rattle.std.proofs.Math.Path.{refl}
use Rattle.std.specs.Prelude.{Bool, true, false, cond, ℕ, suc, ◌+◌, ◌^◌, Float}
use mathlib.Core.List.{List, [], ◌∷◌, map}
use Rattle.std.proofs.Common.{arith}
use Rattle.std.specs.Float.Ieee.{Format, prec, sub}
use Rattle.units.specs.Whole.{Whole, ◌⊕◌, ◌≈◌, total}
use Rattle.units.proofs.Closing.{close_conserves}
use Rattle.ieee.specs.Units.{whole}
use Rattle.lists.specs.Each.{Each}
use Rattle.kinds.specs.Limits.{Width, exponent_of}
use Rattle.kinds.specs.State.{State}
use Rattle.extract.specs.Extract.{remainder_of}
use Rattle.rounds.specs.Round.{all_taken, all_left}
use Rattle.rounds.specs.ClosedLaws.{tau1_of}
use Rattle.rounds.specs.Fitting.{Fitting}
use Rattle.rounds.specs.InUnits.{Small, wholes, high_units_lem, remainder_exact}
use Rattle.rounds.specs.Begun.{tau_all}
use Rattle.runs.proofs.CloseUnits.{held, tau1_units, tau2_units}
use Rattle.runs.specs.Taken.{pending_at, mixed, taken_of, mid_area}
use Rattle.runs.specs.Summing.{Summing}
use Rattle.runs.proofs.Summing.{closes, two, half, few, room}
use Rattle.runs.specs.MidRound.{high_units}
use Rattle.runs.proofs.MidRound.{Mid}

module _ {W : Width} {F : Fitting W} {S : Whole} {e : ℕ} {s : State} {xs : List Float} (A : Summing W F S e s xs) where
  -- the area and the high parts taken are the list
  parts : (pend : ℕ → Bool) (i : ℕ) (ys : List Float) → Each (Small W.format (2 ^ e)) ys
      → total (wholes W.format (mixed W.format s.sigma pend i ys)) ⊕ total (map (high_units W.format (exponent_of s.n + e)) (taken_of pend i ys))
      ≈ total (wholes W.format ys)
  unfolding mixed taken_of
  parts pend i [] h = refl
  parts pend i (y ∷ ys) h = go (pend i) (parts pend (suc i) ys h.1)
    where
      f : Format
      f = W.format

      k : ℕ
      k = exponent_of s.n + e

      go : (c : Bool)
          → total (wholes f (mixed f s.sigma pend (suc i) ys)) ⊕ total (map (high_units f k) (taken_of pend (suc i) ys)) ≈ total (wholes f ys)
          → (whole f (cond c y (remainder_of f s.sigma y)) ⊕ total (wholes f (mixed f s.sigma pend (suc i) ys)))
          ⊕ total (map (high_units f k) (cond c (taken_of pend (suc i) ys) (y ∷ taken_of pend (suc i) ys)))
          ≈ whole f y ⊕ total (wholes f ys)
      go true r = omega arith
      go false r =
          let E = remainder_exact A.begun.scale h.0 in
          omega (arith, rw (high_units_lem A.begun.scale h.0) at E)

  -- rule WE2
  pub mid_conserves : {P : ℕ} {tau m : Float} → Mid A.begun P tau m
      → whole W.format s.t ⊕ whole W.format tau ⊕ total (wholes W.format (mid_area W s P xs)) ≈ S
  mid_conserves {P} T = omega (arith, A.opened.sum, T.sum, parts (pending_at W P) 0 xs A.begun.work)

  -- rule WE3, for rule W3
  pub finish_conserves : let f = W.format in let tau1 = tau1_of W (all_taken W s xs) in let tau2 = sub f (all_taken W s xs).tau (sub f tau1 s.t) in
      whole f tau1 ⊕ whole f tau2 ⊕ total (wholes f (all_left W s xs)) ≈ S
  finish_conserves =
      let f = W.format in
      let t_held = held A.begun.carried in
      let tau_held = held (tau_all A.begun) in
      rw ((tau1_units F.bound (room A) t_held tau_held).0, (tau2_units F.bound (room A) t_held tau_held).0)
      (close_conserves (prec f) (exponent_of s.n) s.n (two A) (half A) (few A) (closes A))
