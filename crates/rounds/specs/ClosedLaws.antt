-- What a close answers: rules W1 and W2 are a fresh start, as at an opening; one law for each case. Assumes nothing.
use Rattle.std.specs.Prelude.{◌≡◌, Bool, not, cond, ◌&&◌, ◌||◌, List, ℕ, ◌+◌, ◌*◌, Float}
use Rattle.std.proofs.Math.Path.{refl}
use Rattle.std.proofs.Common.{sym}
use Rattle.std.proofs.Math.Bool.{true, false}
use Rattle.std.proofs.Math.Dec.{eqb}
use Rattle.std.specs.Float.{Format}
use Rattle.std.specs.Float.Ieee.{add, sub, le, eq}
use Rattle.lists.proofs.Apart.{apart}
use Rattle.extract.specs.Extract.{plus_zero, absolute, last_sum}
use Rattle.kinds.specs.Limits.{Width, exponent_of}
use Rattle.kinds.specs.State.{State}
use Rattle.kinds.specs.Step.{Step}
use Rattle.kinds.specs.Step.{More, Done}
use Rattle.rounds.specs.Round.{round_of, fresh_round, fresh, scaled, least_normal, finished, closed_by, closed}

-- a round from mu alone, or nothing to sum
module _ (W : Width) (zero : Float) (n mu rounds ensemble : ℕ) (told : Float) where
  pub fresh_zero : eqb mu 0 ≡ true → fresh W zero n mu rounds ensemble told ≡ Done zero rounds
  unfolding fresh
  fresh_zero a = rw a

  pub fresh_round_lem : eqb mu 0 ≡ false → fresh W zero n mu rounds ensemble told ≡ More (fresh_round W n mu rounds ensemble) told
  unfolding fresh
  fresh_round_lem a = rw a

-- t' of a state, rule 3's test, and the round that rule 4 opens
abbrev pub tau1_of : Width → State → Float
tau1_of W s = add W.format s.t s.tau

abbrev pub enough : Format → ℕ → Float → Float → Bool
enough f M sigma tau1 = le sigma (least_normal f) || le (scaled f (2 * M + 1) sigma) (absolute f tau1)

abbrev pub finishes : Width → State → Bool
finishes W s = enough W.format (exponent_of s.n) s.sigma (tau1_of W s)

-- whether rule 3 ends the walk, behind rules 1 and 2
abbrev pub ends_of : Width → State → Bool
ends_of W s = not (eq (tau1_of W s) (plus_zero W.format)) && finishes W s

abbrev pub further_round : Width → State → State
further_round W s = round_of W s.n (scaled W.format (exponent_of s.n) s.sigma) (tau1_of W s) (s.rounds + 1) s.ensemble

-- what holds of each answer that a fresh start or a close may have holds of the one that it has
module _ (P : Step → Type 0) (W : Width) where
  pub fresh_each : (zero : Float) (n mu rounds ensemble : ℕ) (told : Float) → (eqb mu 0 ≡ true → P (Done zero rounds))
      → (eqb mu 0 ≡ false → P (More (fresh_round W n mu rounds ensemble) told))
      → P (fresh W zero n mu rounds ensemble told)
  unfolding fresh
  fresh_each zero n mu rounds ensemble told none some = go (eqb mu 0) refl
    where
      go : (a : Bool) → eqb mu 0 ≡ a → P (cond a (Done zero rounds) (More (fresh_round W n mu rounds ensemble) told))
      go true a = none a
      go false a = some a

  module _ (mu : ℕ) (s : State) (xs : List Float) where
    pub closed_each : (eq (tau1_of W s) (plus_zero W.format) ≡ true → P (fresh W (plus_zero W.format) s.n mu (s.rounds + 1) s.ensemble s.largest))
        → (eq (tau1_of W s) (plus_zero W.format) ≡ false → finishes W s ≡ true
        → P (Done (finished W.format (tau1_of W s) s.t s.tau xs) (s.rounds + 1)))
        → (eq (tau1_of W s) (plus_zero W.format) ≡ false → finishes W s ≡ false → P (More (further_round W s) s.largest))
        → P (closed_by W mu s xs)
    unfolding closed_by
    closed_each zero finish further = go (eq (tau1_of W s) (plus_zero W.format)) refl (finishes W s) refl
      where
        go : (z : Bool) → eq (tau1_of W s) (plus_zero W.format) ≡ z → (r : Bool) → finishes W s ≡ r
            → P
            (cond z
            (fresh W (plus_zero W.format) s.n mu (s.rounds + 1) s.ensemble s.largest)
            (cond r (Done (finished W.format (tau1_of W s) s.t s.tau xs) (s.rounds + 1)) (More (further_round W s) s.largest)))
        go true z r h = zero z
        go false z true h = finish z h
        go false z false h = further z h

-- a round that goes on passes neither test of rule 3
pub not_finishes : (W : Width) (s : State) → finishes W s ≡ false
    → (le s.sigma (least_normal W.format) ≡ false)
    × (le (scaled W.format (2 * exponent_of s.n + 1) s.sigma) (absolute W.format (tau1_of W s)) ≡ false)
not_finishes W s h = neither _ _ h
  where
    neither : (a b : Bool) → (a || b) ≡ false → (a ≡ false) × (b ≡ false)
    neither false b e = (refl, e)
    neither true b e = apart (cc)

module _ (W : Width) (mu : ℕ) (s : State) (xs : List Float) where
  pub closed_zero : eq (tau1_of W s) (plus_zero W.format) ≡ true
      → closed_by W mu s xs ≡ fresh W (plus_zero W.format) s.n mu (s.rounds + 1) s.ensemble s.largest
  unfolding closed_by
  closed_zero z = rw z

  pub closed_finish : eq (tau1_of W s) (plus_zero W.format) ≡ false → finishes W s ≡ true
      → closed_by W mu s xs ≡ Done (finished W.format (tau1_of W s) s.t s.tau xs) (s.rounds + 1)
  unfolding closed_by
  closed_finish z r = rw (z, r)

  pub closed_further : eq (tau1_of W s) (plus_zero W.format) ≡ false → finishes W s ≡ false → closed_by W mu s xs ≡ More (further_round W s) s.largest
  unfolding closed_by
  closed_further z r = rw (z, r)

-- ---- an answer closes a state over every area, or over every area whose sum in rising order is T
abbrev pub Closes : Width → State → Step → Type 0
Closes W s q = (xs : List Float) → q ≡ closed W s xs

abbrev pub ClosesWith : Width → State → Float → Step → Type 0
ClosesWith W s T q = (xs : List Float) → last_sum W.format xs ≡ T → q ≡ closed W s xs

module _ (W : Width) (s : State) where
  pub ends_not : eq (tau1_of W s) (plus_zero W.format) ≡ true → ends_of W s ≡ false
  ends_not z = rw z

  pub ends_further : eq (tau1_of W s) (plus_zero W.format) ≡ false → ends_of W s ≡ finishes W s
  ends_further z = rw z

  -- rule 3's sum, of T
  pub finish_closes : (T : Float) → ends_of W s ≡ true → let f = W.format in
      ClosesWith W s T (Done (add f (tau1_of W s) (add f (sub f s.tau (sub f (tau1_of W s) s.t)) T)) (s.rounds + 1))
  unfolding finished
  finish_closes T h xs e = let b = both (eq (tau1_of W s) (plus_zero W.format)) (finishes W s) h in
      rw (← e) (sym (closed_finish W _ s xs b.0 b.1))
    where
      both : (a b : Bool) → (not a && b) ≡ true → (a ≡ false) × (b ≡ true)
      both false b e = (refl, e)
      both true b e = apart (cc)
