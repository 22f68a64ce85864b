-- The answers of an accepted call are no refusals: a fresh start, a close and a taken block. Assumes nothing.
use Rattle.std.specs.Prelude.{refl, Bool, true, false, cond, List, ℕ, ◌+◌, eqb, Float}
use Rattle.kinds.specs.Limits.{Width}
use Rattle.kinds.specs.State.{State}
use Rattle.kinds.specs.Step.{Step}
use Rattle.kinds.specs.Step.{More, Done}
use Rattle.extract.specs.Extract.{plus_zero}
use Rattle.rounds.specs.Round.{turned, taken_state, fresh, closed_by}
use Rattle.rounds.specs.ClosedLaws.{fresh_each, closed_each}
use Rattle.walk.specs.Walk.{taken}
use Rattle.walk.specs.NoRefusal.{Unrefused}

done : {x : Float} {r : ℕ} → Unrefused (Done x r)
done = record { good = refl }

more : {s : State} {told : Float} → Unrefused (More s told)
more = record { good = refl }

either : (t : Bool) {a b : Step} → Unrefused a → Unrefused b → Unrefused (cond t a b)
either true A B = A
either false A B = B

pub fresh_accepted : (W : Width) (zero : Float) (n mu rounds ensemble : ℕ) (told : Float) → Unrefused (fresh W zero n mu rounds ensemble told)
fresh_accepted W zero n mu rounds ensemble told = fresh_each Unrefused W zero n mu rounds ensemble told (λ a. done) (λ a. more)

closed_accepted : (W : Width) (mu : ℕ) (s : State) (xs : List Float) → Unrefused (closed_by W mu s xs)
closed_accepted W mu s xs =
    closed_each Unrefused W mu s xs
    (λ z. fresh_accepted W (plus_zero W.format) s.n mu (s.rounds + 1) s.ensemble s.largest) (λ z r. done) (λ z r. more)

pub taken_accepted : (W : Width) (s : State) (b : ℕ) (work : List Float) → Unrefused (taken W s b work).answer
unfolding taken
taken_accepted W s b work = either (eqb (taken_state W s b work).pending 0) (closed_accepted W _ (taken_state W s b work) (turned W s.sigma b work)) more
