-- A round of a run with its blocks in rising order leaves what taking the whole work area at once leaves, and then closes. Assumes nothing.
use Rattle.std.specs.Prelude.{◌≡◌, Bool, true, false, cond, eqb, Float}
use Rattle.std.proofs.Math.Path.{refl, ap}
use Rattle.std.proofs.Common.{sym, ◌∙◌, mul-zero, arith}
use mathlib.Core.List.{List, [], ◌∷◌, foldl, foldl-append}
use Prim.Native.Nat.{ℕ, zero, suc, ◌-◌, ◌*◌, ◌^◌, ◌<◌}
use Rattle.std.proofs.Math.Nat.{sub_self}
use borrow.Author.Tests.{eq-eqb, ne_eqb}
use Rattle.std.proofs.Math.Pow.{pow-lt, pow_pos}
use Rattle.lists.proofs.BitsetLaws.{has_from}
use Rattle.kinds.specs.Limits.{Width, blocks_of}
use Rattle.kinds.specs.Outcome.{outcome}
use Rattle.kinds.specs.State.{State}
use Rattle.kinds.specs.Step.{More}
use Rattle.kinds.specs.Verdict.{Verdict}
use Rattle.kinds.specs.Verdict.{Good}
use Rattle.sound.specs.Sound.{gated}
use Rattle.rounds.specs.Round.{all_taken, all_left, closed}
use Rattle.rounds.specs.Fitting.{Fitting}
use Rattle.rounds.specs.Begun.{Begun}
use Rattle.rounds.proofs.Blocks.{tau_at, largest_at, state_at, work_at, next_state, next_work, first_state, first_work, covers, last_state, last_work}
use Rattle.walk.specs.Walk.{Walked, taken, stepped, stepped_after, onward, rising}
use Rattle.walk.specs.Stepping.{stepping, stepping_accepted}

module _ {W : Width} {F : Fitting W} {e : ℕ} {s : State} {xs : List Float} (B : Begun W F e s xs) where
  -- ---- one block
  accepted : (j : ℕ) → j < blocks_of W s.n → gated W (state_at B j) (state_at B j).ensemble j (work_at B j) ≡ Good
  unfolding state_at tau_at largest_at work_at
  accepted j h =
      stepping_accepted
      (stepping B (W.block * j) (2 ^ blocks_of W s.n - 2 ^ j)
      (omega (arith, pow-lt {i = j} {j = blocks_of W s.n} h)) (omega (arith, pow_pos j, pow_pos (blocks_of W s.n))))
      j h (has_from h)

  takes : (j : ℕ) → j < blocks_of W s.n → stepped W (state_at B j) (state_at B j).ensemble j (work_at B j)
      ≡ outcome (cond (eqb (state_at B (suc j)).pending 0) (closed W (state_at B (suc j)) (work_at B (suc j)))
      (More (state_at B (suc j)) (state_at B (suc j)).largest)) (work_at B (suc j))
  unfolding stepped_after taken state_at
  takes j h =
      let next = next_state B j h in
      let work = next_work B j h in
      ap (λ (v : Verdict). stepped_after W v (state_at B j) j (work_at B j)) (accepted j h)
      ∙ (λ i. outcome (cond (eqb (next i).pending 0) (closed W (next i) (work i)) (More (next i) (next i).largest)) (work i))

  some_left : (j : ℕ) → suc j < blocks_of W s.n → eqb (state_at B (suc j)).pending 0 ≡ false
  unfolding state_at
  some_left j h = ne_eqb (2 ^ blocks_of W s.n - 2 ^ suc j) 0 (omega (arith, pow-lt {i = suc j} {j = blocks_of W s.n} h))

  none_left : (m : ℕ) → blocks_of W s.n ≡ suc m → eqb (state_at B (suc m)).pending 0 ≡ true
  unfolding state_at
  none_left m b = eq-eqb (2 ^ blocks_of W s.n - 2 ^ suc m) 0 (rw b (sub_self (2 ^ suc m)))

  -- ---- the blocks before the last, and the last
  -- what is told before the first block is of no matter
  told_at : Float → ℕ → Float
  told_at m zero = m
  told_at m (suc j) = (state_at B (suc j)).largest

  goes_on : (m : Float) (j : ℕ) → j < blocks_of W s.n → foldl (onward W) (outcome (More (state_at B 0) m) (work_at B 0)) (rising j)
      ≡ outcome (More (state_at B j) (told_at m j)) (work_at B j)
  unfolding rising told_at
  goes_on m zero h = refl
  goes_on m (suc j) h =
      let next = state_at B (suc j) in
      let work = work_at B (suc j) in
      foldl-append (onward W) (outcome (More (state_at B 0) m) (work_at B 0)) (rising j) (j ∷ [])
      ∙ ap (λ (w : Walked). onward W w j) (goes_on m j (omega arith))
      ∙ takes j (omega arith)
      ∙ ap (λ (t : Bool). outcome (cond t (closed W next work) (More next next.largest)) work) (some_left j h)

  closes : (told : Float) (m : ℕ) → blocks_of W s.n ≡ suc m → foldl (onward W) (outcome (More (state_at B 0) told) (work_at B 0)) (rising (suc m))
      ≡ outcome (closed W (state_at B (suc m)) (work_at B (suc m))) (work_at B (suc m))
  unfolding rising
  closes told m b =
      let next = state_at B (suc m) in
      let work = work_at B (suc m) in
      foldl-append (onward W) (outcome (More (state_at B 0) told) (work_at B 0)) (rising m) (m ∷ [])
      ∙ ap (λ (w : Walked). onward W w m) (goes_on told m (omega arith))
      ∙ takes m (omega arith)
      ∙ ap (λ (t : Bool). outcome (cond t (closed W next work) (More next next.largest)) work) (none_left m b)

  -- ---- the round
  pub round_closes : (told : Float) → foldl (onward W) (outcome (More s told) xs) (rising (blocks_of W s.n))
      ≡ outcome (closed W (all_taken W s xs) (all_left W s xs))
      (all_left W s xs)
  round_closes told = go (blocks_of W s.n) refl
    where
      go : (m : ℕ) → blocks_of W s.n ≡ m → foldl (onward W) (outcome (More s told) xs) (rising (blocks_of W s.n))
          ≡ outcome (closed W (all_taken W s xs) (all_left W s xs))
          (all_left W s xs)
      go zero b = absurd (omega (arith, covers B, B.some, ap (λ (k : ℕ). W.block * k) b, mul-zero W.block))
      go (suc m) b =
          let state = ap (state_at B) (sym b) ∙ last_state B in
          let work = ap (work_at B) (sym b) ∙ last_work B in
          (λ i. foldl (onward W) (outcome (More (sym (first_state B) i) told) (sym (first_work B) i)) (rising (b i)))
          ∙ closes told m b
          ∙ (λ i. outcome (closed W (state i) (work i)) (work i))
