-- The blocks of a round in rising order: what the first of them leave, and that all of them leave what taking the whole work area at once leaves.
-- Assumes nothing.
use Rattle.std.specs.Prelude.{◌≡◌, List, ◌++◌, ℕ, suc, ◌+◌, ◌-◌, ◌*◌, ◌^◌, ◌≤◌, ◌<◌, Float}
use Rattle.std.proofs.Math.Path.{sym, ap}
use Rattle.std.proofs.Common.{◌∙◌, append_assoc, append-nil, mul-zero, mul_comm, le-div_iff_mul-le, arith, drop_at, length-take-le, take_all}
use Rattle.std.proofs.Math.Nat.{sub_self, mul-suc, lt-div-mul-add}
use Rattle.std.proofs.Math.ListN.{length, take, drop, drop_of_length-le}
use Rattle.std.proofs.Math.Seq.{take-add, drop-drop, take_at}
use Rattle.lists.proofs.BitsetLaws.{without_from}
use Rattle.kinds.specs.Limits.{Width, blocks_of}
use Rattle.kinds.specs.State.{State}
use Rattle.extract.specs.Extract.{remainders, gathered, largest_with}
use Rattle.extract.specs.ExtractLaws.{gathered_none, gathered_join, remainders_none, remainders_join, remainders_length}
use Rattle.extract.proofs.LargestWithLaws.{with_none, with_join}
use Rattle.rounds.specs.Round.{block_of, turned, in_round, taken_state, all_taken, all_left}
use Rattle.rounds.specs.Fitting.{Fitting}
use Rattle.rounds.specs.Begun.{Begun, begun_largest, taken_numbers}

module _ {W : Width} {F : Fitting W} {e : ℕ} {s : State} {xs : List Float} (B : Begun W F e s xs) where
  -- ---- after the first j blocks
  unfoldable pub tau_at : ℕ → Float
  tau_at j = gathered W.format s.sigma s.tau (take (W.block * j) xs)

  unfoldable pub largest_at : ℕ → Float
  largest_at j = largest_with W.format s.largest (remainders W.format s.sigma (take (W.block * j) xs))

  unfoldable pub state_at : ℕ → State
  state_at j = in_round s (tau_at j) (largest_at j) (2 ^ blocks_of W s.n - 2 ^ j)

  unfoldable pub work_at : ℕ → List Float
  work_at j = remainders W.format s.sigma (take (W.block * j) xs) ++ drop (W.block * j) xs

  -- a block that there is starts inside the area
  starts : (j : ℕ) → j < blocks_of W s.n → W.block * j < s.n
  starts j h =
      let b = W.block in
      let l : suc j * b ≤ s.n + (b - 1) = (le-div_iff_mul-le {k = b} F.block).0 h in
      omega (arith, l, mul_comm b j, F.block)

  front : (j : ℕ) → j < blocks_of W s.n → length (remainders W.format s.sigma (take (W.block * j) xs)) ≡ W.block * j
  front j h =
      remainders_length W.format s.sigma (take (W.block * j) xs) ∙ length-take-le (W.block * j) xs (omega (arith, starts j h, B.count))

  block_at : (j : ℕ) → j < blocks_of W s.n → block_of W j (work_at j) ≡ take W.block (drop (W.block * j) xs)
  unfolding work_at
  block_at j h = ap (take W.block) (drop_at (remainders W.format s.sigma (take (W.block * j) xs)) _ (W.block * j) (front j h))

  next_tau : (j : ℕ) → j < blocks_of W s.n → gathered W.format s.sigma (tau_at j) (block_of W j (work_at j)) ≡ tau_at (suc j)
  unfolding tau_at
  next_tau j h =
      let f = W.format in
      rw (block_at j h, mul-suc W.block j, take-add (W.block * j) W.block xs)
      (sym (gathered_join f s.sigma s.tau (take (W.block * j) xs) (take W.block (drop (W.block * j) xs))))

  pub next_largest : (j : ℕ) → j < blocks_of W s.n
      → largest_with W.format (largest_at j) (remainders W.format s.sigma (block_of W j (work_at j))) ≡ largest_at (suc j)
  unfolding largest_at
  next_largest j h =
      let f = W.format in
      let front = take (W.block * j) xs in
      let block = take W.block (drop (W.block * j) xs) in
      rw (block_at j h, mul-suc W.block j, take-add (W.block * j) W.block xs, remainders_join f s.sigma)
      (with_join f (begun_largest B) (remainders f s.sigma front) (remainders f s.sigma block) (taken_numbers B (W.block * j)))

  pub next_work : (j : ℕ) → j < blocks_of W s.n → turned W s.sigma j (work_at j) ≡ work_at (suc j)
  unfolding turned work_at
  next_work j h =
      let f = W.format in
      let k = W.block * j in
      let done = remainders f s.sigma (take k xs) in
      rw (block_at j h, take_at done (drop k xs) k (front j h), rest, mul-suc W.block j, take-add k W.block xs, remainders_join f s.sigma)
      (sym (append_assoc done (remainders f s.sigma (take W.block (drop k xs))) (drop (k + W.block) xs)))
    where
      rest : drop (W.block * j + W.block) (remainders W.format s.sigma (take (W.block * j) xs) ++ drop (W.block * j) xs)
          ≡ drop (W.block * j + W.block) xs
      rest =
          sym (drop-drop W.block (W.block * j) (remainders W.format s.sigma (take (W.block * j) xs) ++ drop (W.block * j) xs))
          ∙ ap (drop W.block) (drop_at (remainders W.format s.sigma (take (W.block * j) xs)) (drop (W.block * j) xs) (W.block * j) (front j h))
          ∙ drop-drop W.block (W.block * j) xs

  pub next_state : (j : ℕ) → j < blocks_of W s.n → taken_state W (state_at j) j (work_at j) ≡ state_at (suc j)
  unfolding state_at
  next_state j h = λ i. in_round s (next_tau j h i) (next_largest j h i) (without_from h i)

  -- ---- before the first block, and after the last
  pub first_state : state_at 0 ≡ s
  unfolding state_at tau_at largest_at
  first_state =
      rw (mul-zero W.block, gathered_none W.format s.sigma, remainders_none W.format s.sigma)
      (λ i. in_round s s.tau (with_none W.format (begun_largest B) i) (sym B.pending i))

  pub first_work : work_at 0 ≡ xs
  unfolding work_at
  first_work = rw (mul-zero W.block, remainders_none W.format s.sigma)

  pub covers : s.n ≤ W.block * blocks_of W s.n
  covers = omega (arith, lt-div-mul-add {a = s.n + (W.block - 1)} {b = W.block} F.block, mul_comm W.block (blocks_of W s.n), F.block)

  pub last_state : state_at (blocks_of W s.n) ≡ all_taken W s xs
  unfolding state_at tau_at largest_at
  last_state = rw (take_all (W.block * blocks_of W s.n) xs (omega (arith, covers, B.count)), sub_self (2 ^ blocks_of W s.n))

  pub last_work : work_at (blocks_of W s.n) ≡ all_left W s xs
  unfolding work_at
  last_work =
      let l : length xs ≤ W.block * blocks_of W s.n = omega (arith, covers, B.count) in
      rw (take_all (W.block * blocks_of W s.n) xs l, drop_of_length-le xs {i = W.block * blocks_of W s.n} l) (append-nil (all_left W s xs))
