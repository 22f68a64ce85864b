-- A block that passed the gate is what the code that takes it asks, and leaves what the code of a close asks, for every sound state. Assumes nothing.
use Rattle.std.specs.Prelude.{◌≡◌, refl, List, ◌++◌, ℕ, ◌+◌, ◌*◌, ◌^◌, ◌≤◌, ◌<◌, max, T, length, take, Float}
use Rattle.std.proofs.Common.{le_trans, arith, length-append, length-drop, pow-add, pow_mono, pow_pos}
use Rattle.std.proofs.Math.Nat.{le_of_mul-le-mul_left}
use Rattle.std.proofs.Math.ListN.{drop, length-take}
use Rattle.std.specs.Float.{Format}
use Rattle.std.specs.Float.Ieee.{prec, fits}
use Rattle.std.specs.Float.Ieee.Scale.{finite}
use Rattle.ieee.specs.Units.{magnitude}
use Rattle.lists.specs.Each.{Each, each_join, each_take, each_drop, each_weaker, each_both}
use Rattle.kinds.specs.Limits.{Width, exponent_of}
use Rattle.kinds.specs.State.{State}
use Rattle.kinds.specs.Verdict.{Good}
use Rattle.exponent.specs.Power.{powers}
use Rattle.exponent.proofs.PowerLaws.{power_number, power_negative, power_magnitude}
use Rattle.extract.specs.Extract.{remainder_of, remainders, largest}
use Rattle.extract.specs.ExtractLaws.{remainders_length, largest_le, max_scaled}
use Rattle.extract.specs.LargestLaws.{Positive}
use Rattle.extract.proofs.LargestWithLaws.{with_positive}
use Rattle.judge.specs.Table.{size_of}
use Rattle.sound.specs.Sound.{gated}
use Rattle.sound.specs.AdmittedLaws.{Admitted}
use Rattle.sound.proofs.AdmittedLaws.{admitted}
use Rattle.sound.specs.Numbers.{FiniteWithin, UpToEps}
use Rattle.rounds.specs.Round.{block_of, turned, taken_state}
use Rattle.rounds.specs.InUnits.{Small, Scale, left_small, remainders_small, largest_eps}
use Rattle.rounds.specs.Closable.{Takable, Closable}
use Rattle.rounds.specs.Fitting.{Fitting}
use Rattle.rounds.proofs.FreshRound.{exponent_some}

pub admits : {W : Width} (F : Fitting W) (s : State) (k b : ℕ) (xs : List Float) → T (fits W.format s.sigma) → gated W s k b xs ≡ Good
    → Admitted W F.top s b xs
admits {W} F s k b xs fit g = admitted W F.top F.top_is (λ n h. omega (arith, F.most_is n h, F.room)) s k b xs fit g

module _ {W : Width} (F : Fitting W) {s : State} {b : ℕ} {xs : List Float} (P : Admitted W F.top s b xs) (fit : Each (λ x. T (fits W.format x)) xs) where
  pub scale : Scale W.format (exponent_of s.n) P.e s.sigma
  scale = record {
    some = exponent_some s.n;
    few = omega (arith, F.most_is s.n P.numbers.counts.few, F.half);
    room = omega (arith, F.most_is s.n P.numbers.counts.few, P.low, F.room);
    power = rw P.sigma (record { number = power_number f inside; sign = power_negative f inside; units = power_magnitude f inside });
  }
    where
      f : Format
      f = W.format

      inside : exponent_of s.n + P.e < powers f
      inside = omega (arith, F.most_is s.n P.numbers.counts.few, P.low, F.room)

  pub small : Each (Small W.format (2 ^ P.e)) xs
  small = each_both (FiniteWithin W.format (2 ^ P.e)) (λ x. T (fits W.format x)) (Small W.format (2 ^ P.e))
      (λ x X f. record { number = record { fit = f; fini = X.fini }; within = X.small }) xs P.work fit

  pub turned_small : Each (Small W.format (2 ^ P.e)) (turned W s.sigma b xs)
  unfolding turned
  turned_small =
      let A = Small W.format (2 ^ P.e) in
      let k = W.block * b in
      let block = remainders_small scale (block_of W b xs) (each_take A W.block (drop k xs) (each_drop A k xs small)) in
      let turn = remainders W.format s.sigma (block_of W b xs) in
      let after = drop (k + W.block) xs in
      each_join A (take k xs) (turn ++ after) (each_take A k xs small) (each_join A turn after block (each_drop A (k + W.block) xs small))

  pub turned_length : length (turned W s.sigma b xs) ≡ length xs
  unfolding turned
  turned_length =
      simp (length-append, remainders_length W.format s.sigma, length-take, length-drop)
      (omega arith)

  pub admitted_takable : Takable W s xs
  admitted_takable = record {
    fini = P.numbers.largest.fini;
    positive = P.numbers.largest.unsigned;
    remainders = each_weaker (Small W.format (2 ^ P.e)) (λ x. T (finite (remainder_of W.format s.sigma x))) (λ x X. (left_small scale X).number.fini)
        xs small;
  }

  -- ---- the largest remainder, so far and with those of the block
  module _ (held : T (fits W.format s.largest)) where
    abbrev f : Format
    f = W.format

    so_far : Positive f s.largest (magnitude f s.largest)
    so_far = record { number = record { fit = held; fini = P.numbers.largest.fini }; sign = P.numbers.largest.unsigned; units = refl }

    abbrev left : List Float
    left = remainders f s.sigma (block_of W b xs)

    block : Each (Small f (2 ^ P.e)) (block_of W b xs)
    block =
        let A = Small f (2 ^ P.e) in
        each_take A W.block (drop (W.block * b) xs) (each_drop A (W.block * b) xs small)

    left_each : Each (Small f (2 ^ P.e)) left
    left_each = remainders_small scale (block_of W b xs) block

    pub taken_largest : Positive f (taken_state W s b xs).largest (max (magnitude f s.largest) (largest f left))
    taken_largest = with_positive f so_far left (each_weaker _ _ (λ x X. X.number) left left_each)

    -- it is sound still
    pub taken_eps : UpToEps f s.sigma (taken_state W s b xs).largest
    taken_eps = record {
      fini = taken_largest.number.fini;
      unsigned = taken_largest.sign;
      small = rw taken_largest.units (max_scaled (2 ^ prec f) (magnitude f s.sigma) (magnitude f s.largest) (largest f left)
          P.numbers.largest.small (largest_eps scale (block_of W b xs) block));
    }

    -- eps times sigma is at most 2^top units
    so_far_small : magnitude f s.largest ≤ 2 ^ F.top
    so_far_small = le_of_mul-le-mul_left capped (pow_pos (prec f))
      where
        capped : 2 ^ prec f * magnitude f s.largest ≤ 2 ^ prec f * 2 ^ F.top
        capped =
            let l : 2 ^ (exponent_of s.n + P.e) ≤ 2 ^ (prec f + F.top) = pow_mono (omega (arith, scale.few, P.low)) in
            rw (← (pow-add 2 (prec f) F.top)) (le_trans P.numbers.largest.small (rw scale.power.units l))

    pub taken_small : Small f (size_of W W.magnitude) (taken_state W s b xs).largest
    taken_small =
        let most : largest f left ≤ 2 ^ F.top =
        le_trans (largest_le f (2 ^ P.e) left (each_weaker _ _ (λ x X. X.within) left left_each)) (pow_mono P.low) in
        record { number = taken_largest.number; within = rw (taken_largest.units, F.top_is) (omega (arith, so_far_small)) }

    pub admitted_closable : Closable W (taken_state W s b xs)
    admitted_closable = record { counts = P.numbers.counts; sigma = P.numbers.sigma; largest = taken_small; positive = taken_largest.sign }
