-- A round in the middle, whatever blocks were taken in whatever order: the state is a function of the pending set, it is sound, each pending block is
-- accepted, and after the last the round closes as in rising order. Assumes nothing.
use Rattle.std.specs.Prelude.{◌≡◌, refl, true, List, [], ◌∷◌, map, ℕ, ◌+◌, ◌-◌, ◌*◌, ◌/◌, ◌^◌, ◌≤◌, ◌<◌, length, drop, Float}
use Rattle.std.proofs.Common.{sym, ap, ◌∙◌, div-lt_iff_lt-mul, arith, pow_pos}
use Rattle.std.proofs.Math.Nat.{lt-div-mul-add}
use Rattle.std.proofs.lemmas.List.{length-map}
use Rattle.std.specs.Float.{Format}
use Rattle.std.specs.Float.Ieee.{prec}
use Rattle.units.specs.Whole.{Whole, ◌⊕◌, ◌≈◌, total}
use Rattle.units.proofs.Ceiling.{ceil_ge}
use Rattle.units.specs.Walk as units
use Rattle.units.proofs.Turns.{turns}
use Rattle.ieee.specs.Units.{Number, whole}
use Rattle.ieee.proofs.Rounded.{prec_pos}
use Rattle.lists.specs.Bitset.{has, without, full}
use Rattle.lists.proofs.BitsetLaws.{has_full, has_below, without_less}
use Rattle.lists.specs.Each.{Each, each_take, each_drop, each_weaker}
use Rattle.kinds.specs.Limits.{Width, exponent_of, blocks_of}
use Rattle.kinds.specs.State.{State}
use Rattle.extract.specs.Extract.{gathered, remainders, largest, largest_with}
use Rattle.extract.specs.ExtractLaws.{remainders_none, largest_none}
use Rattle.extract.specs.LargestLaws.{Positive}
use Rattle.extract.proofs.LargestWithLaws.{with_positive}
use Rattle.rounds.specs.Round.{block_of, in_round}
use Rattle.rounds.specs.Fitting.{Fitting}
use Rattle.rounds.specs.InUnits.{Small, Tau, wholes, all_ready, gathers, left_small, remainders_small}
use Rattle.rounds.specs.Begun.{Begun, first_tau, tau_bound, begun_largest}
use Rattle.walk.specs.Stepping.{Stepping, begun_numbers}
use Rattle.runs.proofs.CloseUnits.{zero_whole}
use Rattle.runs.specs.Taken.{pending_at, taken_of, mid_area}
use Rattle.runs.specs.TakenLaws.{Throughout}
use Rattle.runs.proofs.TakenLaws.{taken_nothing, taken_fewer, taken_each, mixed_nothing, mixed_each, mixed_length}
use Rattle.runs.proofs.OneBlock.{count_then, total_then, largest_then}
use Rattle.runs.proofs.MembersLaws.{has_positive}
use Rattle.runs.specs.MidRound.{high_units}

pub high_list : (f : Format) (k : ℕ) (xs : List Float) → units.highs (prec f) k (wholes f xs) ≡ map (high_units f k) xs
high_list f k [] = refl
high_list f k (x ∷ xs) = ap (λ (l : List Whole). high_units f k x ∷ l) (high_list f k xs)

-- tau after the blocks that aren't in P were taken: the exact sum of their numbers' high parts; and m, the largest of their remainders
module _ {W : Width} {F : Fitting W} {e : ℕ} {s : State} {xs : List Float} (B : Begun W F e s xs) where
  pub record Mid (P : ℕ) (tau m : Float) : Type 0 where
    pub inside : P < 2 ^ blocks_of W s.n
    pub tau_is : Tau B.scale (length (taken_of (pending_at W P) 0 xs)) tau
    pub sum : whole W.format tau ≈ total (map (high_units W.format (exponent_of s.n + e)) (taken_of (pending_at W P) 0 xs))
    pub kept : Positive W.format m (largest W.format (remainders W.format s.sigma (taken_of (pending_at W P) 0 xs)))

  pub count_small : (P : ℕ) → length (taken_of (pending_at W P) 0 xs) ≤ s.n
  count_small P = omega (arith, taken_fewer (pending_at W P) 0 xs, B.count)

  -- every place is in a block
  pub block_below : (j : ℕ) → j < s.n → j / W.block < blocks_of W s.n
  block_below j h = (div-lt_iff_lt-mul {k = W.block} F.block).1
      (omega (arith, lt-div-mul-add {a = s.n + (W.block - 1)} {b = W.block} F.block, F.block))

  -- as the round opens every block is pending, and the area is the list
  begins_all : Throughout (λ j. pending_at W s.pending j ≡ true) 0 (length xs)
  begins_all j l h = rw B.pending (has_full (block_below j (omega (arith, B.count))))

  pub begins_area : mid_area W s s.pending xs ≡ xs
  begins_area = mixed_nothing (pending_at W s.pending) W.format s.sigma 0 xs begins_all

  pub begins_some : 0 < s.pending
  begins_some =
      let blocks : 0 < blocks_of W s.n = let h = block_below 0 B.some in omega arith in
      rw B.pending (has_positive (full (blocks_of W s.n)) 0 (has_full blocks))

  pub mid_begins : Mid s.pending s.tau s.largest
  mid_begins =
      let none = taken_nothing (pending_at W s.pending) 0 xs begins_all in
      record {
        inside = rw B.pending (omega (arith, pow_pos (blocks_of W s.n)));
        tau_is = rw none (first_tau B);
        sum = rw (none, B.tau, zero_whole W.format) refl;
        kept = rw (none, remainders_none W.format s.sigma, largest_none W.format) (begun_largest B);
      }

  pub mid_takes : {P : ℕ} {tau m : Float} → Mid P tau m → (b : ℕ) → has P b ≡ true
      → Mid (without P b) (gathered W.format s.sigma tau (block_of W b xs))
      (largest_with W.format m (remainders W.format s.sigma (block_of W b xs)))
  mid_takes {P} {tau} T b h = record {
    inside = omega (arith, T.inside, without_less P b h);
    tau_is = rw count G.0;
    sum = omega (arith, total_then W F.block xs b there P h (high_units f k), T.sum, grown);
    kept = rw (largest_then W F.block xs b there P h f s.sigma) (with_positive f T.kept (remainders f s.sigma block) left);
  }
    where
      f : Format
      f = W.format

      k : ℕ
      k = exponent_of s.n + e

      block : List Float
      block = block_of W b xs

      there : b < blocks_of W (length xs)
      there = rw B.count (has_below P b h (blocks_of W s.n) T.inside)

      count : length (taken_of (pending_at W (without P b)) 0 xs) ≡ length (taken_of (pending_at W P) 0 xs) + length block
      count = count_then W F.block xs b there P h

      most : length (taken_of (pending_at W P) 0 xs) + length block ≤ 2 ^ exponent_of s.n
      most = omega (arith, count, count_small (without P b), ceil_ge (s.n + 2))

      small : Each (Small f (2 ^ e)) block
      small = each_take (Small f (2 ^ e)) W.block (drop (W.block * b) xs) (each_drop (Small f (2 ^ e)) (W.block * b) xs B.work)

      left : Each (Number f) (remainders f s.sigma block)
      left = each_weaker _ _ (λ y Y. Y.number) (remainders f s.sigma block) (remainders_small B.scale block small)

      G : Tau B.scale (length (taken_of (pending_at W P) 0 xs) + length block) (gathered f s.sigma tau block)
          × (whole f (gathered f s.sigma tau block) ≡ units.gathered (prec f) k (whole f tau) (wholes f block))
      G = gathers B.scale block T.tau_is small most

      grown : whole f (gathered f s.sigma tau block) ≈ whole f tau ⊕ total (map (high_units f k) block)
      grown =
          let c = length (taken_of (pending_at W P) 0 xs) in
          rw (G.1, ← (high_list f k block)) (turns (prec f) (prec_pos f) (exponent_of s.n) e B.scale.some B.scale.few (wholes f block)
          (c + length block) T.tau_is.units (all_ready B.scale block small) (ap (λ (l : ℕ). c + l) (sym (length-map block (whole f)))) most).1

  -- ---- the state is sound
  pub mid_stepping : {P : ℕ} {tau m : Float} → Mid P tau m → 0 < P
      → Stepping W F e (in_round s tau m P) (mid_area W s P xs)
  mid_stepping {P} T l = record {
    numbers = begun_numbers B P (tau_bound B T.tau_is (omega (arith, count_small P, ceil_ge (s.n + 2)))) (taken_of (pending_at W P) 0 xs)
        (taken_each (pending_at W P) (Small W.format (2 ^ e)) 0 xs B.work) T.kept;
    count = mixed_length (pending_at W P) W.format s.sigma 0 xs ∙ B.count;
    sigma = B.scale.power.units;
    work = mixed_each (pending_at W P) W.format s.sigma (Small W.format (2 ^ e)) (λ x X. left_small B.scale X) 0 xs B.work;
    left = l;
    inside = T.inside;
  }
