-- A round of a run as it opens, tau and the largest remainder after some of its numbers were taken in rising order, and mu of its close. Assumes nothing.
use Rattle.std.specs.Prelude.{◌≡◌, List, ℕ, suc, ◌+◌, ◌-◌, ◌*◌, ◌^◌, ◌≤◌, ◌<◌, max, length, take, T, Float}
use Rattle.std.proofs.Common.{ap, mul-le-mul_left, mul-le-mul_right, lt_of_mul-lt-mul_right, arith, length-take, take_all, pow-add, pow_mono}
use Rattle.std.specs.Float.Ieee.{prec}
use Rattle.std.specs.Float.Ieee.Scale.{finite}
use Rattle.units.proofs.Ceiling.{ceil_ge}
use Rattle.units.proofs.Turns.{tau_zero}
use Rattle.ieee.specs.Units.{Number, whole}
use Rattle.ieee.proofs.Sum.{whole_mag}
use Rattle.lists.specs.Bitset.{full}
use Rattle.lists.specs.Each.{Each, each_take, each_weaker}
use Rattle.kinds.specs.Limits.{Width, exponent_of, blocks_of}
use Rattle.kinds.specs.State.{State}
use Rattle.extract.specs.Extract.{plus_zero, gathered, remainder_of, remainders, largest, largest_with}
use Rattle.extract.specs.LargestLaws.{Positive, zero_positive}
use Rattle.extract.proofs.LargestWithLaws.{with_positive}
use Rattle.rounds.specs.Round.{all_taken, all_left, closed_by, closed}
use Rattle.rounds.specs.Fitting.{Fitting}
use Rattle.rounds.specs.InUnits.{Small, Scale, Tau, gathers, left_small, remainders_small}
use Rattle.rounds.specs.Closable.{Takable}

-- a state that opens a round of a run, with its work area: sigma is 2^(M + e) units, the work numbers are at most 2^e, each round closed has lowered e by
-- prec - M or more, nothing was gathered, every block is pending and no remainder was seen
pub record Begun (W : Width) (F : Fitting W) (e : ℕ) (s : State) (xs : List Float) : Type 0 where
  pub some : 1 ≤ s.n
  pub few : s.n ≤ W.length
  pub count : length xs ≡ s.n
  pub lowered : s.rounds * (prec W.format - exponent_of s.n) + e ≤ F.top
  pub scale : Scale W.format (exponent_of s.n) e s.sigma
  pub carried : Small W.format (2 ^ F.bound) s.t
  pub work : Each (Small W.format (2 ^ e)) xs
  pub tau : s.tau ≡ plus_zero W.format
  pub pending : s.pending ≡ full (blocks_of W s.n)
  pub largest : s.largest ≡ plus_zero W.format

module _ {W : Width} {F : Fitting W} {e : ℕ} {s : State} {xs : List Float} (B : Begun W F e s xs) where
  -- the rounds closed are fewer than the width allows
  pub begun_rounds : s.rounds ≤ W.rounds
  begun_rounds =
      let p = prec W.format in
      let M = exponent_of s.n in
      let apart : p - F.most ≤ p - M = omega (arith, F.most_is s.n B.few) in
      let h : s.rounds * (p - M) < suc W.rounds * (p - M) =
      omega (arith, B.lowered, F.enough, mul-le-mul_left (suc W.rounds) apart) in
      let l : s.rounds < suc W.rounds = lt_of_mul-lt-mul_right (p - M) h in omega arith

  pub first_tau : Tau B.scale 0 s.tau
  unfolding whole
  first_tau =
      let z = zero_positive W.format in
      rw B.tau (record {
        number = z.number;
        units = rw (z.sign, z.units) (tau_zero (prec W.format) (exponent_of s.n) e);
        plus = λ h. z.sign;
      })

  pub begun_largest : Positive W.format s.largest 0
  begun_largest = rw B.largest (zero_positive W.format)

  -- the remainders of the first k numbers
  pub taken_numbers : (k : ℕ) → Each (Number W.format) (remainders W.format s.sigma (take k xs))
  taken_numbers k =
      each_weaker _ _ (λ y Y. Y.number) (remainders W.format s.sigma (take k xs))
      (remainders_small B.scale (take k xs) (each_take (Small W.format (2 ^ e)) k xs B.work))

  -- the largest remainder of the first k numbers
  pub largest_taken : (k : ℕ) → Positive W.format (largest_with W.format s.largest (remainders W.format s.sigma (take k xs)))
      (largest W.format (remainders W.format s.sigma (take k xs)))
  largest_taken k =
      let f = W.format in
      let ys = remainders f s.sigma (take k xs) in
      let z : max 0 (largest f ys) ≡ largest f ys = omega arith in
      rw z at (with_positive f begun_largest ys (taken_numbers k))

  -- what the code that takes blocks asks
  pub begun_takable : Takable W s xs
  begun_takable = record {
    fini = begun_largest.number.fini;
    positive = begun_largest.sign;
    remainders = each_weaker (Small W.format (2 ^ e)) (λ x. T (finite (remainder_of W.format s.sigma x)))
        (λ x X. (left_small B.scale X).number.fini) xs B.work;
  }

  -- mu of its close is the largest magnitude of its area
  pub largest_left : Positive W.format (all_taken W s xs).largest (largest W.format (all_left W s xs))
  largest_left = rw (take_all (length xs) xs (omega arith)) at (largest_taken (length xs))

  pub closes_by : closed W (all_taken W s xs) (all_left W s xs) ≡ closed_by W (largest W.format (all_left W s xs)) (all_taken W s xs) (all_left W s xs)
  closes_by = ap (λ (mu : ℕ). closed_by W mu (all_taken W s xs) (all_left W s xs)) largest_left.units

  fewer : (k : ℕ) → length (take k xs) ≤ 2 ^ exponent_of s.n
  fewer k = omega (arith, length-take k xs, B.count, ceil_ge (s.n + 2))

  -- tau after the first k numbers
  pub tau_taken : (k : ℕ) → Tau B.scale (length (take k xs)) (gathered W.format s.sigma s.tau (take k xs))
  tau_taken k =
      let z : 0 + length (take k xs) ≡ length (take k xs) = omega arith in
      rw z at (gathers B.scale (take k xs) first_tau (each_take (Small W.format (2 ^ e)) k xs B.work) (omega (arith, fewer k))).0

  -- tau stays within what a sound state may have
  pub tau_bound : {c : ℕ} {tau : Float} → Tau B.scale c tau → c ≤ 2 ^ exponent_of s.n → Small W.format (2 ^ F.bound) tau
  tau_bound {c} {tau} T l =
      let M = exponent_of s.n in
      let most : 2 ^ (M + e) ≤ 2 ^ F.bound = pow_mono (omega (arith, F.most_is s.n B.few, B.lowered, F.tau_room)) in
      record {
        number = T.number;
        within = omega (arith, T.units.small, whole_mag W.format tau, mul-le-mul_right (2 ^ e) l, pow-add 2 M e, most);
      }

  pub tau_small : (k : ℕ) → Small W.format (2 ^ F.bound) (gathered W.format s.sigma s.tau (take k xs))
  tau_small k = tau_bound (tau_taken k) (fewer k)

  pub tau_all : Small W.format (2 ^ F.bound) (all_taken W s xs).tau
  tau_all = rw (take_all s.n xs (omega (arith, B.count))) at (tau_small s.n)
