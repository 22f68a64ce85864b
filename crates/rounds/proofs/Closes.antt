-- How a round of a run closes: it ends the walk, or opens a round that has what a round of a run has, with e lowered by prec - M or more. Assumes nothing.
use Rattle.std.specs.Prelude.{◌≡◌, refl, ◌⊎◌, Bool, true, false, List, ℕ, suc, ◌+◌, ◌-◌, ◌*◌, ◌^◌, ◌≤◌, ◌<◌, leb, Float}
use Rattle.std.proofs.Common.{sym, ap, ◌∙◌, inl, inr, suc-mul, one-mul, add-one, arith, leb-true, leb-false, lit<, pow-add, pow_mono}
use Rattle.std.proofs.lemmas.Bool.{eqb-false}
use Rattle.std.proofs.Math.Pow.{pow-lt}
use Rattle.std.specs.Float.Ieee.{Format, prec, low, hid, le}
use Rattle.std.specs.Float.{binary32, binary64}
use Rattle.std.specs.Float.Ieee.Fits.{mul-fits}
use Rattle.units.specs.Rounding.{ceil}
use Rattle.units.proofs.Ceiling.{ceil_least}
use Rattle.units.proofs.Powers.{le_or_lt}
use Rattle.ieee.specs.Units.{Number, Is, negative, magnitude, signed_whole, whole}
use Rattle.ieee.proofs.Finite.{is_finite, is_units}
use Rattle.ieee.proofs.Sum.{whole_mag}
use Rattle.ieee.proofs.InRange.{add_rounds}
use Rattle.ieee.proofs.Compare.{le_units}
use Rattle.ieee.proofs.ProductExact.{mul_powers}
use Rattle.exponent.specs.Power.{powers, power_of}
use Rattle.exponent.proofs.PowerLaws.{power_is, power_number, power_negative, power_magnitude, high_power}
use Rattle.extract.specs.Extract.{remainder_of, remainders, largest}
use Rattle.extract.specs.ExtractLaws.{remainders_length, largest_le, largest_zero}
use Rattle.extract.specs.LargestLaws.{Positive, Unsigned, positive_is, absolute_is}
use Rattle.kinds.specs.Limits.{Width, exponent_of}
use Rattle.kinds.specs.State.{State}
use Rattle.lists.specs.Each.{Each, each_map, each_weaker}
use Rattle.rounds.specs.Round.{all_taken, all_left, scaled, all_zero, least_normal, fresh_round, closed_by}
use Rattle.rounds.specs.ClosedLaws.{tau1_of, finishes, further_round, not_finishes, fresh_each, closed_each}
use Rattle.rounds.specs.Fitting.{Fitting}
use Rattle.rounds.specs.InUnits.{Small, remainder_small}
use Rattle.rounds.specs.Begun.{Begun, tau_all}
use Rattle.rounds.proofs.FreshRound.{begins, largest_small}
use Rattle.rounds.specs.Closes.{Next}
use Rattle.rounds.specs.Closes.{ends}
use Rattle.rounds.specs.Closes.{goes}

-- ---- 2^j eps times 2^k units are 2^c units, c = j + k - prec
pub scaled_positive : (f : Format) (j k c : ℕ) {sigma : Float} → prec f ≤ low f → Positive f sigma (2 ^ k) → c + prec f ≡ j + k → j ≤ prec f
    → c < powers f → Positive f (scaled f j sigma) (2 ^ c)
unfolding scaled
scaled_positive f j k c {sigma} fine S e h l = record {
  number = record { fit = mul-fits f (power_of f i) sigma; fini = is_finite f (scaled f j sigma) false (2 ^ c) product };
  sign = (is_units f (scaled f j sigma) false (2 ^ c) product).0;
  units = (is_units f (scaled f j sigma) false (2 ^ c) product).1;
}
  where
    i : ℕ
    i = low f + j - prec f

    product : Is f (scaled f j sigma) false (2 ^ c)
    product = mul_powers f (power_of f i) sigma i k c (omega arith) (power_is f (omega arith)) (positive_is f S) l

-- ---- a power of two against a number, and the least normal number
pub le_is : (f : Format) {x y : Float} {a b : ℕ} → Positive f x a → Unsigned f y b → le x y ≡ leb a b
unfolding whole
le_is f {x} {y} {a} {b} X Y = go (negative y) refl
  where
    test : (s : Bool) → negative y ≡ s → le x y ≡ leb (a + (signed_whole s b).dn) ((signed_whole s b).up + 0)
    test s e = rw (X.sign, X.units, e, Y.units) at (le_units f x y X.number Y.number)

    go : (s : Bool) → negative y ≡ s → le x y ≡ leb a b
    go false e = let h : a + 0 ≡ a = omega arith in let k : b + 0 ≡ b = omega arith in test false e ∙ rw (h, k)
    go true e = let h : a + b ≡ a = omega (arith, Y.sign e) in let k : 0 + 0 ≡ b = omega (arith, Y.sign e) in test true e ∙ rw (h, k)

pub above : (f : Format) {x y : Float} {a b : ℕ} → Positive f x a → Unsigned f y b → le x y ≡ false → b < a
above f {a = a} {b = b} X Y h = leb-false a b (sym (le_is f X Y) ∙ h)

pub reached : (f : Format) {x y : Float} {a b : ℕ} → Positive f x a → Unsigned f y b → le x y ≡ true → a ≤ b
reached f {a = a} {b = b} X Y h = leb-true a b (sym (le_is f X Y) ∙ h)

normal_fits : (f : Format) → prec f - 1 < powers f
normal_fits binary32 = lit< tt
normal_fits binary64 = lit< tt

pub least_normal_lem : (f : Format) → Unsigned f (least_normal f) (2 ^ (prec f - 1))
least_normal_lem f =
    let h = normal_fits f in
    let e : least_normal f ≡ power_of f (prec f - 1) = rw (one-mul (hid f)) at (high_power f h 0 (omega arith)) in
    rw e (record { number = power_number f h; sign = λ s. absurd (never (sym s ∙ power_negative f h)); units = power_magnitude f h })
  where
    never : true ≡ false → ⊥
    never e = let z : ◌≡◌ {A = ℕ} 0 1 = cc in omega arith

-- rule W3's 2^-1022: 2^(prec - 1) units are the least normal number
pub normal_above : (f : Format) (k : ℕ) {sigma : Float} → Positive f sigma (2 ^ k) → le sigma (least_normal f) ≡ false → prec f ≤ k
normal_above f k S u = elim (le_or_lt (prec f) k) [
  | inl l ↦ l
  | inr l ↦ absurd (omega (arith, above f S (least_normal_lem f) u, pow_mono {i = k} {j = prec f - 1} (omega arith)))
]

module _ {W : Width} {F : Fitting W} {e : ℕ} {s : State} {xs : List Float} (B : Begun W F e s xs) where
  -- what a round leaves of each number, where it may leave anything
  left : prec W.format ≤ exponent_of s.n + e → Each (Small W.format (2 ^ (exponent_of s.n + e - prec W.format))) (all_left W s xs)
  unfolding remainders
  left h = each_map (Small f (2 ^ e)) (Small f (2 ^ (M + e - prec f))) (remainder_of f s.sigma) small xs B.work
    where
      f : Format
      f = W.format

      M : ℕ
      M = exponent_of s.n

      small : (x : Float) → Small f (2 ^ e) x → Small f (2 ^ (M + e - prec f)) (remainder_of f s.sigma x)
      small x X =
          let R = remainder_small B.scale X in
          let z : suc (M + e) - prec f ≡ suc (M + e - prec f) = omega arith in
          record { number = R.0; within = omega (arith, R.1, ap (λ (k : ℕ). 2 ^ k) z, pow-add 2 1 (M + e - prec f)) }

  -- and where it may not
  none_left : exponent_of s.n + e < prec W.format → largest W.format (all_left W s xs) ≡ 0
  unfolding remainders
  none_left h =
      largest_zero f (all_left W s xs) (each_map (Small f (2 ^ e)) (λ y. magnitude f y ≡ 0) (remainder_of f s.sigma) zero xs B.work)
    where
      f : Format
      f = W.format

      M : ℕ
      M = exponent_of s.n

      zero : (x : Float) → Small f (2 ^ e) x → magnitude f (remainder_of f s.sigma x) ≡ 0
      zero x X =
          let R = remainder_small B.scale X in
          let z : suc (M + e) - prec f ≡ 0 = omega arith in
          omega (arith, R.1, ap (λ (k : ℕ). 2 ^ k) z)

  -- ---- rule W2: a restart
  lower : (c : ℕ) → c + (prec W.format - exponent_of s.n) ≤ e → (s.rounds + 1) * (prec W.format - exponent_of s.n) + c ≤ F.top
  lower c h = rw (add-one s.rounds, suc-mul s.rounds (prec W.format - exponent_of s.n)) (omega (arith, B.lowered))

  pub restarts : all_zero W.format (all_left W s xs) ≡ false
      → Begun W F (ceil (largest W.format (all_left W s xs)))
      (fresh_round W s.n (largest W.format (all_left W s xs)) (s.rounds + 1) s.ensemble) (all_left W s xs)
  restarts z = go (le_or_lt (prec W.format) (exponent_of s.n + e))
    where
      f : Format
      f = W.format

      ys : List Float
      ys = all_left W s xs

      go : (prec f ≤ exponent_of s.n + e) ⊎ (exponent_of s.n + e < prec f)
          → Begun W F (ceil (largest f ys)) (fresh_round W s.n (largest f ys) (s.rounds + 1) s.ensemble) ys
      go (inr l) = absurd (eqb-false _ 0 z (none_left l))
      go (inl l) =
          let c = exponent_of s.n + e - prec f in
          let least : ceil (largest f ys) ≤ c = ceil_least (largest_le f (2 ^ c) ys (each_weaker _ _ (λ y Y. Y.within) ys (left l))) in
          begins (largest f ys) B.some B.few (remainders_length f s.sigma xs ∙ B.count) (largest_small f _ ys (left l))
          (lower (ceil (largest f ys)) (omega (arith, B.scale.few)))

  -- ---- rule W4: a further round
  next_number : Number W.format (tau1_of W (all_taken W s xs))
  next_number =
      let f = W.format in
      let T = tau_all B in
      (add_rounds B.carried.number T.number (F.bound + 1) (omega (arith, F.sum_room))
      (omega (arith, whole_mag f s.t, B.carried.within, whole_mag f (all_taken W s xs).tau, T.within, pow-add 2 F.bound 1))).number

  half : exponent_of s.n + exponent_of s.n < prec W.format
  half = omega (arith, F.most_is s.n B.few, F.half)

  pub below_normal : le s.sigma (least_normal W.format) ≡ true → exponent_of s.n + e < prec W.format
  below_normal u = elim (le_or_lt (prec f) (exponent_of s.n + e)) [
    | inl l ↦ absurd (omega (arith, reached f B.scale.power (least_normal_lem f) u, pow-lt {i = prec f - 1} {j = exponent_of s.n + e} (omega arith)))
    | inr l ↦ l
  ]
    where
      f : Format
      f = W.format

  pub above_normal : finishes W (all_taken W s xs) ≡ false → prec W.format ≤ exponent_of s.n + e
  above_normal r = normal_above W.format (exponent_of s.n + e) B.scale.power (not_finishes W (all_taken W s xs) r).0

  -- 2^(2M+1) eps sigma, where eps sigma is a unit or more
  pub threshold : prec W.format ≤ exponent_of s.n + e
      → Positive W.format (scaled W.format (2 * exponent_of s.n + 1) s.sigma)
      (2 ^ (2 * exponent_of s.n + 1 + (exponent_of s.n + e) - prec W.format))
  threshold l = scaled_positive W.format (2 * exponent_of s.n + 1) (exponent_of s.n + e) _ F.fine B.scale.power (omega (arith, l))
      (omega (arith, half)) (omega (arith, half, B.scale.room))

  pub further : finishes W (all_taken W s xs) ≡ false
      → Begun W F (exponent_of s.n + e - prec W.format) (further_round W (all_taken W s xs)) (all_left W s xs)
  further r = record {
    some = B.some;
    few = B.few;
    count = remainders_length f s.sigma xs ∙ B.count;
    lowered = lower (M + e - prec f) (omega (arith, normal, B.scale.few));
    scale = record {
      some = B.scale.some;
      few = B.scale.few;
      room = omega (arith, B.scale.room, B.scale.few);
      power = scaled_positive f M (M + e) (M + (M + e - prec f)) F.fine B.scale.power (omega (arith, normal)) (omega (arith, half))
          (omega (arith, B.scale.room));
    };
    carried = record {
      number = next_number;
      within = omega (arith, above f (threshold normal) (absolute_is f next_number) (not_finishes W (all_taken W s xs) r).1, pow_mono capped);
    };
    work = left normal;
    tau = refl;
    pending = refl;
    largest = refl;
  }
    where
      f : Format
      f = W.format

      M : ℕ
      M = exponent_of s.n

      normal : prec f ≤ M + e
      normal = above_normal r

      capped : 2 * M + 1 + (M + e) - prec f ≤ F.bound
      capped = omega (arith, F.most_is s.n B.few, B.lowered, F.t_room)

  -- ---- the four rules
  pub falls : Next W F s (all_left W s xs) (closed_by W (largest W.format (all_left W s xs)) (all_taken W s xs) (all_left W s xs))
  falls =
      let P = Next W F s (all_left W s xs) in
      closed_each P W (largest W.format (all_left W s xs)) (all_taken W s xs) (all_left W s xs)
      (λ z. fresh_each P W _ s.n _ _ _ _ (λ a. ends _) (λ a. goes _ _ _ refl refl refl (restarts a)))
      (λ z r. ends _) (λ z r. goes _ _ _ refl refl refl (further r))
