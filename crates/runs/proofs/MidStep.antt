-- A step at a pending block in the middle of a round is accepted; after the last block the round closes as it does in rising order. Assumes nothing.
use Rattle.std.specs.Prelude.{◌≡◌, refl, Bool, true, false, cond, List, map, ℕ, ◌+◌, ◌^◌, ◌/◌, ◌≤◌, ◌<◌, leb, nat_abs, length, Float}
use Rattle.std.proofs.Common.{sym, ap, ◌∙◌, arith, leb-true, leb-false}
use Rattle.std.proofs.lemmas.List.{length-map}
use Rattle.std.specs.Float.Ieee.{prec}
use Rattle.units.specs.Whole.{◌≈◌, total}
use Rattle.units.proofs.Integers.{int_same}
use Rattle.units.proofs.Ceiling.{ceil_ge}
use Rattle.units.proofs.Turns.{turns, tau_zero}
use Rattle.ieee.specs.Units.{value, whole}
use Rattle.ieee.proofs.Finite.{same_float}
use Rattle.ieee.proofs.Rounded.{prec_pos}
use Rattle.ieee.proofs.Sum.{value_int, value_mag}
use Rattle.lists.specs.Bitset.{has, without}
use Rattle.lists.proofs.BitsetLaws.{has_below}
use Rattle.kinds.specs.Limits.{Width, exponent_of, blocks_of}
use Rattle.kinds.specs.Outcome.{outcome}
use Rattle.kinds.specs.State.{State}
use Rattle.kinds.specs.Step.{More}
use Rattle.kinds.specs.Verdict.{Good, Refused}
use Rattle.extract.specs.Extract.{gathered, remainders, largest_with}
use Rattle.extract.proofs.LargestWithLaws.{positive_same}
use Rattle.sound.specs.Sound.{gated}
use Rattle.sound.proofs.GateLaws.{gated_6, gated_7}
use Rattle.rounds.specs.Round.{block_of, in_round, taken_state, all_taken, all_left, closed}
use Rattle.rounds.specs.Fitting.{Fitting}
use Rattle.rounds.specs.InUnits.{Tau, wholes, all_ready, gathers}
use Rattle.rounds.specs.Begun.{Begun, first_tau, largest_left}
use Rattle.walk.specs.Walk.{stepped}
use Rattle.walk.proofs.StepLaws.{stepped_good, taken_closes, taken_goes}
use Rattle.walk.specs.Stepping.{Stepping, stepping_sound, stepping_accepted}
use Rattle.runs.proofs.CloseUnits.{zero_whole}
use Rattle.runs.specs.Taken.{pending_at, taken_of, mid_area}
use Rattle.runs.proofs.TakenLaws.{taken_all, mixed_all}
use Rattle.runs.proofs.OneBlock.{own_numbers, own_block}
use Rattle.runs.proofs.MembersLaws.{empty_has, has_positive}
use Rattle.runs.specs.MidRound.{high_units}
use Rattle.runs.proofs.MidRound.{Mid, high_list, mid_takes, mid_stepping}

module _ {W : Width} {F : Fitting W} {e : ℕ} {s : State} {xs : List Float} (B : Begun W F e s xs) where
  -- ---- all blocks taken: tau, the largest remainder and the area are those of the rising order
  all_of : taken_of (pending_at W 0) 0 xs ≡ xs
  all_of = taken_all (pending_at W 0) 0 xs (λ j l h. empty_has (j / W.block))

  pub all_left_lem : mid_area W s 0 xs ≡ all_left W s xs
  all_left_lem = mixed_all (pending_at W 0) W.format s.sigma 0 xs (λ j l h. empty_has (j / W.block))

  risen : Tau B.scale (length xs) (all_taken W s xs).tau
      × (whole W.format (all_taken W s xs).tau ≈ total (map (high_units W.format (exponent_of s.n + e)) xs))
  risen =
      let f = W.format in
      let k = exponent_of s.n + e in
      let most : length xs ≤ 2 ^ exponent_of s.n = omega (arith, B.count, ceil_ge (s.n + 2)) in
      let z : 0 + length xs ≡ length xs = omega arith in
      let G = gathers B.scale xs (first_tau B) B.work (omega arith) in
      let T = turns (prec f) (prec_pos f) (exponent_of s.n) e B.scale.some B.scale.few (wholes f xs) (length xs)
      (tau_zero (prec f) (exponent_of s.n) e) (all_ready B.scale xs B.work) (sym z ∙ ap (λ (l : ℕ). 0 + l) (sym (length-map xs (whole f)))) most in
      (rw z at G.0, rw (G.1, B.tau, zero_whole f, ← (high_list f k xs)) (omega (arith, T.1)))

  -- a float is its units where it isn't -0
  same : {x y : Float} {c d : ℕ} → Tau B.scale c x → Tau B.scale d y → whole W.format x ≈ whole W.format y → x ≡ y
  same {x} {y} X Y h =
      let f = W.format in
      let v : value f x ≡ value f y = value_int f x ∙ int_same (whole f x) (whole f y) h ∙ sym (value_int f y) in
      same_float X.number Y.number v
      (λ z. X.plus (sym (value_mag f x) ∙ ap nat_abs z) ∙ sym (Y.plus (sym (value_mag f y) ∙ ap nat_abs (sym v ∙ z))))

  pub last_tau : {tau m : Float} → Mid B 0 tau m → tau ≡ (all_taken W s xs).tau
  last_tau T = same T.tau_is risen.0 (omega (arith, rw all_of at T.sum, risen.1))

  pub last_largest : {tau m : Float} → Mid B 0 tau m → m ≡ (all_taken W s xs).largest
  last_largest T = positive_same (rw all_of at T.kept) (largest_left B)

  -- ---- one block
  pub there : {P : ℕ} {tau m : Float} → Mid B P tau m → (b : ℕ) → has P b ≡ true → b < blocks_of W (length xs)
  there {P} T b h = rw B.count (has_below P b h (blocks_of W s.n) T.inside)

  -- the state after block b, whose numbers are still those of the list
  abbrev pub after : ℕ → Float → Float → ℕ → State
  after P tau m b =
      let f = W.format in
      in_round s (gathered f s.sigma tau (block_of W b xs)) (largest_with f m (remainders f s.sigma (block_of W b xs))) (without P b)

  pub step_state : {P : ℕ} {tau m : Float} → Mid B P tau m → (b : ℕ) → has P b ≡ true
      → taken_state W (in_round s tau m P) b (mid_area W s P xs) ≡ after P tau m b
  step_state {P} {tau} {m} T b h =
      let f = W.format in
      let own = own_numbers W F.block xs b (there T b h) P h s.sigma in
      λ i. in_round s (gathered f s.sigma tau (own i)) (largest_with f m (remainders f s.sigma (own i))) (without P b)

  pub mid_accepted : {P : ℕ} {tau m : Float} → Mid B P tau m → (b : ℕ) → has P b ≡ true
      → gated W (in_round s tau m P) s.ensemble b (mid_area W s P xs) ≡ Good
  mid_accepted {P} T b h = stepping_accepted (mid_stepping B T (has_positive P b h)) b (has_below P b h (blocks_of W s.n) T.inside) h

  -- it isn't the last
  pub mid_goes : {P : ℕ} {tau m : Float} → Mid B P tau m → (b : ℕ) → has P b ≡ true → (without P b ≡ 0 → ⊥)
      → stepped W (in_round s tau m P) s.ensemble b (mid_area W s P xs)
      ≡ outcome (More (after P tau m b) (after P tau m b).largest) (mid_area W s (without P b) xs)
  mid_goes {P} {tau} {m} T b h z =
      let s = in_round s tau m P in
      let work = mid_area W s P xs in
      sym (stepped_good W s b work (gated W s s.ensemble b work) (mid_accepted T b h))
      ∙ sym (taken_goes W s b work (after P tau m b) _ (sym (step_state T b h)) (sym (own_block W F.block xs b (there T b h) P h s.sigma)) z)

  -- it is
  pub mid_closes : {P : ℕ} {tau m : Float} → Mid B P tau m → (b : ℕ) → has P b ≡ true → without P b ≡ 0
      → stepped W (in_round s tau m P) s.ensemble b (mid_area W s P xs)
      ≡ outcome (closed W (all_taken W s xs) (all_left W s xs))
      (all_left W s xs)
  mid_closes {P} {tau} {m} T b h z =
      let s = in_round s tau m P in
      let work = mid_area W s P xs in
      let next = after P tau m b in
      let last = last_tau (rw z at (mid_takes B T b h)) in
      let most = last_largest (rw z at (mid_takes B T b h)) in
      let area = ap (λ (Q : ℕ). mid_area W s Q xs) z ∙ all_left_lem in
      sym (stepped_good W s b work (gated W s s.ensemble b work) (mid_accepted T b h))
      ∙ sym (taken_closes W s b work next _ (sym (step_state T b h)) (sym (own_block W F.block xs b (there T b h) P h s.sigma)) _ z refl)
      ∙ (λ i. outcome (closed W (in_round s (last i) (most i) (z i)) (area i)) (area i))

  -- a block that isn't pending is refused with 6 or 7
  pub mid_refused : {P : ℕ} {tau m : Float} → Mid B P tau m → 0 < P → (b : ℕ) → has P b ≡ false
      → gated W (in_round s tau m P) s.ensemble b (mid_area W s P xs)
      ≡ Refused (cond (leb (blocks_of W s.n) b) 6 7) 0
  mid_refused {P} {tau} {m} T l b h = go (leb (blocks_of W s.n) b) refl
    where
      I : Stepping W F e (in_round s tau m P) (mid_area W s P xs)
      I = mid_stepping B T l

      go : (c : Bool) → leb (blocks_of W s.n) b ≡ c → gated W (in_round s tau m P) s.ensemble b (mid_area W s P xs) ≡ Refused (cond c 6 7) 0
      go true i = gated_6 W (in_round s tau m P) s.ensemble b (mid_area W s P xs) I.count refl (stepping_sound I) (leb-true _ _ i)
      go false i = gated_7 W (in_round s tau m P) s.ensemble b (mid_area W s P xs) I.count refl (stepping_sound I) (leb-false _ _ i) h
