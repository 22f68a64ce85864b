-- A state of a run, with its work area, is sound: what holds of it, and that the gate lets each pending block pass. Assumes nothing.
use Rattle.std.specs.Prelude.{◌≡◌, true, ℕ, ◌+◌, ◌*◌, ◌^◌, ◌≤◌, ◌<◌, length, take, drop, Float}
use Rattle.std.proofs.Math.Path.{refl}
use Rattle.std.proofs.Common.{◌∙◌, mul-le-mul_left, add-one, arith, pow-add}
use mathlib.Core.List.{List, [], ◌∷◌, ◌++◌}
use borrow.Author.Tests.{le-leb, lt-ltb}
use Rattle.std.proofs.Math.Seq.{length_front}
use Rattle.std.specs.Float.Ieee.Bits.{is_true}
use Rattle.std.specs.Float.Ieee.Scale.{finite}
use Rattle.ieee.specs.Units.{magnitude}
use Rattle.lists.specs.Bitset.{has}
use Rattle.lists.specs.Each.{Each, each_join, each_take, each_drop}
use Rattle.kinds.specs.Limits.{Width, exponent_of, blocks_of}
use Rattle.kinds.specs.State.{State}
use Rattle.kinds.specs.Verdict.{Good}
use Rattle.extract.specs.Extract.{remainders, gathered, largest, largest_with}
use Rattle.extract.specs.ExtractLaws.{remainders_length}
use Rattle.extract.specs.LargestLaws.{Positive}
use Rattle.sound.specs.Sound.{sound_pending, bad_place, sound, gated}
use Rattle.sound.specs.Numbers.{SigmaBetween, Numbers}
use Rattle.sound.specs.SigmaLaws.{limit_is}
use Rattle.sound.proofs.SoundLaws.{numbers_true, sound_all}
use Rattle.sound.proofs.GateLaws.{gated_good}
use Rattle.rounds.specs.Round.{in_round}
use Rattle.rounds.specs.Fitting.{Fitting}
use Rattle.rounds.specs.InUnits.{Small, remainders_small, largest_eps}
use Rattle.rounds.specs.Begun.{Begun, begun_rounds, tau_small, largest_taken}

-- what holds of a state of a run and its work area: its numbers are sound, sigma is 2^(M + e) units, and the work numbers are at most 2^e
pub record Stepping (W : Width) (F : Fitting W) (e : ℕ) (s : State) (xs : List Float) : Type 0 where
  pub numbers : Numbers W s
  pub count : length xs ≡ s.n
  pub sigma : magnitude W.format s.sigma ≡ 2 ^ (exponent_of s.n + e)
  pub work : Each (Small W.format (2 ^ e)) xs
  pub left : 0 < s.pending
  pub inside : s.pending < 2 ^ blocks_of W s.n

-- 2^(M + e) units are a sound sigma, where a number may be 2^e units
pub sigma_bounds : {W : Width} (F : Fitting W) (n e : ℕ) {sigma : Float} → Positive W.format sigma (2 ^ (exponent_of n + e)) → e ≤ F.top
    → SigmaBetween W n sigma
sigma_bounds {W} F n e P low = record {
  k = exponent_of n + e;
  fini = P.number.fini;
  positive = P.sign;
  power = P.units;
  from = omega arith;
  to = omega (arith, limit_is W F.top F.top_is n);
}

module _ {W : Width} {F : Fitting W} {e : ℕ} {s : State} {xs : List Float} (I : Stepping W F e s xs) where
  pending_sound : sound_pending W s ≡ true
  unfolding sound_pending
  pending_sound = simp (lt-ltb _ _ I.left, lt-ltb _ _ I.inside)

  places_sound : (ys : List Float) → Each (Small W.format (2 ^ e)) ys → bad_place W s ys ≡ length ys
  unfolding bad_place
  places_sound [] h = refl
  places_sound (y ∷ ys) h =
      simp (is_true (finite y) h.0.number.fini, I.sigma, le-leb _ _ below, places_sound ys h.1) (add-one (length ys))
    where
      below : 2 ^ exponent_of s.n * magnitude W.format y ≤ 2 ^ (exponent_of s.n + e)
      below = rw (pow-add 2 (exponent_of s.n) e) (mul-le-mul_left (2 ^ exponent_of s.n) h.0.within)

  pub stepping_sound : sound W s xs ≡ true
  stepping_sound = sound_all W s xs (numbers_true W F.top F.top_is s I.numbers) pending_sound (places_sound xs I.work)

  pub stepping_accepted : (b : ℕ) → b < blocks_of W s.n → has s.pending b ≡ true → gated W s s.ensemble b xs ≡ Good
  stepping_accepted b h p = gated_good W s s.ensemble b xs I.count refl stepping_sound h p

module _ {W : Width} {F : Fitting W} {e : ℕ} {s : State} {xs : List Float} (B : Begun W F e s xs) where
  -- the numbers of a round that has begun are sound, whatever blocks are pending, with the largest remainder of any numbers
  -- as small as its own
  pub begun_numbers : {tau m : Float} (P : ℕ) → Small W.format (2 ^ F.bound) tau → (ys : List Float) → Each (Small W.format (2 ^ e)) ys
      → Positive W.format m (largest W.format (remainders W.format s.sigma ys)) → Numbers W (in_round s tau m P)
  begun_numbers P T ys Y M = record {
    counts = record { some = B.some; few = B.few; rounds = begun_rounds B };
    sigma = sigma_bounds F s.n e B.scale.power (omega (arith, B.lowered));
    t = record { fini = B.carried.number.fini; small = rw F.bound_is B.carried.within };
    tau = record { fini = T.number.fini; small = rw F.bound_is T.within };
    largest = record { fini = M.number.fini; unsigned = M.sign; small = rw M.units (largest_eps B.scale ys Y) };
  }

  -- the state and the work area after the first k numbers
  pub stepping : (k P : ℕ) → 0 < P → P < 2 ^ blocks_of W s.n
      → Stepping W F e (in_round s (gathered W.format s.sigma s.tau (take k xs))
      (largest_with W.format s.largest (remainders W.format s.sigma (take k xs))) P)
      (remainders W.format s.sigma (take k xs) ++ drop k xs)
  stepping k P l h = record {
    numbers = begun_numbers P (tau_small B k) (take k xs) (each_take (Small W.format (2 ^ e)) k xs B.work) (largest_taken B k);
    count = length_front xs (remainders W.format s.sigma (take k xs)) k (remainders_length W.format s.sigma (take k xs)) ∙ B.count;
    sigma = B.scale.power.units;
    work = each_join (Small W.format (2 ^ e)) (remainders W.format s.sigma (take k xs)) (drop k xs)
        (remainders_small B.scale (take k xs) (each_take (Small W.format (2 ^ e)) k xs B.work)) (each_drop (Small W.format (2 ^ e)) k xs B.work);
    left = l;
    inside = h;
  }
