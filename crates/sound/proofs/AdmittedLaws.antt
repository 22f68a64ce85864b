-- What a state, a block and a work area are that pass the gate: sigma is the float 2^(M + e) units, and the work numbers are finite, of at most 2^e units.
-- Assumes nothing.
use Rattle.std.specs.Prelude.{◌≡◌, refl, Bool, true, false, cond, List, [], ◌∷◌, ℕ, suc, ◌+◌, ◌-◌, ◌^◌, ◌≤◌, ◌<◌, T, length, Float}
use Rattle.std.proofs.Common.{ap, ◌∙◌, arith}
use Rattle.std.specs.Float.Ieee.{fits}
use Rattle.units.specs.Rounding.{ceil}
use Rattle.ieee.specs.Units.{magnitude}
use Rattle.lists.specs.Each.{Each}
use Rattle.exponent.specs.Power.{powers, power_of}
use Rattle.kinds.specs.Limits.{Width, exponent_of}
use Rattle.kinds.specs.State.{State}
use Rattle.kinds.specs.Verdict.{Good}
use Rattle.judge.specs.Table.{size_of}
use Rattle.sound.specs.Sound.{at_most, sound_sigma, sound_pending, bad_place, gated}
use Rattle.sound.specs.Numbers.{FiniteWithin, Numbers}
use Rattle.sound.specs.Places.{first_above}
use Rattle.sound.proofs.PlacesLaws.{places_same}
use Rattle.sound.specs.SigmaLaws.{Sigma, sigma_holds, sigma_exponent, sigma_power, sigma_true}
use Rattle.sound.proofs.SoundLaws.{at_most_holds, pending_holds, sound_holds}
use Rattle.sound.proofs.GateLaws.{Open, gated_open}
use Rattle.sound.specs.AdmittedLaws.{Admitted}

-- no place is bad
all_within : (W : Width) (most : ℕ) (xs : List Float) → first_above W most xs ≡ length xs → Each (FiniteWithin W.format most) xs
unfolding first_above
all_within W most [] h = tt
all_within W most (x ∷ xs) h = go (at_most W most x) refl h (all_within W most xs)
  where
    go : (c : Bool) → at_most W most x ≡ c → cond c (first_above W most xs + 1) 0 ≡ suc (length xs)
        → (first_above W most xs ≡ length xs → Each (FiniteWithin W.format most) xs)
        → FiniteWithin W.format most x × Each (FiniteWithin W.format most) xs
    go true e h more = (at_most_holds W most x e, more (omega arith))
    go false e h more = absurd (omega arith)

-- 2^top is the largest magnitude in units, and the largest sigma is a float
pub admitted : (W : Width) (top : ℕ) → size_of W W.magnitude ≡ 2 ^ top → ((n : ℕ) → n ≤ W.length → exponent_of n + top < powers W.format)
    → (s : State) (k b : ℕ) (xs : List Float) → T (fits W.format s.sigma) → gated W s k b xs ≡ Good → Admitted W top s b xs
admitted W top is room s j b xs fit h = record {
  long = O.long;
  numbers = N;
  e = k - exponent_of s.n;
  low = omega (arith, exps);
  sigma = sigma_power W top is s.n (room s.n N.counts.few) s.sigma fit sigma ∙ ap (power_of W.format) whole;
  work = all_within W (2 ^ (k - exponent_of s.n)) xs (places_same W s σ.power exps.0 xs ∙ S.2);
  below = (pending_holds W s S.1).1;
  inside = O.inside;
  pending = O.pending;
}
  where
    O : Open W s j b xs
    O = gated_open W s j b xs h

    S : Numbers W s × (sound_pending W s ≡ true) × (bad_place W s xs ≡ length xs)
    S = sound_holds W top is s xs O.sound

    N : Numbers W s
    N = S.0

    sigma : sound_sigma W s.n s.sigma ≡ true
    sigma = sigma_true W top is s.n s.sigma N.sigma

    σ : Sigma W s.n s.sigma
    σ = sigma_holds W s.n s.sigma sigma

    k : ℕ
    k = ceil (magnitude W.format s.sigma)

    exps : (exponent_of s.n ≤ k) × (k ≤ exponent_of s.n + top)
    exps = sigma_exponent W top is s.n σ

    whole : k ≡ exponent_of s.n + (k - exponent_of s.n)
    whole = omega (arith, exps)
