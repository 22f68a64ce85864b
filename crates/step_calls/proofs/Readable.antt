-- Numbers that can be read: what they are, and that a sound state's are such where its ensemble is one of 32 bits, since its rounds are few and its patterns
-- are finite floats'. Assumes nothing.
use Rattle.std.specs.Prelude.{◌≡◌, Bool, true, not, List, ℕ, ◌*◌, ◌-◌, ◌^◌, ◌/◌, ◌%◌, ◌≤◌, ◌<◌, T, leb, get_or}
use Rattle.std.proofs.Common.{sym, subst, ◌∙◌, inl, inr, le_trans, arith, leb-true, le-leb, lt-ltb, le-ltb}
use Rattle.std.proofs.lemmas.Bool.{lt-leb}
use Rattle.std.specs.Float.{Format}
use Rattle.std.specs.Float.Ieee.{of_bits, nan_bits, ones, hid, top}
use Rattle.std.specs.Float.Ieee.Bits.{nan_bits_is, nan_bits_above}
use Rattle.std.specs.Float.Ieee.Scale.{finite}
use Rattle.units.proofs.Powers.{le_or_lt}
use Rattle.ieee.proofs.Finite.{finite_no_nan}
use Rattle.kinds.specs.Limits.{Width}
use Rattle.sound.specs.Numbers.{Numbers}
use Rattle.sound.specs.SigmaLaws.{both_true}
use Rattle.step_calls.specs.StepArrays.{float_at, state_in}
use Rattle.step_calls.specs.Inner.{number, readable, Callable}
use Rattle.step_calls.specs.Readable.{Fields}

finite_number : (f : Format) (p : ℕ) → T (finite (float_at f p)) → number f p ≡ true
finite_number f p t = elim (le_or_lt p (2 * top f - 1)) [
  | inl l ↦ rw (le-leb p (2 * top f - 1) l) (below (rw (le-leb p (2 * top f - 1) l) at t))
  | inr l ↦ absurd (rw (lt-leb p (2 * top f - 1) l) at t)
]
  where
    below : T (finite (of_bits f p)) → leb (p % top f) (ones f * hid f) ≡ true
    below t = elim (le_or_lt (p % top f) (ones f * hid f)) [
      | inl h ↦ le-leb (p % top f) (ones f * hid f) h
      | inr h ↦ absurd (subst (λ (b : Bool). T (not b)) (sym (nan_bits_is f p) ∙ nan_bits_above f p ∙ lt-ltb (ones f * hid f) (p % top f) h)
          (finite_no_nan (of_bits f p) t))
    ]

pub sound_readable : {W : Width} → Callable W → (ns : List ℕ) → get_or ns 7 0 ≤ 2 ^ 32 - 1 → Numbers W (state_in W ns) → readable W.format ns ≡ true
sound_readable {W} C ns e N =
    let few : get_or ns 6 0 ≤ 2 ^ 32 - 1 = le_trans N.counts.rounds C.counted in
    simp (
      le-leb (get_or ns 6 0) (2 ^ 32 - 1) few,
      le-leb (get_or ns 7 0) (2 ^ 32 - 1) e,
      finite_number W.format (get_or ns 1 0) N.sigma.fini,
      finite_number W.format (get_or ns 2 0) N.t.fini,
      finite_number W.format (get_or ns 3 0) N.tau.fini,
      finite_number W.format (get_or ns 8 0) N.largest.fini,
    )

-- ---- a number that can be read is a pattern, and no NaN's
module _ (f : Format) (p : ℕ) (h : number f p ≡ true) where
  parts : (leb p (2 * top f - 1) ≡ true) × (leb (p % top f) (ones f * hid f) ≡ true)
  parts = both_true (leb p (2 * top f - 1)) (leb (p % top f) (ones f * hid f)) h

  pub number_below : p ≤ 2 * top f - 1
  number_below = leb-true p (2 * top f - 1) parts.0

  pub number_no_nan : T (not (nan_bits f p))
  number_no_nan = rw (nan_bits_above f p, le-ltb (ones f * hid f) (p % top f) (leb-true (p % top f) (ones f * hid f) parts.1)) tt

  pub number_float : of_bits f p ≡ float_at f p
  number_float = rw parts.0

pub fields : (f : Format) (ns : List ℕ) → readable f ns ≡ true → Fields f ns
fields f ns h =
    let l = both_true _ (number f (get_or ns 8 0)) h in
    let p = both_true _ (number f (get_or ns 3 0)) l.0 in
    let q = both_true _ (number f (get_or ns 2 0)) p.0 in
    let r = both_true _ (number f (get_or ns 1 0)) q.0 in
    let u = both_true (leb (get_or ns 6 0) (2 ^ 32 - 1)) (leb (get_or ns 7 0) (2 ^ 32 - 1)) r.0 in
    let few : get_or ns 6 0 ≤ 2 ^ 32 - 1 = leb-true (get_or ns 6 0) (2 ^ 32 - 1) u.0 in
    let small : get_or ns 7 0 ≤ 2 ^ 32 - 1 = leb-true (get_or ns 7 0) (2 ^ 32 - 1) u.1 in
    record { rounds = omega arith; ensemble = omega arith; sigma = r.1; t = q.1; tau = p.1; largest = l.1 }

-- ---- how code looks at a number, with the figures of its width: by halves, since twice the sign may not fit a word
pub number_looked : (f : Format) {s r i : ℕ} (p : ℕ) → s ≡ top f → r ≡ top f → i ≡ ones f * hid f → (s ≤ p / 2 → ⊥) → p % r ≤ i → number f p ≡ true
number_looked f {s} {r} {i} p e d m n l =
    let h : p / 2 < top f = omega (arith, e, n) in
    let u : p % top f ≤ ones f * hid f = subst (λ (j : ℕ). p % top f ≤ j) m (subst (λ (t : ℕ). p % t ≤ i) d l) in
    rw (le-leb p (2 * top f - 1) (omega (arith, h)), le-leb (p % top f) (ones f * hid f) u)
