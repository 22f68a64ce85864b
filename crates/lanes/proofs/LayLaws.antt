-- What an addition, a withdrawal and a settling answer and leave, one law per case; a withdrawal is the addition of the opposite number.
-- Assumes nothing.
use Rattle.std.specs.Prelude.{◌≡◌, true, false, List, ℕ, ◌+◌, ◌^◌, ◌<◌, ℤ, neg_ℤ, length}
use Rattle.std.proofs.Common.{sym, ap, ◌∙◌}
use Rattle.std.proofs.Math.Decide.{ℕ_discrete}
use borrow.Author.Tests.{eq-eqb, ne_eqb}
use Rattle.lists.specs.Digits.{inside}
use Rattle.kinds.specs.Limits.{doubles}
use Rattle.kinds.specs.Outcome.{outcome}
use Rattle.judge.specs.Judge.{fault_of}
use Rattle.judge.specs.FaultLaws.{fault_0}
use Rattle.words.specs.Words.{word_count, register_bits, words_of}
use Rattle.addend.specs.Addend.{units_of}
use Rattle.addend.specs.OppositePattern.{opposite}
use Rattle.addend.proofs.RegisterWords.{opposite_units}
use Rattle.register.proofs.EnterLaws.{opposite_fault}
use Rattle.lanes.specs.Laid.{Counted, Refused}
use Rattle.lanes.specs.Lanes.{lane_count, lane_sum, most_calls, digits_of, plus_lanes, roomy, lay, lane_added, lane_withdrawn, settled_lanes, settling, settled}

module _ (zs : List ℤ) (calls p : ℕ) (z : ℤ) where
  pub lay_long : (length zs ≡ lane_count → ⊥) → lay zs calls p z ≡ outcome (Refused 4 0) zs
  unfolding lay
  lay_long h = rw (ne_eqb (length zs) lane_count h)

  module _ (l : length zs ≡ lane_count) where
    pub lay_tight : roomy calls zs ≡ false → lay zs calls p z ≡ outcome (Refused 25 0) zs
    unfolding lay
    lay_tight h = rw (eq-eqb (length zs) lane_count l, h)

    module _ (R : roomy calls zs ≡ true) where
      pub lay_bad : (fault_of doubles p ≡ 0 → ⊥) → lay zs calls p z ≡ outcome (Refused (fault_of doubles p) 0) zs
      unfolding lay
      lay_bad h = rw (eq-eqb (length zs) lane_count l, R, ne_eqb (fault_of doubles p) 0 h)

      pub lay_full : fault_of doubles p ≡ 0 → calls ≡ most_calls → lay zs calls p z ≡ outcome (Refused 24 0) zs
      unfolding lay
      lay_full e h = rw (eq-eqb (length zs) lane_count l, R, eq-eqb (fault_of doubles p) 0 e, eq-eqb calls most_calls h)

      pub lay_in : fault_of doubles p ≡ 0 → (calls ≡ most_calls → ⊥) → lay zs calls p z ≡ outcome (Counted (calls + 1)) (plus_lanes zs (digits_of z))
      unfolding lay
      lay_in e h = rw (eq-eqb (length zs) lane_count l, R, eq-eqb (fault_of doubles p) 0 e, ne_eqb calls most_calls h)

-- ---- a withdrawal is the addition of the opposite number: a number with a fault is refused whatever it would come to, and only its fault counts
module _ (zs : List ℤ) (calls p : ℕ) where
  whatever : (y z : ℤ) → (fault_of doubles p ≡ 0 → ⊥) → lay zs calls p y ≡ lay zs calls p z
  unfolding lay
  whatever y z h = rw (ne_eqb (fault_of doubles p) 0 h)

  by_fault : (q : ℕ) (z : ℤ) → fault_of doubles q ≡ fault_of doubles p → lay zs calls p z ≡ lay zs calls q z
  unfolding lay
  by_fault q z e = rw e

pub lane_withdrawn_added : (p : ℕ) → p < 2 ^ 64 → (zs : List ℤ) (calls : ℕ)
    → lane_withdrawn zs calls p ≡ lane_added zs calls (opposite doubles.format p)
lane_withdrawn_added p h zs calls =
    let q = opposite doubles.format p in
    let fault : fault_of doubles q ≡ fault_of doubles p = opposite_fault p h in
    by_fault zs calls p q (neg_ℤ (units_of doubles p)) fault ∙ elim (ℕ_discrete (fault_of doubles p) 0) [
      | yes e ↦ ap (λ (u : ℤ). lay zs calls q u) (sym (opposite_units doubles p h ((fault_0 doubles p).0 e).0))
      | no e ↦ whatever zs calls q (neg_ℤ (units_of doubles p)) (units_of doubles q) (λ k. e (sym fault ∙ k))
    ]

-- ---- settling
module _ (zs : List ℤ) (calls : ℕ) (ws : List ℕ) where
  pub settled_lanes_long : (length zs ≡ lane_count → ⊥) → settled zs calls ws ≡ settling (Refused 4 0) zs ws
  unfolding settled
  settled_lanes_long h = rw (ne_eqb (length zs) lane_count h)

  module _ (l : length zs ≡ lane_count) where
    pub settled_words_long : (length ws ≡ word_count → ⊥) → settled zs calls ws ≡ settling (Refused 4 0) zs ws
    unfolding settled
    settled_words_long h = rw (eq-eqb (length zs) lane_count l, ne_eqb (length ws) word_count h)

    module _ (w : length ws ≡ word_count) where
      pub settled_tight : roomy calls zs ≡ false → settled zs calls ws ≡ settling (Refused 25 0) zs ws
      unfolding settled
      settled_tight h = rw (eq-eqb (length zs) lane_count l, eq-eqb (length ws) word_count w, h)

      module _ (R : roomy calls zs ≡ true) where
        pub settled_out : inside register_bits (lane_sum zs) ≡ false → settled zs calls ws ≡ settling (Refused 9 0) zs ws
        unfolding settled
        settled_out h = rw (eq-eqb (length zs) lane_count l, eq-eqb (length ws) word_count w, R, h)

        pub settled_in : inside register_bits (lane_sum zs) ≡ true
            → settled zs calls ws ≡ settling (Counted 0) (settled_lanes (lane_sum zs)) (words_of (lane_sum zs))
        unfolding settled
        settled_in h = rw (eq-eqb (length zs) lane_count l, eq-eqb (length ws) word_count w, R, h)
