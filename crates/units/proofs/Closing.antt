-- The four ways in which a round closes, and what each conserves: nothing is left, a restart, a finish, or a further round. Document 000's Lemmas 4.2 and
-- 4.3 with Algorithm 4.8's restart, for 2 ≤ M, 2 M + 1 ≤ p and n + 2 ≤ 2 ^ M. Nothing is said of the order in which numbers were taken. Assumes nothing.
use Rattle.std.specs.Prelude.{◌≡◌, ◌⊎◌, List, [], ◌∷◌, ℕ, suc, ◌+◌, ◌-◌, ◌*◌, ◌^◌, ◌≤◌, ◌<◌}
use Rattle.std.proofs.Common.{inl, inr, mul-le-mul_right, arith, pow_mono}
use Rattle.units.specs.Whole.{Whole, nat, ◌⊕◌, ◌⊖◌, ◌⊗◌, ◌≈◌, Within, Under, mag, total, All}
use Rattle.units.specs.Rounding.{fl, Representable}
use Rattle.units.specs.Faithful.{Faithful}
use Rattle.units.specs.Walk.{summed, tau2, answer, enough, Ready, Left, Opened, Closed}
use Rattle.units.proofs.Powers.{le_or_lt, cover}
use Rattle.units.proofs.Multiples.{multiple_add, multiple_finer, multiple_zero}
use Rattle.units.proofs.SignedRounding.{rep_same, rep_neg, rep_zero, fl_same, fl_exact, fl_below, fl_above, fl_rep, fl_multiple, fl_zero}
use Rattle.units.proofs.Turns.{tau_under}
use Rattle.units.proofs.ExactTwoSum.{two_sum}
use Rattle.units.proofs.FaithfulLaws.{faithful_same, fl_faithful}
use Rattle.units.proofs.RemainderSum.{summed_near, summed_zero, total_zero}
use Rattle.units.proofs.Finish.{finish}
use Rattle.units.proofs.Room.{room}

all_map : {A B : Whole → Type 0} (xs : List Whole) → ((x : Whole) → A x → B x) → All A xs → All B xs
all_map [] f h = tt
all_map (x ∷ xs) f h = (f x h.0, all_map xs f h.1)

-- what is left and is bounded by 2 ^ e is ready for a round at e
left_ready : (p k e : ℕ) (xs : List Whole) → All (Left p k) xs → All (λ x. Within x (2 ^ e)) xs → All (Ready p e) xs
left_ready p k e [] r h = tt
left_ready p k e (x ∷ xs) r h = (record { rep = r.0.rep; small = h.0 }, left_ready p k e xs r.1 h.1)

module _ (p M n : ℕ) (two : 2 ≤ M) (fit : M + M < p) (few : n + 2 ≤ 2 ^ M) where
  P : 0 < p
  P = omega arith

  module _ {e : ℕ} {S t tau : Whole} {xs : List Whole} (C : Closed p M n e S t tau xs) where
    under : Under tau (2 ^ p * 2 ^ (M + e - p))
    under = omega (arith, tau_under C.tau_is (omega arith), cover p (M + e))

    -- t + tau is S less what is left
    pub close_bound : (c d : ℕ) → Within S c → Within (total xs) d → Within (t ⊕ tau) (c + d)
    close_bound c d h k = omega (arith, C.sum)

    pub tau2_exact : tau2 p t tau ≈ t ⊕ tau ⊖ fl p (t ⊕ tau)
    tau2_exact = two_sum p P (M + e - p) C.rep C.tau_is.rep C.on C.tau_is.on under

    -- the remainders, where 2 ^ -p sigma is a unit or more, and where it is less
    pub left_small : p ≤ M + e → All (λ x. Within x (2 ^ (M + e - p))) xs
    left_small l = all_map xs (λ x r. of x r.small) C.left
      where
        i : suc (M + e) - p ≡ suc (M + e - p)
        i = omega arith

        of : (x : Whole) → Within (2 ⊗ x) (2 ^ (suc (M + e) - p)) → Within x (2 ^ (M + e - p))
        of x h = let h' : Within (2 ⊗ x) (2 ^ suc (M + e - p)) = rw i at h in omega arith

    pub left_none : M + e < p → All (λ x. x ≈ nat 0) xs
    left_none l = all_map xs (λ x r. of x r.small) C.left
      where
        i : suc (M + e) - p ≡ 0
        i = omega arith

        of : (x : Whole) → Within (2 ⊗ x) (2 ^ (suc (M + e) - p)) → x ≈ nat 0
        of x h = let h' : Within (2 ⊗ x) (2 ^ 0) = rw i at h in omega arith

    -- rule W1: t' is zero and nothing is left
    pub close_nothing : fl p (t ⊕ tau) ≈ nat 0 → All (λ x. x ≈ nat 0) xs → S ≈ nat 0
    close_nothing z h = omega (arith, C.sum, total_zero xs h, fl_zero p P (t ⊕ tau) z)

    -- rule W2: t' is zero, and what is left is S
    pub close_restart : (e' : ℕ) → fl p (t ⊕ tau) ≈ nat 0 → All (λ x. Within x (2 ^ e')) xs → Opened p M n e' S (nat 0) xs
    close_restart e' z h = record {
      rep = rep_zero p;
      on = multiple_zero (M + e' - p);
      ready = left_ready p (M + e) e' xs C.left h;
      count = C.count;
      sum = omega (arith, C.sum, fl_zero p P (t ⊕ tau) z);
    }

    -- rule W3 conserves S as tau1, tau2 and what is left
    pub close_conserves : fl p (t ⊕ tau) ⊕ tau2 p t tau ⊕ total xs ≈ S
    close_conserves = omega (arith, C.sum, tau2_exact)

    -- where nothing is left the answer is the number nearest to S
    finish_nearest : M + e < p → Faithful p (answer p t tau xs) S
    finish_nearest l =
        rw (fl_same p (fl p (t ⊕ tau) ⊕ fl p (tau2 p t tau ⊕ T)) (t ⊕ tau) (omega (arith, tau2_exact, last)))
        (faithful_same (t ⊕ tau) S (omega (arith, C.sum, total_zero xs (left_none l))) (fl_faithful p P (t ⊕ tau)))
      where
        T : Whole
        T = summed p (nat 0) xs

        zero_T : T ≈ nat 0
        zero_T = summed_zero p P xs (nat 0) (omega arith) (left_none l)

        low_rep : Representable p (tau2 p t tau ⊕ T)
        low_rep = rep_same (omega (arith, zero_T)) (fl_rep p P (tau ⊖ fl p (fl p (t ⊕ tau) ⊖ t)))

        last : fl p (tau2 p t tau ⊕ T) ≈ tau2 p t tau
        last = omega (arith, zero_T, fl_exact p P low_rep)

    finish_large : p ≤ M + e → enough p M e ≤ mag (fl p (t ⊕ tau)) → Faithful p (answer p t tau xs) S
    finish_large l h =
        faithful_same (t ⊕ tau ⊕ total xs) S C.sum
        (finish p P (2 ^ M) (M + e - p) n few many (room p M n two fit few) (t ⊕ tau) (tau2 p t tau) tau2_exact
        (summed_near p P xs (M + e - p) n (left_small l) C.count short) h)
      where
        many : 3 ≤ 2 ^ M
        many = omega (arith, pow_mono two)

        short : n ≤ 2 ^ p
        short = omega (arith, pow_mono {i = M} {j = p} (omega arith))

    pub close_finish : (M + e < p) ⊎ (enough p M e ≤ mag (fl p (t ⊕ tau))) → Faithful p (answer p t tau xs) S
    close_finish (inl l) = finish_nearest l
    close_finish (inr h) = elim (le_or_lt p (M + e)) [ inl l ↦ finish_large l h | inr l ↦ finish_nearest l ]

    -- rule W4: t' is t + tau exactly
    pub close_exact : mag (fl p (t ⊕ tau)) < enough p M e → fl p (t ⊕ tau) ≈ t ⊕ tau
    close_exact h = fl_exact p P (record { exp = M + e - p; on = multiple_add C.on C.tau_is.on; small = (upper, lower) })
      where
        z : Whole
        z = t ⊕ tau

        B : ℕ
        B = 2 ^ p * 2 ^ (M + e - p)

        top : Representable p (nat B)
        top = record { exp = M + e - p; on = record { count = nat (2 ^ p); is = omega arith }; small = omega arith }

        short : enough p M e ≤ B
        short = omega (arith, mul-le-mul_right (2 ^ (M + e - p)) (room p M n two fit few))

        upper : z.up ≤ z.dn + B
        upper = elim (le_or_lt z.up (z.dn + B)) [ inl m ↦ m | inr m ↦ omega (arith, short, fl_above p P z top (omega arith)) ]

        lower : z.dn ≤ z.up + B
        lower = elim (le_or_lt z.dn (z.up + B)) [ inl m ↦ m | inr m ↦ omega (arith, short, fl_below p P z (rep_neg top) (omega arith)) ]

    pub close_further : p ≤ M + e → mag (fl p (t ⊕ tau)) < enough p M e → Opened p M n (M + e - p) S (fl p (t ⊕ tau)) xs
    close_further l h = record {
      rep = fl_rep p P (t ⊕ tau);
      on = multiple_finer (omega arith) (fl_multiple p P (multiple_add C.on C.tau_is.on));
      ready = left_ready p (M + e) (M + e - p) xs C.left (left_small l);
      count = C.count;
      sum = omega (arith, C.sum, close_exact h);
    }
