-- The faithful walk in whole units at p bits: document 000's Algorithms 3.3, 4.4 and 4.8, for n numbers, sigma = 2 ^ (M + e) and work numbers of magnitude
-- at most 2 ^ e. Definitions only. Nothing here says in which order a round takes its numbers.
use Rattle.std.specs.Prelude.{◌≡◌, ◌⊎◌, ℕ, suc, ◌+◌, ◌-◌, ◌*◌, ◌/◌, ◌^◌, ◌≤◌, ◌<◌, length}
use mathlib.Core.List.{List, map, foldl}
use Rattle.units.specs.Whole.{Whole, nat, ◌⊕◌, ◌⊖◌, ◌⊗◌, ◌≈◌, Within, mag, Multiple, total, All}
use Rattle.units.specs.Rounding.{fl, Representable}

-- ---- one number x at sigma = 2 ^ k: its high part (sigma + x) - sigma, and its remainder, x less that; each operation is rounded
abbrev pub high : (p k : ℕ) → Whole → Whole
high p k x = fl p (fl p (nat (2 ^ k) ⊕ x) ⊖ nat (2 ^ k))

abbrev pub remainder : (p k : ℕ) → Whole → Whole
remainder p k x = fl p (x ⊖ high p k x)

-- ---- numbers added one after the other to T, each addition rounded
abbrev pub summed : ℕ → Whole → List Whole → Whole
summed p T xs = foldl (λ s x. fl p (s ⊕ x)) T xs

-- ---- the high parts and the remainders of numbers; tau gathers the high parts
abbrev pub highs : (p k : ℕ) → List Whole → List Whole
highs p k = map (high p k)

abbrev pub remainders : (p k : ℕ) → List Whole → List Whole
remainders p k = map (remainder p k)

abbrev pub gathered : (p k : ℕ) → Whole → List Whole → Whole
gathered p k tau xs = summed p tau (highs p k xs)

-- ---- the close and the finish, rules WC1 and W3: tau1 is t', the rounded t + tau
abbrev pub tau1 : ℕ → Whole → Whole → Whole
tau1 p t tau = fl p (t ⊕ tau)

abbrev pub tau2 : ℕ → Whole → Whole → Whole
tau2 p t tau = fl p (tau ⊖ fl p (tau1 p t tau ⊖ t))

abbrev pub answer : ℕ → Whole → Whole → List Whole → Whole
answer p t tau xs = fl p (tau1 p t tau ⊕ fl p (tau2 p t tau ⊕ summed p (nat 0) xs))

-- 2 ^ (2 M + 1) eps sigma, from which t' is large enough to finish
abbrev pub enough : (p M e : ℕ) → ℕ
enough p M e = 2 * (2 ^ M * 2 ^ M * 2 ^ (M + e - p))

-- a / b, rounded up
abbrev pub rounded_up : ℕ → ℕ → ℕ
rounded_up a b = (a + (b - 1)) / b

-- ---- a round

-- a work number that is ready to be taken, and what is left of one that was: at most 2 ^ -p sigma, and 0 where that is below a unit
pub record Ready (p e : ℕ) (x : Whole) : Type 0 where
  pub rep : Representable p x
  pub small : Within x (2 ^ e)

pub record Left (p k : ℕ) (x : Whole) : Type 0 where
  pub rep : Representable p x
  pub small : Within (2 ⊗ x) (2 ^ (suc k - p))

-- tau after c numbers were taken
pub record Tau (p M e c : ℕ) (tau : Whole) : Type 0 where
  pub rep : Representable p tau
  pub on : Multiple (M + e - p) tau
  pub small : Within tau (c * 2 ^ e)

-- tau after all of xs were taken: the exact sum of their high parts
pub record Gathered (p k : ℕ) (xs : List Whole) (tau : Whole) : Type 0 where
  pub sum : tau ≈ total (highs p k xs)

-- as a round opens: t and the work numbers xs are S
pub record Opened (p M n e : ℕ) (S t : Whole) (xs : List Whole) : Type 0 where
  pub rep : Representable p t
  pub on : Multiple (M + e - p) t
  pub ready : All (Ready p e) xs
  pub count : length xs ≡ n
  pub sum : t ⊕ total xs ≈ S

-- when all n were taken: t, tau and the remainders xs are S
pub record Closed (p M n e : ℕ) (S t tau : Whole) (xs : List Whole) : Type 0 where
  pub rep : Representable p t
  pub on : Multiple (M + e - p) t
  pub tau_is : Tau p M e n tau
  pub left : All (Left p (M + e)) xs
  pub count : length xs ≡ n
  pub sum : t ⊕ tau ⊕ total xs ≈ S

-- ---- From e, t and xs as a round opens, the walk answers r and goes on for m rounds after this one. A round leaves tau and the remainders of xs, and
-- closes by one of rules W1 to W4. That sigma is 2^-1022 or less is M + e < p in units.
module _ (p M : ℕ) where
  pub data Walk : ℕ → Whole → List Whole → ℕ → Whole → Type 0 where
    -- rule W1
    nothing : {e : ℕ} {t tau : Whole} {xs : List Whole} → Gathered p (M + e) xs tau → tau1 p t tau ≈ nat 0
        → All (λ x. x ≈ nat 0) (remainders p (M + e) xs) → Walk e t xs 0 (nat 0)
    -- rule W2; e' is the least that bounds what remains
    restart : {e : ℕ} {t tau : Whole} {xs : List Whole} {m : ℕ} {r : Whole} (e' : ℕ) → Gathered p (M + e) xs tau → tau1 p t tau ≈ nat 0
        → (All (λ x. x ≈ nat 0) (remainders p (M + e) xs) → ⊥) → All (λ x. Within x (2 ^ e')) (remainders p (M + e) xs)
        → ((c : ℕ) → All (λ x. Within x (2 ^ c)) (remainders p (M + e) xs) → e' ≤ c)
        → Walk e' (nat 0) (remainders p (M + e) xs) m r → Walk e t xs (suc m) r
    -- rule W3: sigma is small or t' large
    finished : {e : ℕ} {t tau : Whole} {xs : List Whole} → Gathered p (M + e) xs tau → (tau1 p t tau ≈ nat 0 → ⊥)
        → (M + e < p) ⊎ (enough p M e ≤ mag (tau1 p t tau)) → Walk e t xs 0 (answer p t tau (remainders p (M + e) xs))
    -- rule W4: the new sigma is 2 ^ (M + (M + e - p))
    further : {e : ℕ} {t tau : Whole} {xs : List Whole} {m : ℕ} {r : Whole} → Gathered p (M + e) xs tau → (tau1 p t tau ≈ nat 0 → ⊥) → p ≤ M + e
        → mag (tau1 p t tau) < enough p M e → Walk (M + e - p) (tau1 p t tau) (remainders p (M + e) xs) m r → Walk e t xs (suc m) r
