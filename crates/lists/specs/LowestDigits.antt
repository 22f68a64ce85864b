-- The number of the lowest i digits: with one digit more, with the next digit changed, and its bound. Assumes nothing.
use Rattle.std.specs.Prelude.{◌≡◌, List, [], ◌∷◌, ◌++◌, ℕ, suc, ◌+◌, ◌*◌, ◌^◌, ◌≤◌, ◌<◌, length, get_or, take, set}
use Rattle.std.proofs.Common.{ap, ◌∙◌, mul-le-mul_right, arith, pow_pos, take-suc, take-suc-set, length-take-le}
use Rattle.lists.specs.Digits.{number, Digits}
use Rattle.lists.specs.DigitLaws.{number_nil, number_cons, number_append, number_cut, number_lt, digits_take}

module _ (w : ℕ) (ds : List ℕ) where
  longer : (i d : ℕ) → i < length ds → number w (take i ds ++ (d ∷ [])) ≡ number w (take i ds) + d * 2 ^ (w * i)
  longer i d h = rw (number_append w (take i ds) (d ∷ []), number_cons w d [], number_nil w, length-take-le i ds (omega arith)) (omega arith)

  pub number_next : {i : ℕ} → i < length ds → number w (take (suc i) ds) ≡ number w (take i ds) + get_or ds i 0 * 2 ^ (w * i)
  number_next {i} h = ap (number w) (take-suc ds i 0 h) ∙ longer i (get_or ds i 0) h

  pub number_next_set : {i : ℕ} (d : ℕ) → i < length ds → number w (take (suc i) (set ds i d)) ≡ number w (take i ds) + d * 2 ^ (w * i)
  number_next_set {i} d h = ap (number w) (take-suc-set ds i d h) ∙ longer i d h

  pub number_take_lt : {i : ℕ} → Digits w ds → i ≤ length ds → number w (take i ds) < 2 ^ (w * i)
  number_take_lt {i} D h = rw (length-take-le i ds h) at (number_lt w (take i ds) (digits_take w i ds D))

  -- a digit that isn't zero
  pub number_some : {i : ℕ} → i < length ds → 0 < get_or ds i 0 → 0 < number w ds
  number_some {i} h d = omega (arith, number_cut w ds h, number_next h, mul-le-mul_right (2 ^ (w * i)) d, pow_pos (w * i))
