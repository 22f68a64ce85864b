-- The sums of a list's positive and of its negative numbers: one number more, how large they are, and their difference, which is the sum. Assumes nothing.
use Rattle.std.specs.Prelude.{◌≡◌, refl, List, [], ◌∷◌, ◌++◌, map, ℕ, suc, ◌+◌, ◌-◌, ◌*◌, ◌/◌, ◌%◌, ◌^◌, ◌≤◌, ◌<◌, ℤ, pos, negsuc, ◌+ℤ◌, ◌-ℤ◌, nat_abs, length}
use Rattle.std.specs.Prelude.{take, drop, get_or, replicate}
use Rattle.std.proofs.Common.{sym, ap, ◌∙◌, le_trans, lt_trans, lt_of_le_of_lt, lt_of_lt_of_le, mul-le-mul_right, arith, lit<, length-take, get_or-take}
use Rattle.std.proofs.lemmas.List.{map-append, length-map}
use Rattle.std.proofs.Math.Arith.{digits_div, digits_mod}
use Rattle.units.specs.Whole.{Whole, nat, ◌⊖◌, difference, int, exact_sum, total}
use Rattle.units.proofs.Integers.{int_plus, int_minus, int_same, int_difference}
use Rattle.lists.specs.Carry.{Carried}
use Rattle.lists.specs.Digits.{number, signed, Digits}
use Rattle.lists.specs.DigitLaws.{number_cut}
use Rattle.lists.specs.LowestDigits.{number_take_lt}
use Rattle.lists.proofs.Front.{take_next}
use Rattle.lists.proofs.TwosComplement.{signed_low, no_carry}
use Rattle.kinds.specs.Limits.{Width}
use Rattle.judge.specs.Judge.{fault_of}
use Rattle.judge.specs.Table.{Allowed, most}
use Rattle.words.specs.Words.{word_bits, word_count, register_bits, whole_of}
use Rattle.addend.specs.Addend.{units_of}
use Rattle.addend.specs.Sides.{sides_of, side_by_side}
use Rattle.sums.specs.Sums.{sum_of, Summing}
use Rattle.sums.specs.ListSides.{list_sides}
use Rattle.sums.proofs.SumLaws.{each_most, register_room}

-- ---- one number more
next_up : (xs : List Whole) (x : Whole) → (total (xs ++ (x ∷ []))).up ≡ (total xs).up + x.up
next_up [] x = omega arith
next_up (y ∷ xs) x = omega (arith, next_up xs x)

next_dn : (xs : List Whole) (x : Whole) → (total (xs ++ (x ∷ []))).dn ≡ (total xs).dn + x.dn
next_dn [] x = omega arith
next_dn (y ∷ xs) x = omega (arith, next_dn xs x)

module _ (W : Width) (ps : List ℕ) (i : ℕ) (h : i < length ps) where
  longer : map difference (map (units_of W) (take (i + 1) ps))
      ≡ map difference (map (units_of W) (take i ps)) ++ (sides_of W (get_or ps i 0) ∷ [])
  longer =
      rw (take_next 0 ps i h, map-append (units_of W) (take i ps) (get_or ps i 0 ∷ []))
      (map-append difference (map (units_of W) (take i ps)) (units_of W (get_or ps i 0) ∷ []))

  pub sides_up : (list_sides W (take (i + 1) ps)).up ≡ (list_sides W (take i ps)).up + (sides_of W (get_or ps i 0)).up
  sides_up = ap (λ (xs : List Whole). (total xs).up) longer ∙ next_up (map difference (map (units_of W) (take i ps))) (sides_of W (get_or ps i 0))

  pub sides_dn : (list_sides W (take (i + 1) ps)).dn ≡ (list_sides W (take i ps)).dn + (sides_of W (get_or ps i 0)).dn
  sides_dn = ap (λ (xs : List Whole). (total xs).dn) longer ∙ next_dn (map difference (map (units_of W) (take i ps))) (sides_of W (get_or ps i 0))

-- ---- their difference is the sum
pub sides_sum : (W : Width) (ps : List ℕ) → int (list_sides W ps) ≡ sum_of W.format ps
sides_sum W ps = go (map (units_of W) ps)
  where
    go : (zs : List ℤ) → int (total (map difference zs)) ≡ exact_sum zs
    go [] = int_difference (pos 0)
    go (z ∷ zs) = int_plus (difference z) (total (map difference zs)) ∙ (λ i. int_difference z i +ℤ go zs i)

-- ---- how large they are
parts_small : (z : ℤ) → ((difference z).up ≤ nat_abs z) × ((difference z).dn ≤ nat_abs z)
parts_small (pos n) = (omega arith, omega arith)
parts_small (negsuc n) = (omega arith, omega arith)

sides_bound : (c : ℕ) (zs : List ℤ) → ((j : ℕ) → j < length zs → nat_abs (get_or zs j (pos 0)) ≤ c)
    → ((total (map difference zs)).up ≤ length zs * c) × ((total (map difference zs)).dn ≤ length zs * c)
sides_bound c [] h = (omega arith, omega arith)
sides_bound c (z ∷ zs) h =
    let s = parts_small z in
    let r = sides_bound c zs (λ j l. h (suc j) (omega arith)) in
    (omega (arith, s.0, h 0 (omega arith), r.0), omega (arith, s.1, h 0 (omega arith), r.1))

-- they are below the format's limit, and that is what a register's words hold
module _ {W : Width} (R : Summing W) {ps : List ℕ} (few : length ps ≤ W.length) (C : Allowed W ps) where
  most_of : (x : ℕ) → x ≤ length (map (units_of W) ps) * most W → x < 2 ^ (register_bits - 1)
  most_of x h =
      let l : x ≤ length ps * most W = rw (length-map ps (units_of W)) at h in
      lt_of_le_of_lt (le_trans l (mul-le-mul_right (most W) few)) (lt_of_lt_of_le R.room (register_room W.format))

  pub up_below : (list_sides W ps).up < 2 ^ (register_bits - 1)
  up_below = most_of _ (sides_bound (most W) (map (units_of W) ps) (each_most W ps C)).0

  pub dn_below : (list_sides W ps).dn < 2 ^ (register_bits - 1)
  dn_below = most_of _ (sides_bound (most W) (map (units_of W) ps) (each_most W ps C)).1

-- ---- side by side in words
allowed_take : {W : Width} (ps : List ℕ) (i : ℕ) → Allowed W ps → Allowed W (take i ps)
allowed_take {W} ps i C = record { none = none }
  where
    none : (j : ℕ) → j < length (take i ps) → fault_of W (get_or (take i ps) j 0) ≡ 0
    none j h =
        let l = rw (length-take i ps) at h in
        rw (get_or-take i ps j 0 (omega arith)) (C.none j (omega arith))

module _ (B : ℕ) where
  joined : (a b c d : ℕ) → (a + b * B) + (c + d * B) ≡ (a + c) + (b + d) * B
  joined a b c d = omega arith

  room : (a b : ℕ) → a < B → b < B → a + b * B < B * B
  room a b h k = omega (arith, mul-le-mul_right B k)

  apart : (a b x y : ℕ) → a + b * B ≡ x + y * B → a < B → x < B → (a ≡ x) × (b ≡ y)
  apart a b x y e h k = (
    sym (digits_mod b h) ∙ ap (λ (n : ℕ). n % B) f ∙ digits_mod y k,
    sym (digits_div b h) ∙ ap (λ (n : ℕ). n / B) f ∙ digits_div y k,
  )
    where
      f : b * B + a ≡ y * B + x
      f = omega arith

pub nothing : number word_bits (replicate (word_count + word_count) 0) ≡ 0
unfolding number
nothing = refl

half : (x : ℕ) → x < 2 ^ (register_bits - 1) → x < 2 ^ register_bits
half x h = lt_trans h (lit< tt)

module _ {W : Width} (R : Summing W) {ps : List ℕ} (few : length ps ≤ W.length) (C : Allowed W ps) where
  pub gathers : {ws es : List ℕ} {r : ℕ} (i : ℕ) → i < length ps → length ws ≡ word_count + word_count
      → number word_bits ws ≡ side_by_side (list_sides W (take i ps))
      → Carried word_bits ws (side_by_side (sides_of W (get_or ps i 0))) es (length ws) r → number word_bits es ≡ side_by_side (list_sides W (take (i + 1) ps))
  gathers {ws} {es} {r} i h l e D =
      let B = 2 ^ register_bits in
      let a = list_sides W (take i ps) in
      let b = sides_of W (get_or ps i 0) in
      let s : side_by_side a + side_by_side b ≡ side_by_side (list_sides W (take (i + 1) ps)) =
      joined B a.up a.dn b.up b.dn ∙ sym (λ k. sides_up W ps i h k + sides_dn W ps i h k * B) in
      let t : number word_bits es + r * 2 ^ (word_bits * (word_count + word_count)) ≡ side_by_side (list_sides W (take (i + 1) ps)) =
      rw (l, e) at D.total ∙ s in
      let f : length (take (i + 1) ps) ≤ W.length = rw (length-take (i + 1) ps) (omega arith) in
      let A = allowed_take ps (i + 1) C in
      no_carry (2 ^ (word_bits * (word_count + word_count))) r _ _ t (room B _ _ (half _ (up_below R f A)) (half _ (dn_below R f A)))

  pub settled_sides : {ws : List ℕ} → length ws ≡ word_count + word_count → Digits word_bits ws → number word_bits ws ≡ side_by_side (list_sides W ps)
      → whole_of (take word_count ws) -ℤ pos (number word_bits (drop word_count ws)) ≡ sum_of W.format ps
  settled_sides {ws} l D e =
      let a = list_sides W ps in
      let lower = number_take_lt word_bits ws {i = word_count} D (omega arith) in
      let x = apart (2 ^ register_bits) _ _ a.up a.dn (sym (number_cut word_bits ws {i = word_count} (omega arith)) ∙ e) lower (half _ (up_below R few C)) in
      (λ k. signed register_bits (x.0 k) -ℤ pos (x.1 k))
      ∙ ap (λ (z : ℤ). z -ℤ pos a.dn) (signed_low register_bits (up_below R few C))
      ∙ less a
      ∙ sides_sum W ps
    where
      less : (a : Whole) → pos a.up -ℤ pos a.dn ≡ int a
      less a =
          sym (λ k. int_difference (pos a.up) k -ℤ int_difference (pos a.dn) k) ∙ sym (int_minus (nat a.up) (nat a.dn))
          ∙ int_same (nat a.up ⊖ nat a.dn) a (omega arith)
