-- A pending block that is taken: it turns exactly its own places, and what was taken before and the block are what is taken then. Assumes nothing.
use Rattle.std.specs.Prelude.{◌≡◌, ◌⊎◌, Bool, true, false, ℕ, suc, ◌+◌, ◌-◌, ◌*◌, ◌/◌, ◌≤◌, ◌<◌, max, drop, Float}
use Rattle.std.proofs.Math.Path.{sym, ap}
use Rattle.std.proofs.Common.{◌∙◌, mul_comm, suc-mul, le-div_iff_mul-le, div-lt_iff_lt-mul, arith, length-take, take-append-drop, take_all, take_at, drop_at}
use Rattle.std.proofs.Common.{drop-drop}
use Rattle.std.proofs.Math.Logic.{inl, inr}
use mathlib.Core.List.{List, [], ◌∷◌, ◌++◌, append-nil, map}
use Rattle.std.proofs.Math.ListN.{length, take, length-drop, drop_of_length-le, length-append}
use Rattle.std.proofs.Math.Seq.{length-take-le}
use Rattle.std.specs.Float.{Format}
use Rattle.units.specs.Whole.{Whole, ◌⊕◌, ◌≈◌, total}
use Rattle.units.proofs.Powers.{le_or_lt}
use Rattle.lists.specs.Bitset.{has, without}
use Rattle.lists.proofs.BitsetLaws.{has_without, has_other}
use Rattle.kinds.specs.Limits.{Width, blocks_of}
use Rattle.extract.specs.Extract.{remainders, largest}
use Rattle.extract.specs.ExtractLaws.{remainders_join, largest_join}
use Rattle.rounds.specs.Round.{block_of, turned}
use Rattle.runs.specs.Taken.{pending_at, mixed, taken_of}
use Rattle.runs.specs.TakenLaws.{Throughout}
use Rattle.runs.proofs.TakenLaws.{mixed_join, mixed_agree, mixed_nothing, mixed_all, mixed_length}
use Rattle.runs.proofs.TakenLaws.{taken_join, taken_agree, taken_nothing, taken_all}

total_join : (g : Float → Whole) (xs ys : List Float) → total (map g (xs ++ ys)) ≈ total (map g xs) ⊕ total (map g ys)
total_join g [] ys = omega arith
total_join g (x ∷ xs) ys = omega (arith, total_join g xs ys)

module _ (W : Width) (some : 0 < W.block) (xs : List Float) (b : ℕ) (there : b < blocks_of W (length xs)) (P : ℕ) (pending : has P b ≡ true) where
  before : List Float
  before = take (W.block * b) xs

  block : List Float
  block = take W.block (drop (W.block * b) xs)

  after : List Float
  after = drop (W.block * b + W.block) xs

  starts : W.block * b < length xs
  starts =
      let l : suc b * W.block ≤ length xs + (W.block - 1) = (le-div_iff_mul-le {k = W.block} some).0 there in
      omega (arith, l, mul_comm W.block b, some)

  before_length : length before ≡ W.block * b
  unfolding before
  before_length = length-take-le (W.block * b) xs (omega (arith, starts))

  -- the block is whole, or nothing comes after it
  cut : (length block ≡ W.block) ⊎ ((length block < W.block) × (after ≡ []))
  unfolding block after
  cut = elim (le_or_lt (W.block * b + W.block) (length xs)) [
    | inl l ↦ inl (length-take-le W.block (drop (W.block * b) xs) (rw (length-drop (W.block * b) xs) (omega arith)))
    | inr l ↦ inr (
      rw (length-take W.block (drop (W.block * b) xs), length-drop (W.block * b) xs) (omega (arith, starts)),
      drop_of_length-le xs {i = W.block * b + W.block} (omega arith),
    )
  ]

  short : length block ≤ W.block
  short = elim cut [ inl w ↦ omega arith | inr w ↦ omega arith ]

  parts : xs ≡ before ++ (block ++ after)
  unfolding before block after
  parts =
      sym (take-append-drop (W.block * b) xs)
      ∙ ap (λ (l : List Float). take (W.block * b) xs ++ l)
      (sym (take-append-drop W.block (drop (W.block * b) xs))
      ∙ ap (λ (l : List Float). take W.block (drop (W.block * b) xs) ++ l) (drop-drop W.block (W.block * b) xs))

  -- ---- the blocks of the places
  block_at : (j : ℕ) → W.block * b ≤ j → j < W.block * b + W.block → j / W.block ≡ b
  block_at j h l =
      let u : b ≤ j / W.block = (le-div_iff_mul-le {k = W.block} some).1 (omega (arith, mul_comm W.block b)) in
      let v : j / W.block < suc b = (div-lt_iff_lt-mul {k = W.block} some).1 (omega (arith, mul_comm W.block b, suc-mul b W.block)) in
      omega arith

  earlier : (j : ℕ) → j < W.block * b → j / W.block < b
  earlier j h = (div-lt_iff_lt-mul {k = W.block} some).1 (omega (arith, mul_comm W.block b))

  later : (j : ℕ) → W.block * b + W.block ≤ j → b < j / W.block
  later j h = (le-div_iff_mul-le {k = W.block} some).1 (omega (arith, mul_comm W.block b, suc-mul b W.block))

  -- ---- the places of the three parts
  same_before : Throughout (λ j. pending_at W P j ≡ pending_at W (without P b) j) 0 (length before)
  same_before j l h =
      let e : j / W.block < b = earlier j (omega (arith, before_length)) in
      sym (has_other P b (j / W.block) (omega arith))

  kept : Throughout (λ j. pending_at W P j ≡ true) (W.block * b) (length block)
  kept j l h = rw (block_at j l (omega (arith, short))) pending

  gone : Throughout (λ j. pending_at W (without P b) j ≡ false) (W.block * b) (length block)
  gone j l h = rw (block_at j l (omega (arith, short))) (has_without P b)

  same_after : Throughout (λ j. pending_at W P j ≡ pending_at W (without P b) j) (W.block * b + length block) (length after)
  same_after j l h = elim cut [
    | inl w ↦ let e : b < j / W.block = later j (omega arith) in sym (has_other P b (j / W.block) (omega arith))
    | inr w ↦ absurd (omega (arith, ap length w.1))
  ]

  -- ---- the area
  module _ (f : Format) (sigma : Float) where
    three : (pend : ℕ → Bool) → mixed f sigma pend 0 xs
        ≡ mixed f sigma pend 0 before ++ (mixed f sigma pend (W.block * b) block ++ mixed f sigma pend (W.block * b + length block) after)
    three pend =
        let z : 0 + length before ≡ W.block * b = omega (arith, before_length) in
        ap (mixed f sigma pend 0) parts
        ∙ mixed_join pend f sigma 0 before (block ++ after)
        ∙ rw z (ap (λ (l : List Float). mixed f sigma pend 0 before ++ l) (mixed_join pend f sigma (W.block * b) block after))

    first : List Float
    first = mixed f sigma (pending_at W P) 0 before

    last : List Float
    last = mixed f sigma (pending_at W P) (W.block * b + length block) after

    area : mixed f sigma (pending_at W P) 0 xs ≡ first ++ (block ++ last)
    unfolding first last
    area = three (pending_at W P) ∙ rw (mixed_nothing (pending_at W P) f sigma (W.block * b) block kept)

    area_then : mixed f sigma (pending_at W (without P b)) 0 xs ≡ first ++ (remainders f sigma block ++ last)
    unfolding first last
    area_then =
        three (pending_at W (without P b))
        ∙ (λ i.
        sym (mixed_agree (pending_at W P) (pending_at W (without P b)) f sigma 0 before same_before) i
        ++ (mixed_all (pending_at W (without P b)) f sigma (W.block * b) block gone i
        ++ sym (mixed_agree (pending_at W P) (pending_at W (without P b)) f sigma (W.block * b + length block) after same_after) i))

    first_length : length first ≡ W.block * b
    unfolding first
    first_length = mixed_length (pending_at W P) f sigma 0 before ∙ before_length

    -- where the block is cut, nothing comes after it
    ended : after ≡ [] → last ≡ []
    unfolding last mixed
    ended e = ap (mixed f sigma (pending_at W P) (W.block * b + length block)) e

    block_first : take W.block (block ++ last) ≡ block
    block_first = elim cut [
      | inl w ↦ take_at block last W.block w
      | inr w ↦ rw (ended w.1, append-nil block) (take_all W.block block (omega arith))
    ]

    last_rest : drop W.block (block ++ last) ≡ last
    last_rest = elim cut [
      | inl w ↦ drop_at block last W.block w
      | inr w ↦ rw (ended w.1, append-nil block) (drop_of_length-le block {i = W.block} (omega arith))
    ]

    rest : drop (W.block * b) (mixed f sigma (pending_at W P) 0 xs) ≡ block ++ last
    rest = rw area (drop_at first (block ++ last) (W.block * b) first_length)

  -- the numbers of a pending block are still those of the list
  pub own_numbers : (sigma : Float) → block_of W b (mixed W.format sigma (pending_at W P) 0 xs) ≡ block_of W b xs
  unfolding block
  own_numbers sigma = ap (take W.block) (rest W.format sigma) ∙ block_first W.format sigma

  -- taking it turns them into their remainders, and no other place
  pub own_block : (sigma : Float) → turned W sigma b (mixed W.format sigma (pending_at W P) 0 xs) ≡ mixed W.format sigma (pending_at W (without P b)) 0 xs
  unfolding turned block
  own_block sigma =
      (λ i. front i ++ (remainders W.format sigma (own_numbers sigma i) ++ back i)) ∙ sym (area_then W.format sigma)
    where
      front : take (W.block * b) (mixed W.format sigma (pending_at W P) 0 xs) ≡ first W.format sigma
      front = rw (area W.format sigma) (take_at (first W.format sigma) (block ++ last W.format sigma) (W.block * b) (first_length W.format sigma))

      back : drop (W.block * b + W.block) (mixed W.format sigma (pending_at W P) 0 xs) ≡ last W.format sigma
      back = sym (drop-drop W.block (W.block * b) (mixed W.format sigma (pending_at W P) 0 xs))
          ∙ ap (drop W.block) (rest W.format sigma) ∙ last_rest W.format sigma

  -- ---- the numbers taken
  taken_three : (pend : ℕ → Bool)
      → taken_of pend 0 xs ≡ taken_of pend 0 before ++ (taken_of pend (W.block * b) block ++ taken_of pend (W.block * b + length block) after)
  taken_three pend =
      let z : 0 + length before ≡ W.block * b = omega (arith, before_length) in
      ap (taken_of pend 0) parts
      ∙ taken_join pend 0 before (block ++ after)
      ∙ rw z (ap (λ (l : List Float). taken_of pend 0 before ++ l) (taken_join pend (W.block * b) block after))

  earlier_taken : List Float
  earlier_taken = taken_of (pending_at W P) 0 before

  later_taken : List Float
  later_taken = taken_of (pending_at W P) (W.block * b + length block) after

  taken_was : taken_of (pending_at W P) 0 xs ≡ earlier_taken ++ later_taken
  unfolding earlier_taken later_taken
  taken_was = taken_three (pending_at W P) ∙ rw (taken_nothing (pending_at W P) (W.block * b) block kept)

  taken_is : taken_of (pending_at W (without P b)) 0 xs ≡ earlier_taken ++ (block ++ later_taken)
  unfolding earlier_taken later_taken
  taken_is =
      taken_three (pending_at W (without P b))
      ∙ (λ i.
      sym (taken_agree (pending_at W P) (pending_at W (without P b)) 0 before same_before) i
      ++ (taken_all (pending_at W (without P b)) (W.block * b) block gone i
      ++ sym (taken_agree (pending_at W P) (pending_at W (without P b)) (W.block * b + length block) after same_after) i))

  pub count_then : length (taken_of (pending_at W (without P b)) 0 xs) ≡ length (taken_of (pending_at W P) 0 xs) + length (block_of W b xs)
  unfolding block
  count_then = rw (taken_is, taken_was) (simp length-append (omega arith))

  pub largest_then : (f : Format) (sigma : Float) → largest f (remainders f sigma (taken_of (pending_at W (without P b)) 0 xs))
      ≡ max (largest f (remainders f sigma (taken_of (pending_at W P) 0 xs))) (largest f (remainders f sigma (block_of W b xs)))
  unfolding block
  largest_then f sigma = rw (taken_is, taken_was) (simp (remainders_join f sigma, largest_join f) (omega arith))

  pub total_then : (g : Float → Whole) → total (map g (taken_of (pending_at W (without P b)) 0 xs))
      ≈ total (map g (taken_of (pending_at W P) 0 xs)) ⊕ total (map g (block_of W b xs))
  unfolding block
  total_then g =
      rw (taken_is, taken_was)
      (omega (arith, total_join g earlier_taken (block ++ later_taken), total_join g block later_taken, total_join g earlier_taken later_taken))
