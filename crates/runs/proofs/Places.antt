-- Rule D3's own block and no other, said of each place of the area. Assumes nothing.
use Rattle.std.specs.Prelude.{◌≡◌, ◌⊎◌, List, ◌++◌, ℕ, ◌+◌, ◌-◌, ◌*◌, ◌≤◌, ◌<◌, min, take, drop, Float}
use Rattle.std.proofs.Math.Path.{ap}
use Rattle.std.proofs.Common.{◌∙◌, inl, inr, length-take, length-drop}
use native.Mathlib.Omega.{arith}
use Rattle.std.proofs.Math.ListN.{length, get_or, get_or-append}
use Rattle.std.proofs.Math.Seq.{get_or-take, get_or-drop, get_or-append-add, length-take-le}
use Rattle.std.specs.Float.Ieee.{nan}
use Rattle.lists.proofs.Front.{map_at}
use Rattle.kinds.specs.Limits.{Width}
use Rattle.extract.specs.Extract.{remainder_of, remainders}
use Rattle.extract.specs.ExtractLaws.{remainders_length}
use Rattle.rounds.specs.Round.{block_of, turned}

module _ (W : Width) (sigma : Float) (b : ℕ) (xs : List Float) (j : ℕ) (inside : j < length xs) where
  -- a place before the block
  before : j < W.block * b → get_or (turned W sigma b xs) j nan ≡ get_or xs j nan
  unfolding turned
  before h =
      let l : j < length (take (W.block * b) xs) = rw (length-take (W.block * b) xs) (omega arith) in
      get_or-append (take (W.block * b) xs) _ nan j l ∙ get_or-take (W.block * b) xs j nan h

  -- a place from the block's first on
  module _ (from : W.block * b ≤ j) where
    i : ℕ
    i = j - W.block * b

    rest : List Float
    rest = remainders W.format sigma (block_of W b xs) ++ drop (W.block * b + W.block) xs

    after_first : get_or (turned W sigma b xs) j nan ≡ get_or rest i nan
    unfolding turned rest i
    after_first =
        let k : length (take (W.block * b) xs) ≡ W.block * b = length-take-le (W.block * b) xs (omega arith) in
        let e : j ≡ length (take (W.block * b) xs) + (j - W.block * b) = omega arith in
        ap (λ (k : ℕ). get_or (take (W.block * b) xs ++ rest) k nan) e ∙ get_or-append-add (take (W.block * b) xs) rest (j - W.block * b) nan

    block_length : length (block_of W b xs) ≡ min W.block (length xs - W.block * b)
    block_length = length-take W.block (drop (W.block * b) xs) ∙ ap (min W.block) (length-drop (W.block * b) xs)

    left_length : length (remainders W.format sigma (block_of W b xs)) ≡ min W.block (length xs - W.block * b)
    left_length = remainders_length W.format sigma (block_of W b xs) ∙ block_length

    own : i < W.block → get_or rest i nan ≡ remainder_of W.format sigma (get_or xs j nan)
    unfolding rest i remainders
    own h =
        let l : i < length (remainders W.format sigma (block_of W b xs)) = rw left_length (omega arith) in
        let m : i < length (block_of W b xs) = rw block_length (omega arith) in
        let e : W.block * b + i ≡ j = omega arith in
        get_or-append (remainders W.format sigma (block_of W b xs)) (drop (W.block * b + W.block) xs) nan i l
        ∙ map_at (remainder_of W.format sigma) (block_of W b xs) i nan nan m
        ∙ ap (remainder_of W.format sigma)
        (get_or-take W.block (drop (W.block * b) xs) i nan h ∙ get_or-drop (W.block * b) xs i nan ∙ ap (λ (k : ℕ). get_or xs k nan) e)

    later : W.block ≤ i → get_or rest i nan ≡ get_or xs j nan
    unfolding rest i
    later h =
        let k : length (remainders W.format sigma (block_of W b xs)) ≡ W.block = left_length ∙ omega arith in
        let e : i ≡ length (remainders W.format sigma (block_of W b xs)) + (i - W.block) = omega arith in
        let d : W.block * b + W.block + (i - W.block) ≡ j = omega arith in
        ap (λ (k : ℕ). get_or rest k nan) e
        ∙ get_or-append-add (remainders W.format sigma (block_of W b xs)) (drop (W.block * b + W.block) xs) (i - W.block) nan
        ∙ get_or-drop (W.block * b + W.block) xs (i - W.block) nan
        ∙ ap (λ (k : ℕ). get_or xs k nan) d

  pub own_place : W.block * b ≤ j → j < W.block * b + W.block → get_or (turned W sigma b xs) j nan ≡ remainder_of W.format sigma (get_or xs j nan)
  unfolding i
  own_place from to = after_first from ∙ own from (omega arith)

  pub other_place : (j < W.block * b) ⊎ (W.block * b + W.block ≤ j) → get_or (turned W sigma b xs) j nan ≡ get_or xs j nan
  unfolding i
  other_place (inl h) = before h
  other_place (inr h) = let from : W.block * b ≤ j = omega arith in after_first from ∙ later from (omega arith)
