-- Numbers of 8 bytes one after the other: one number more, the lengths, and that numbers and bytes determine each other, whatever the order of the bytes.
-- Assumes nothing.
use Rattle.std.specs.Prelude.{◌≡◌, get_or, take, drop}
use Rattle.std.proofs.Math.Path.{refl, ap}
use Rattle.std.proofs.Common.{sym, ◌∙◌, zero-add, add-one, take-append-drop, length-append, length-drop}
use mathlib.Core.List.{List, [], ◌∷◌, ◌++◌, append_assoc, append-nil}
use Prim.Native.Nat.{ℕ, zero, suc, ◌+◌, ◌*◌, ◌^◌, ◌≤◌, ◌<◌}
use native.Mathlib.Omega.{arith}
use Rattle.std.proofs.Math.Pow.{pow_pos}
use Rattle.std.proofs.Math.ListN.{length}
use Rattle.std.proofs.Math.Seq.{length-take-le, take_at, drop_at, drop-drop}
use Rattle.std.specs.Simd.{first_chunks}
use Rattle.lists.specs.Digits.{Digits}
use Rattle.lists.specs.DigitLaws.{digits_head, digits_tail, digits_more, digits_take, digits_drop}
use Rattle.lists.proofs.Front.{take_next}
use Rattle.octets.specs.Octets.{bytes_at, joined, eights}

-- ---- bytes cut into chunks of eight, as the kit cuts them
pub chunk_at : (n i : ℕ) (bytes d : List ℕ) → i < n → get_or (first_chunks 8 n bytes) i d ≡ bytes_at bytes (8 * i) 8
chunk_at zero i bytes d h = absurd (omega arith)
chunk_at (suc n) zero bytes d h = refl
chunk_at (suc n) (suc i) bytes d h =
    let e : 8 + 8 * i ≡ 8 * suc i = omega arith in
    chunk_at n i (drop 8 bytes) d (omega arith) ∙ rw (drop-drop (8 * i) 8 bytes, e)

-- ---- n numbers from bytes
module _ (number_of : List ℕ → ℕ) where
  pub eights_none : (bytes : List ℕ) → eights number_of 0 bytes ≡ []
  unfolding eights
  eights_none bytes = refl

  pub eights_length : (n : ℕ) (bytes : List ℕ) → length (eights number_of n bytes) ≡ n
  unfolding eights
  eights_length zero bytes = refl
  eights_length (suc n) bytes = ap suc (eights_length n (drop 8 bytes))

  following : (i : ℕ) (bytes : List ℕ) → eights number_of (suc i) bytes ≡ eights number_of i bytes ++ (number_of (bytes_at bytes (8 * i) 8) ∷ [])
  unfolding eights
  following zero bytes = refl
  following (suc i) bytes =
      let e : 8 + 8 * i ≡ 8 * suc i = omega arith in
      rw (following i (drop 8 bytes), drop-drop (8 * i) 8 bytes, e)

  pub eights_more : (i : ℕ) (bytes : List ℕ) → eights number_of (i + 1) bytes ≡ eights number_of i bytes ++ (number_of (bytes_at bytes (8 * i) 8) ∷ [])
  eights_more i bytes = rw add-one (following i bytes)

  -- behind k bytes of something else
  pub eights_next : (i k : ℕ) (bytes : List ℕ)
      → eights number_of (i + 1) (drop k bytes) ≡ eights number_of i (drop k bytes) ++ (number_of (bytes_at bytes (k + 8 * i) 8) ∷ [])
  eights_next i k bytes = rw (eights_more i (drop k bytes), drop-drop (8 * i) k bytes)

  -- the number at a place
  numbered : (n i : ℕ) (bytes : List ℕ) → i < n → get_or (eights number_of n bytes) i 0 ≡ number_of (bytes_at bytes (8 * i) 8)
  unfolding eights
  numbered zero i bytes h = absurd (omega arith)
  numbered (suc n) zero bytes h = refl
  numbered (suc n) (suc i) bytes h =
      let e : 8 + 8 * i ≡ 8 * suc i = omega arith in
      numbered n i (drop 8 bytes) (omega arith) ∙ rw (drop-drop (8 * i) 8 bytes, e)

  pub eights_at : (n i k : ℕ) (bytes : List ℕ) → i < n → get_or (eights number_of n (drop k bytes)) i 0 ≡ number_of (bytes_at bytes (k + 8 * i) 8)
  eights_at n i k bytes h = rw (numbered n i (drop k bytes) h, drop-drop (8 * i) k bytes)

  -- bytes make numbers of 64 bits
  pub eights_below : ((bs : List ℕ) → Digits 8 bs → length bs ≡ 8 → number_of bs < 2 ^ 64) → (n : ℕ) (bs : List ℕ) → Digits 8 bs → 8 * n ≤ length bs
      → Digits 64 (eights number_of n bs)
  unfolding eights
  eights_below below zero bs B l = record { below = λ i. pow_pos 64 }
  eights_below below (suc n) bs B l =
      let t : length (take 8 bs) ≡ 8 = length-take-le 8 bs (omega arith) in
      digits_more 64 (below (take 8 bs) (digits_take 8 8 bs B) t)
      (eights_below below n (drop 8 bs) (digits_drop 8 8 bs B) (rw (length-drop 8 bs) (omega arith)))

-- ---- bytes from numbers
module _ (bytes_of : ℕ → List ℕ) (size : (v : ℕ) → length (bytes_of v) ≡ 8) where
  pub joined_length : (vs : List ℕ) → length (joined bytes_of vs) ≡ 8 * length vs
  unfolding joined
  joined_length [] = refl
  joined_length (v ∷ vs) = rw (length-append (bytes_of v) (joined bytes_of vs), size v, joined_length vs) (omega arith)

  -- numbers that fit, written and read again
  pub eights_joined : (number_of : List ℕ → ℕ) → ((v : ℕ) → v < 2 ^ 64 → number_of (bytes_of v) ≡ v) → (vs : List ℕ) → Digits 64 vs
      → eights number_of (length vs) (joined bytes_of vs) ≡ vs
  unfolding joined eights
  eights_joined number_of back [] D = refl
  eights_joined number_of back (v ∷ vs) D =
      rw (
        take_at (bytes_of v) (joined bytes_of vs) 8 (size v),
        drop_at (bytes_of v) (joined bytes_of vs) 8 (size v),
        back v (digits_head 64 D),
        eights_joined number_of back vs (digits_tail 64 D),
      )

pub joined_none : (bytes_of : ℕ → List ℕ) → joined bytes_of [] ≡ []
unfolding joined
joined_none bytes_of = refl

joined_more : (bytes_of : ℕ → List ℕ) (vs : List ℕ) (v : ℕ) → joined bytes_of (vs ++ (v ∷ [])) ≡ joined bytes_of vs ++ bytes_of v
unfolding joined
joined_more bytes_of [] v = append-nil (bytes_of v)
joined_more bytes_of (u ∷ vs) v = rw (joined_more bytes_of vs v, append_assoc (bytes_of u) (joined bytes_of vs) (bytes_of v))

-- k bytes of something else, the first i numbers' bytes and what stood behind them, and the next number written there
pub joined_behind : (bytes_of : ℕ → List ℕ) → ((v : ℕ) → length (bytes_of v) ≡ 8) → (front : List ℕ) (k : ℕ) → length front ≡ k
    → (vs bs : List ℕ) (i : ℕ) → i < length vs
    → let l = front ++ (joined bytes_of (take i vs) ++ drop (k + 8 * i) bs) in
    take (k + 8 * i) l ++ (bytes_of (get_or vs i 0) ++ drop (k + 8 * i + 8) l) ≡ front ++ (joined bytes_of (take (i + 1) vs) ++ drop (k + 8 * (i + 1)) bs)
joined_behind bytes_of size front k f vs bs i h =
    let J = joined bytes_of (take i vs) in
    let v = get_or vs i 0 in
    let m = k + 8 * i in
    let j : length J ≡ 8 * i = joined_length bytes_of size (take i vs) ∙ ap (λ (n : ℕ). 8 * n) (length-take-le i vs (omega arith)) in
    let e : length (front ++ J) ≡ m = rw (length-append front J, f, j) in
    let n : m + 8 ≡ k + 8 * (i + 1) = omega arith in
    let d : drop (m + 8) ((front ++ J) ++ drop m bs) ≡ drop (k + 8 * (i + 1)) bs =
    sym (drop-drop 8 m ((front ++ J) ++ drop m bs)) ∙ ap (drop 8) (drop_at (front ++ J) (drop m bs) m e) ∙ drop-drop 8 m bs
    ∙ ap (λ (q : ℕ). drop q bs) n in
    let t : joined bytes_of (take (i + 1) vs) ≡ J ++ bytes_of v = ap (joined bytes_of) (take_next 0 vs i h) ∙ joined_more bytes_of (take i vs) v in
    rw (← append_assoc front J (drop m bs), take_at (front ++ J) (drop m bs) m e, d, t)
    (append_assoc front J _ ∙ ap (λ (l : List ℕ). front ++ l) (sym (append_assoc J (bytes_of v) (drop (k + 8 * (i + 1)) bs))))

pub joined_next : (bytes_of : ℕ → List ℕ) → ((v : ℕ) → length (bytes_of v) ≡ 8) → (vs bs : List ℕ) (i : ℕ) → i < length vs
    → let l = joined bytes_of (take i vs) ++ drop (8 * i) bs in
    take (8 * i) l ++ (bytes_of (get_or vs i 0) ++ drop (8 * i + 8) l) ≡ joined bytes_of (take (i + 1) vs) ++ drop (8 * (i + 1)) bs
joined_next bytes_of size vs bs i h = simp zero-add at (joined_behind bytes_of size [] 0 refl vs bs i h)

-- ---- bytes, read and written again
pub joined_eights : (bytes_of : ℕ → List ℕ) (number_of : List ℕ → ℕ) → ((bs : List ℕ) → Digits 8 bs → length bs ≡ 8 → bytes_of (number_of bs) ≡ bs)
    → (n : ℕ) (bs : List ℕ) → Digits 8 bs → length bs ≡ 8 * n → joined bytes_of (eights number_of n bs) ≡ bs
unfolding joined eights
joined_eights bytes_of number_of back zero [] B h = refl
joined_eights bytes_of number_of back zero (b ∷ bs) B h = absurd (omega arith)
joined_eights bytes_of number_of back (suc n) bs B h =
    let l : length (take 8 bs) ≡ 8 = length-take-le 8 bs (omega arith) in
    let d : length (drop 8 bs) ≡ 8 * n = rw (length-drop 8 bs) (omega arith) in
    rw (back (take 8 bs) (digits_take 8 8 bs B) l, joined_eights bytes_of number_of back n (drop 8 bs) (digits_drop 8 8 bs B) d) (take-append-drop 8 bs)
