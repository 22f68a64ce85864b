-- A loop that adds both numbers of each pair to a register's words: how it begins, goes on and ends, and that the words of zeros then stand for the exact sum.
-- Assumes nothing.
use Rattle.std.specs.Prelude.{◌≡◌, List, [], ◌∷◌, map, ℕ, ◌+◌, ◌≤◌, ◌<◌, ℤ, ◌+ℤ◌, length, get_or, take}
use Rattle.std.proofs.Common.{sym, ap, ◌∙◌, lit<, take_all}
use Rattle.std.proofs.lemmas.List.{map-append}
use Rattle.std.proofs.Math.IntN.{+ℤ_assoc, +ℤ_idr}
use Rattle.std.specs.Float.{Format}
use Rattle.std.specs.Float.Ieee.{of_bits, to_bits}
use Rattle.units.proofs.ExactSum.{sum_append}
use Rattle.ieee.specs.Units.{value}
use Rattle.lists.proofs.Front.{take_next}
use Rattle.lists.proofs.SignedDigits.{cut_whole, cut_plus}
use Rattle.kinds.specs.Limits.{doubles}
use Rattle.words.specs.Words.{word_bits, word_count, whole_of, words_of}
use Rattle.addend.specs.Addend.{units_of, Held}
use Rattle.sums.specs.Sums.{sum_of}
use Rattle.pairs.specs.Pairs.{Pair, product_of, error_of, products_of}
use Rattle.pairs.proofs.WriteLaws.{products_join}
use Rattle.pairs.specs.TotalLaws.{sum_to}

abbrev f : Format
f = doubles.format

abbrev g : ℕ → ℤ
g p = value f (of_bits f p)

-- one pair more
next : (cs : List Pair) (d : Pair) (i : ℕ) → i < length cs
    → let c = get_or cs i d in
    sum_to cs (i + 1) ≡ (sum_to cs i +ℤ g (to_bits f (product_of f c))) +ℤ g (to_bits f (error_of f c))
unfolding products_of
next cs d i h =
    let c = get_or cs i d in
    let x = g (to_bits f (product_of f c)) in
    let y = g (to_bits f (error_of f c)) in
    let before = products_of f (take i cs) in
    let two = to_bits f (product_of f c) ∷ to_bits f (error_of f c) ∷ [] in
    ap (λ (ds : List Pair). sum_of f (products_of f ds)) (take_next d cs i h)
    ∙ ap (sum_of f) (products_join f (take i cs) (c ∷ []))
    ∙ rw (map-append g before two) (sum_append (map g before) (map g two))
    ∙ ap (λ (z : ℤ). sum_to cs i +ℤ (x +ℤ z)) (+ℤ_idr y)
    ∙ sym (+ℤ_assoc (sum_to cs i) x y)

pub total_begins : {ws : List ℕ} (cs : List Pair) → Held ws → ws ≡ words_of (whole_of ws +ℤ sum_to cs 0)
unfolding products_of
total_begins {ws} cs W = sym (ap words_of (+ℤ_idr (whole_of ws)) ∙ cut_whole word_bits word_count (lit< tt) W)

pub total_goes_on : {ws us vs : List ℕ} (z : ℤ) (cs : List Pair) (d : Pair) (i : ℕ) → i < length cs
    → let c = get_or cs i d in
    ws ≡ words_of (z +ℤ sum_to cs i)
    → us ≡ words_of (whole_of ws +ℤ units_of doubles (to_bits doubles.format (product_of doubles.format c)))
    → vs ≡ words_of (whole_of us +ℤ units_of doubles (to_bits doubles.format (error_of doubles.format c)))
    → vs ≡ words_of (z +ℤ sum_to cs (i + 1))
total_goes_on {ws} {us} {vs} z cs d i h e p q =
    let c = get_or cs i d in
    let s = sum_to cs i in
    let x = g (to_bits f (product_of f c)) in
    let y = g (to_bits f (error_of f c)) in
    let first : us ≡ words_of ((z +ℤ s) +ℤ x) = p ∙ ap (λ (l : List ℕ). words_of (whole_of l +ℤ x)) e ∙ cut_plus word_bits word_count (lit< tt) x (z +ℤ s) in
    q
    ∙ ap (λ (l : List ℕ). words_of (whole_of l +ℤ y)) first
    ∙ cut_plus word_bits word_count (lit< tt) y ((z +ℤ s) +ℤ x)
    ∙ ap words_of (ap (λ (w : ℤ). w +ℤ y) (+ℤ_assoc z s x) ∙ +ℤ_assoc z (s +ℤ x) y ∙ ap (λ (w : ℤ). z +ℤ w) (sym (next cs d i h)))

pub total_ends : {ws : List ℕ} (z : ℤ) (cs : List Pair) (i : ℕ) → length cs ≤ i → ws ≡ words_of (z +ℤ sum_to cs i)
    → ws ≡ words_of (z +ℤ sum_of doubles.format (products_of doubles.format cs))
total_ends {ws} z cs i h e = e ∙ ap (λ (ds : List Pair). words_of (z +ℤ sum_of f (products_of f ds))) (take_all i cs h)
