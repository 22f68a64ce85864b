-- Many sites: where no merge is refused the total is the words of all the sites' whole numbers together, however they are grouped and in whichever order; and
-- of sites that each kept a history from zero, the words of one register that took all the calls. Assumes nothing.
use Rattle.std.specs.Prelude.{◌≡◌, refl, ℕ, ◌+ℤ◌}
use Rattle.std.proofs.Common.{sym, ap, ◌∙◌, lit<}
use mathlib.Core.List.Perm
use mathlib.Core.List.{List, [], ◌∷◌, map, map-append, flatten, Perm}
use Rattle.std.proofs.Math.IntN.{+ℤ_idr}
use Rattle.units.specs.Whole.{exact_sum}
use Rattle.units.proofs.ExactSum.{sum_reordered, sum_append}
use Rattle.lists.specs.Each.{Each}
use Rattle.lists.proofs.SignedDigits.{cut_whole}
use Rattle.words.specs.Words.{word_bits, word_count, whole_of, words_of}
use Rattle.kinds.specs.Entry.{Entered}
use Rattle.addend.specs.Addend.{Held}
use Rattle.register.specs.Entries.{Change, change_of, run, AllEntered, zeros}
use Rattle.register.proofs.RunLaws.{run_from_zero, zeros_held}
use Rattle.register.proofs.Farewell.{run_held}
use Rattle.register.specs.Merge.{merged, Sites, site, both, total_of, AllMerged, registers_of}
use Rattle.register.proofs.MergeLaws.{merge_whole, merge_held}

-- two registers whose merge is accepted are two sites
pub two_sites : (us vs out : List ℕ) → Held us → Held vs → (merged us vs out).answer ≡ Entered → AllMerged (both (site us) (site vs) out)
unfolding total_of AllMerged
two_sites us vs out h k e = (h, k, e)

pub sites_held : (t : Sites) → AllMerged t → Held (total_of t)
unfolding total_of AllMerged
sites_held (site ws) A = A
sites_held (both s t out) A = merge_held (total_of s) (total_of t) out A.2

pub sites_whole : (t : Sites) → AllMerged t → whole_of (total_of t) ≡ exact_sum (map whole_of (registers_of t))
unfolding total_of AllMerged registers_of
sites_whole (site ws) A = sym (+ℤ_idr (whole_of ws))
sites_whole (both s t out) A =
    merge_whole (total_of s) (total_of t) out A.2
    ∙ (λ i. sites_whole s A.0 i +ℤ sites_whole t A.1 i)
    ∙ sym (sum_append (map whole_of (registers_of s)) (map whole_of (registers_of t)))
    ∙ ap exact_sum (sym (map-append whole_of (registers_of s) (registers_of t)))

-- rule G8: the words of all
pub sites_total : (t : Sites) → AllMerged t → total_of t ≡ words_of (exact_sum (map whole_of (registers_of t)))
sites_total t A = sym (cut_whole word_bits word_count (lit< tt) (sites_held t A)) ∙ ap words_of (sites_whole t A)

-- in any grouping and any order
pub sites_any : (s t : Sites) → AllMerged s → AllMerged t → Perm (registers_of s) (registers_of t) → total_of s ≡ total_of t
sites_any s t A B π = sites_total s A ∙ ap words_of (sum_reordered (Perm.map whole_of π)) ∙ sym (sites_total t B)

-- ---- sites that kept a history each, from zero
all_calls : (css : List (List Change)) → Each (AllEntered zeros) css → exact_sum (map whole_of (map (run zeros) css)) ≡ exact_sum (map change_of (flatten css))
unfolding flatten
all_calls [] E = refl
all_calls (cs ∷ css) E =
    (λ i. run_from_zero cs E.0 i +ℤ all_calls css E.1 i)
    ∙ sym (sum_append (map change_of cs) (map change_of (flatten css)))
    ∙ ap exact_sum (sym (map-append change_of cs (flatten css)))

-- the whole number of the total is what all sites added, less what they withdrew
pub sites_changes : (t : Sites) (css : List (List Change)) → AllMerged t → registers_of t ≡ map (run zeros) css → Each (AllEntered zeros) css
    → whole_of (total_of t) ≡ exact_sum (map change_of (flatten css))
sites_changes t css A e E = sites_whole t A ∙ ap (λ (wss : List (List ℕ)). exact_sum (map whole_of wss)) e ∙ all_calls css E

pub sites_run : (t : Sites) (css : List (List Change)) → AllMerged t → registers_of t ≡ map (run zeros) css → Each (AllEntered zeros) css
    → AllEntered zeros (flatten css) → total_of t ≡ run zeros (flatten css)
sites_run t css A e E C =
    sym (cut_whole word_bits word_count (lit< tt) (sites_held t A))
    ∙ ap words_of (sites_changes t css A e E ∙ sym (run_from_zero (flatten css) C))
    ∙ cut_whole word_bits word_count (lit< tt) (run_held zeros (flatten css) zeros_held)

-- what joined at one site and left at another leaves no trace: of the calls only their sum counts, wherever each was made
pub sites_same : (s t : Sites) (css dss : List (List Change)) → AllMerged s → AllMerged t → registers_of s ≡ map (run zeros) css
    → registers_of t ≡ map (run zeros) dss → Each (AllEntered zeros) css → Each (AllEntered zeros) dss
    → exact_sum (map change_of (flatten css)) ≡ exact_sum (map change_of (flatten dss)) → total_of s ≡ total_of t
sites_same s t css dss A B e d C D q =
    sym (cut_whole word_bits word_count (lit< tt) (sites_held s A))
    ∙ ap words_of (sites_changes s css A e C ∙ q ∙ sym (sites_changes t dss B d D))
    ∙ cut_whole word_bits word_count (lit< tt) (sites_held t B)
