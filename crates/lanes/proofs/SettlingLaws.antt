-- A settling that is accepted leaves lanes and words that stand for the whole number that the lanes stood for, and settling once more changes nothing.
-- Assumes nothing.
use Rattle.std.specs.Prelude.{◌≡◌, true, List, ℕ, ◌^◌, ◌<◌, ℤ, pos, length, get_or}
use Rattle.std.proofs.Common.{ap, ◌∙◌, lit<}
use Rattle.lists.specs.Digits.{inside}
use Rattle.lists.proofs.SignedDigits.{cut_words, whole_cut}
use Rattle.words.specs.Words.{word_bits, word_count, register_bits, whole_of, words_of}
use Rattle.addend.specs.Addend.{Held}
use Rattle.lanes.specs.Laid.{Counted}
use Rattle.lanes.specs.Lanes.{lane_bits, lane_count, low_lanes, lane_sum, settled_lanes, Settling, settling, settled}
use Rattle.lanes.specs.Table.{Roomy}
use Rattle.lanes.proofs.LayLaws.{settled_in}
use Rattle.lanes.proofs.RoomLaws.{roomy_when}
use Rattle.lanes.proofs.SettledLaws.{settled_sum, settled_count, settled_low, settled_top, settled_roomy}
use Rattle.lanes.proofs.LanesLaws.{settle_leaves, settle_counts}

-- the settling of settled lanes: what was settled
again : (z : ℤ) → inside register_bits z ≡ true → (ws : List ℕ) → length ws ≡ word_count
    → settled (settled_lanes z) 0 ws ≡ settling (Counted 0) (settled_lanes z) (words_of z)
again z h ws l =
    let e : lane_sum (settled_lanes z) ≡ z = settled_sum z h in
    settled_in (settled_lanes z) 0 ws (settled_count z) l ((roomy_when 0 (settled_lanes z)).1 (settled_roomy z)) (ap (inside register_bits) e ∙ h)
    ∙ (λ i. settling (Counted 0) (settled_lanes (e i)) (words_of (e i)))

module _ (zs : List ℤ) (calls : ℕ) (ws : List ℕ) {n : ℕ} (a : (settled zs calls ws).answer ≡ Counted n) where
  range : inside register_bits (lane_sum zs) ≡ true
  range = (settle_counts zs calls ws a).3

  lanes_are : (settled zs calls ws).lanes ≡ settled_lanes (lane_sum zs)
  lanes_are = ap (λ (s : Settling). s.lanes) (settle_leaves zs calls ws a)

  words_are : (settled zs calls ws).words ≡ words_of (lane_sum zs)
  words_are = ap (λ (s : Settling). s.words) (settle_leaves zs calls ws a)

  -- rule N5: the whole number is the same
  pub settle_sum : lane_sum (settled zs calls ws).lanes ≡ lane_sum zs
  settle_sum = ap lane_sum lanes_are ∙ settled_sum (lane_sum zs) range

  pub settle_whole : whole_of (settled zs calls ws).words ≡ lane_sum zs
  settle_whole = ap whole_of words_are ∙ whole_cut word_bits word_count (lit< tt) (lane_sum zs) range

  pub settle_held : Held (settled zs calls ws).words
  settle_held = rw words_are (cut_words word_bits word_count (lane_sum zs))

  pub settle_count : length (settled zs calls ws).lanes ≡ lane_count
  settle_count = ap length lanes_are ∙ settled_count (lane_sum zs)

  -- each lane from 0 to 2 ^ 32 - 1, the top one from -2 ^ 31 to 2 ^ 31 - 1
  pub settle_low : (i : ℕ) → i < low_lanes → (d : ℕ) × (get_or (settled zs calls ws).lanes i (pos 0) ≡ pos d) × (d < 2 ^ lane_bits)
  settle_low i h = rw lanes_are (settled_low (lane_sum zs) i h)

  pub settle_top : inside lane_bits (get_or (settled zs calls ws).lanes low_lanes (pos 0)) ≡ true
  settle_top = rw lanes_are (settled_top (lane_sum zs))

  pub settle_roomy : Roomy 0 (settled zs calls ws).lanes
  settle_roomy = rw lanes_are (settled_roomy (lane_sum zs))

  -- settling twice is settling once
  pub settle_twice : settled (settled zs calls ws).lanes n (settled zs calls ws).words ≡ settled zs calls ws
  settle_twice =
      let zero : n ≡ 0 = (settle_counts zs calls ws a).0 in
      let first : settled zs calls ws ≡ settling (Counted 0) (settled_lanes (lane_sum zs)) (words_of (lane_sum zs)) =
      rw zero at (settle_leaves zs calls ws a) in
      rw (first, zero) (again (lane_sum zs) range (words_of (lane_sum zs)) (cut_words word_bits word_count (lane_sum zs)).long)
