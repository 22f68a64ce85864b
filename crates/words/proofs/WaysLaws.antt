-- Either way of going to words carries on in the same steps: for a sum and for a difference by the laws of each. Assumes nothing.
use Rattle.std.proofs.Common.{◌≡◌, arith, Bool, true, false, List, ℕ, ◌+◌, ◌*◌, ◌^◌, ◌<◌, length, get_or, set, suc}
use Rattle.lists.specs.Carry.{two}
use Rattle.lists.proofs.CarryLaws.{carried_up, borrowed_up, add_two, sub_two, added_none, added_next, taken_next}
use Rattle.words.specs.Ways.{Stepped, Gone, Columned}

module _ {w : ℕ} {xs ys : List ℕ} {m i c : ℕ} where
  -- one word further up
  pub gone_up : {d carry : ℕ} (u : Bool) → i < length ys → Gone u w xs m ys i c → Stepped u w (get_or ys i 0) 0 c d carry
      → Gone u w xs m (set ys i d) (i + 1) carry
  gone_up true h A s = record { is = carried_up h A.is s.is }
  gone_up false h A s = record { is = borrowed_up h A.is s.is }

  -- where nothing goes up any further
  pub gone_still : {n : ℕ} (u : Bool) → c ≡ 0 → Gone u w xs m ys i c → Gone u w xs m ys n 0
  gone_still true e A = let t = rw e at A.is in record { is = record { total = omega (arith, t.total); small = t.small } }
  gone_still false e A = let t = rw e at A.is in record { is = record { total = omega (arith, t.total); small = t.small } }

-- two adjacent words, then on from there
module _ {w : ℕ} {xs zs : List ℕ} {l c h d n r : ℕ} where
  pub gone_two : (u : Bool) (k lo hi : ℕ) → k + 1 < length xs → Stepped u w (get_or xs k 0) lo 0 l c
      → Stepped u w (get_or (set xs k l) (k + 1) 0) hi c h d → Gone u w (set (set xs k l) (k + 1) h) (d * 2 ^ (w * (k + 2))) zs n r
      → Gone u w xs (two w k lo hi) zs n r
  gone_two true k lo hi K s t C = record { is = add_two k lo hi K s.is t.is C.is }
  gone_two false k lo hi K s t C = record { is = sub_two k lo hi K s.is t.is C.is }

-- column by column
pub columned_none : (u : Bool) (w : ℕ) (xs ys zs : List ℕ) → Columned u w xs ys zs 0 0
columned_none true w xs ys zs = record { is = added_none w xs ys zs }
columned_none false w xs ys zs = record { is = added_none w zs ys xs }

module _ {w : ℕ} {xs ys zs : List ℕ} {i c : ℕ} where
  pub columned_next : {d carry : ℕ} (u : Bool) → i < length xs → length ys ≡ length xs → length zs ≡ length xs → Columned u w xs ys zs i c
      → Stepped u w (get_or xs i 0) (get_or ys i 0) c d carry → Columned u w xs ys (set zs i d) (suc i) carry
  columned_next true h k l A s = record { is = added_next h k l A.is s.is }
  columned_next false h k l A s = record { is = taken_next h l k A.is s.is }
