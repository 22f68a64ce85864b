-- What a list and the same numbers in another order have in common. Definitions only.
use Rattle.std.specs.Prelude.{◌≡◌, List, map, ℕ, Float}
use Rattle.kinds.specs.Limits.{Width, doubles}
use Rattle.kinds.specs.Verdict.{Verdict}
use Rattle.kinds.specs.Verdict.{Refused}
use Rattle.judge.specs.Table.{First}
use Rattle.register.specs.Entries.{add, run, zeros}
use Rattle.sums.specs.Sums.{nearest_of, parts_of}

-- rule S7: one nearest sum; in every area the same parts, and the same answer whether they add up; in a register that began with zeros the same words
pub record SameSums (ps qs : List ℕ) : Type 0 where
  pub nearest : nearest_of doubles ps ≡ nearest_of doubles qs
  pub parts : (area : List Float) → parts_of doubles ps area ≡ parts_of doubles qs area
  pub register : run zeros (map add ps) ≡ run zeros (map add qs)

-- rule S10: what the two are judged: the same; or each is refused for its own lowest bad place, and with the fault found there
pub data JudgedAlike (W : Width) (ps qs : List ℕ) : Verdict → Verdict → Type 0 where
  same : (v : Verdict) → JudgedAlike W ps qs v v
  both_bad : {k i l j : ℕ} → First W ps k i → First W qs l j → JudgedAlike W ps qs (Refused k i) (Refused l j)
