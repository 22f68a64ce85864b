-- The test of the three lengths of a merge says what the table says. Assumes nothing.
use Rattle.std.specs.Prelude.{◌≡◌, Bool, true, ◌&&◌, List, ℕ, eqb, length}
use Rattle.std.proofs.Common.{eq-eqb, eqb→eq}
use Rattle.std.proofs.Math.Dec.{T}
use Rattle.std.specs.Float.Ieee.Fits.{and_l, and_r}
use Rattle.words.specs.Words.{word_count}
use Rattle.register.specs.Merge.{right_lengths, ThreeRegisters}

module _ (us vs out : List ℕ) where
  -- the test of the three lengths says what the table says
  pub lengths_right : ThreeRegisters us vs out → right_lengths us vs out ≡ true
  lengths_right T = rw (eq-eqb (length us) word_count T.first, eq-eqb (length vs) word_count T.second, eq-eqb (length out) word_count T.third)

  pub right_lengths_lem : right_lengths us vs out ≡ true → ThreeRegisters us vs out
  right_lengths_lem e =
      let u : Bool = eqb (length us) word_count in
      let v : Bool = eqb (length vs) word_count in
      let o : Bool = eqb (length out) word_count in
      let t : T (right_lengths us vs out) = rw e tt in
      let w : T (u && v) = and_l (u && v) o t in
      record { first = eqb→eq _ _ (and_l u v w); second = eqb→eq _ _ (and_r u v w); third = eqb→eq _ _ (and_r (u && v) o t) }
