-- What a carry or a borrow stands for, where words are added to or taken from: a difference is the sum that gives back what it was taken from.
-- Definitions only.
use Rattle.std.specs.Prelude.{Bool, List, ℕ, if◌then◌else◌}
use Rattle.lists.specs.Carry.{Carries, Carried, Added}

-- one word: a is what came in, d what is left
pub record Stepped (adds : Bool) (w a b c d carry : ℕ) : Type 0 where
  pub is : Carries w (if adds then a else d) b c (if adds then d else a) carry

-- all words: xs is what came in, ys what is left
pub record Gone (adds : Bool) (w : ℕ) (xs : List ℕ) (m : ℕ) (ys : List ℕ) (i carry : ℕ) : Type 0 where
  pub is : Carried w (if adds then xs else ys) m (if adds then ys else xs) i carry

-- the lowest i words
pub record Columned (adds : Bool) (w : ℕ) (xs ys zs : List ℕ) (i carry : ℕ) : Type 0 where
  pub is : Added w (if adds then xs else zs) ys (if adds then zs else xs) i carry
