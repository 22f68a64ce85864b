-- `lanes::pairs::write` meets its contract: at each turn the lowest i words are the first i pairs. Assumes nothing.
use mathlib.Core.Path.{◌≡◌, sym, ◌∙◌}
use mathlib.Core.List.{List, [], ◌∷◌, ◌++◌, map}
use Prim.Native.Nat.{ℕ, ◌+◌, ◌*◌, ◌^◌, ◌<◌}
use native.Mathlib.Numerals.{add-one}
use native.Mathlib.Omega.{arith}
use borrow.Author.Rules.{rules}
use lib.IntN.{ℤ, pos}
use lib.ListN.{length, get_or, length-map, get_or-map}
use lib.Seq.{take-suc, take-suc-set, take_all}
use Rattle.lists.specs.Digits.{residue}
use Rattle.lanes.specs.Lanes.{lane_bits}
use Rattle.lanes.specs.Settle.{pairs}
use Rattle.lanes.proofs.PairLaws.{pairs_count, pairs_at}
use Rattle.lanes.proofs.pairs.write.Goals as goal

-- a pair of lanes
pair : (zs : List ℤ) (i : ℕ) → residue lane_bits (get_or zs (2 * i) (pos 0)) + residue lane_bits (get_or zs (2 * i + 1) (pos 0)) * 2 ^ lane_bits
    ≡ get_or (pairs (map (residue lane_bits) zs)) i 0
unfolding residue
pair zs i =
    sym (pairs_at (map (residue lane_bits) zs) i
    ∙ (λ j. get_or-map (residue lane_bits) zs (2 * i) (pos 0) j + get_or-map (residue lane_bits) zs (2 * i + 1) (pos 0) j * 2 ^ lane_bits))

count : (zs : List ℤ) → length zs ≡ 66 → length (pairs (map (residue lane_bits) zs)) ≡ 33
count zs l = pairs_count 33 (map (residue lane_bits) zs) (length-map zs (residue lane_bits) ∙ l)

pub loop-i-preserved : goal.loop-i-preserved
loop-i-preserved c =
    let zs = c.args.lanes.now in
    let i = c.loop-i.i in
    let ps = pairs (map (residue lane_bits) zs) in
    let word : c.word.result ≡ residue lane_bits (get_or zs (2 * i) (pos 0)) + residue lane_bits (get_or zs (2 * i + 1) (pos 0)) * 2 ^ lane_bits =
    search rules in
    let h : i < length c.loop-i.words = omega (arith, c.requires.1) in
    let k : i < length ps = rw (count zs c.requires.0) (omega arith) in
    rw add-one (take-suc-set c.loop-i.words i c.word.result h ∙ (λ j. c.loop-i.invariant j ++ ((word ∙ pair zs i) j ∷ [])) ∙ sym (take-suc ps i 0 k))

pub returns : goal.returns
returns c =
    let ps = pairs (map (residue lane_bits) c.args.lanes.now) in
    sym (take_all c.loop-i.i c.loop-i.words (omega (arith, c.requires.1))) ∙ c.loop-i.invariant
    ∙ take_all c.loop-i.i ps (rw (count c.args.lanes.now c.requires.0) (omega arith))
