-- `judge::greatest::greatest` meets its contract: the quarters and what is left are the list. Assumes nothing.
use Rattle.std.specs.Prelude.{◌≡◌, map, ℕ, ◌-◌, ◌*◌, ◌/◌, length, take, drop}
use Rattle.std.proofs.Common.{◌∙◌, sym, ap, arith}
use Rattle.std.specs.List.{take-map, drop-map}
use Rattle.std.proofs.Math.Seq.{take_all}
use Rattle.std.proofs.Math.ListN.{length-drop}
use Rattle.judge.specs.GreatestLaws.{greatest, greatest_of_four, greatest_quarters}
use Rattle.judge.proofs.greatest.greatest.Goals as goal

pub returns : goal.returns
returns g c =
    let W = g.F.Floating.width in
    let read = g.F.Floating.patterns in
    let each = g.met.F.Floating.each_pattern in
    let p = g.F.Floating.pattern in
    let xs = c.args.list.now in
    let ps = map p xs in
    let k = length xs / 4 in
    let first : k - 0 ≡ k = omega arith in
    let second : 2 * k - k ≡ k = omega arith in
    let third : 3 * k - 2 * k ≡ k = omega arith in
    let fourth : 4 * k - 3 * k ≡ k = omega arith in
    let quarter : (n m : ℕ) → n ≡ k → read (take n (drop m xs)) ≡ take k (drop m ps) =
    λ n m e. each (take n (drop m xs)) ∙ rw e (sym (take-map p k (drop m xs)) ∙ ap (take k) (sym (drop-map p m xs))) in
    let left : read (take (length xs - 4 * k) (drop (4 * k) xs)) ≡ drop (4 * k) ps =
    each (take (length xs - 4 * k) (drop (4 * k) xs))
    ∙ rw (take_all (length xs - 4 * k) (drop (4 * k) xs) (rw (length-drop (4 * k) xs) (omega arith))) (sym (drop-map p (4 * k) xs)) in
    let part = λ (n m : ℕ). read (take n (drop m xs)) in
    let quarters : greatest_of_four W (part (k - 0) 0) (part (2 * k - k) k) (part (3 * k - 2 * k) (2 * k)) (part (4 * k - 3 * k) (3 * k))
    ≡ greatest_of_four W (take k ps) (take k (drop k ps)) (take k (drop (2 * k) ps)) (take k (drop (3 * k) ps)) =
    rw (quarter (k - 0) 0 first, quarter (2 * k - k) k second, quarter (3 * k - 2 * k) (2 * k) third, quarter (4 * k - 3 * k) (3 * k) fourth) in
    c.with.ensures
    ∙ rw (c.of_four-four.ensures ∙ quarters, left) (greatest_quarters W k ps)
    ∙ ap (greatest W) (sym (each xs))
