-- `lanes::inner::add` meets its contract: each of the number's three digits is put into its lane, and no lane is met twice. Assumes nothing.
use mathlib.Core.Path.{◌≡◌, ap, subst, ◌∙◌}
use mathlib.Core.List.{List}
use Prim.Native.Nat.{ℕ, ◌+◌}
use lib.Ieee.{of_bits}
use lib.IntN.{ℤ}
use Rattle.ieee.specs.Units.{magnitude}
use Rattle.kinds.specs.Limits.{doubles}
use Rattle.lanes.specs.Three.{with_sign, put, AtLane, laid_three}
use Rattle.lanes.proofs.Signed64.{sign_back}
use Rattle.lanes.proofs.inner.add.Goals as goal

pub returns : goal.returns
returns c =
    let first : (let r = c.shifted-at.result in
    c.put.new.lanes ≡ put c.args.lanes.now r.lane
    (with_sign c.args.p r.low)) = let r = c.shifted-at.result in
    c.put.ensures ∙ ap (put c.args.lanes.now r.lane)
    (sign_back c.with_sign.result c.args.p r.low c.with_sign.ensures c.shifted-at.ensures.low) in
    let second : (let r = c.shifted-at.result in
    c.put-2.new.lanes
    ≡ put (put c.args.lanes.now r.lane (with_sign c.args.p r.low)) (r.lane + 1) (with_sign c.args.p r.middle)) = let r = c.shifted-at.result in
    let digit =
    sign_back c.with_sign-2.result
    c.args.p r.middle c.with_sign-2.ensures c.shifted-at.ensures.middle in
    c.put-2.ensures
    ∙ ap (put c.put.new.lanes (r.lane + 1)) digit
    ∙ ap (λ (zs : List ℤ). put zs (r.lane + 1) (with_sign c.args.p r.middle)) first in
    let digits : (let r = c.shifted-at.result in
    AtLane (magnitude doubles.format (of_bits doubles.format c.args.p)) r.lane r.low r.middle r.high) = let r = c.shifted-at.result in
    subst (λ (n : ℕ). AtLane n r.lane r.low r.middle r.high) c.scaled-number.ensures.units c.shifted-at.ensures in
    let r = c.shifted-at.result in
    c.put-3.ensures
    ∙ ap (put c.put-2.new.lanes (r.lane + 2))
    (sign_back c.with_sign-3.result c.args.p r.high c.with_sign-3.ensures c.shifted-at.ensures.high)
    ∙ ap (λ (zs : List ℤ). put zs (r.lane + 2) (with_sign c.args.p r.high)) second
    ∙ laid_three c.args.p c.requires.2 digits
    c.args.lanes.now c.requires.0
