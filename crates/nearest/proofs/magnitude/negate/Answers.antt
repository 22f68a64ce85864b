-- `nearest::magnitude::negate` meets its contract. The loop's invariant: the words so far, the register's and the carry add up to a power of two.
-- Assumes nothing.
use Rattle.std.proofs.Common.{◌≡◌, ℕ, ◌+◌, ◌-◌, ◌*◌, ◌%◌, ◌^◌, ◌<◌, ◌≤◌, Bool, true, false, ltb, get_or, refl, ◌∙◌, add-one, arith, ltb-false}
use Rattle.std.proofs.Common.{ltb-true}
use mir.Val.{bool_byte}
use Rattle.lists.proofs.Magnitude.{negated_none, negated_next}
use Rattle.words.specs.Words.{word_bits}
use Rattle.nearest.proofs.magnitude.negate.Goals as goal

-- the carry out of the wrapped sum t of a word's complement and the carry c
carried : (d c t : ℕ) → d < 2 ^ 64 → c ≤ 1 → t ≡ (2 ^ 64 - 1 - d + c) % 2 ^ 64
    → (bool_byte (ltb t c) ≤ 1) × (t + bool_byte (ltb t c) * 2 ^ 64 + d + 1 ≡ 2 ^ 64 + c)
carried d c t h k e = go (ltb t c) (ltb-true t c) (ltb-false t c)
  where
    go : (b : Bool) → (b ≡ true → t < c) → (b ≡ false → c ≤ t) → (bool_byte b ≤ 1) × (t + bool_byte b * 2 ^ 64 + d + 1 ≡ 2 ^ 64 + c)
    go true l g = omega (arith, l refl)
    go false l g = omega (arith, g refl)

pub loop-i-init : goal.loop-i-init
loop-i-init c = negated_none word_bits _ _

pub loop-i-preserved : goal.loop-i-preserved
loop-i-preserved c =
    let ds = c.args.register.now in
    let i = c.loop-i.i in
    let s = carried (get_or ds i 0) c.loop-i.carry _ (c.type_inv.register i).fits c.loop-i.invariant.carry refl in
    rw (add-one i, c.from-carry.ensures)
    (negated_next word_bits ds c.loop-i.words i c.loop-i.carry _ _ c.loop-i-test.true (c.loop-i.auto.words ∙ c.requires.0) c.loop-i.invariant s.0 s.1)
