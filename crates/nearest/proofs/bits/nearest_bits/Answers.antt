-- `nearest::bits::nearest_bits` meets its contract: the top word tells the sign, and the head of the magnitude the pattern. Assumes nothing.
use Rattle.std.proofs.Common.{◌-◌, sym, ap, ◌∙◌}
use lib.Pow.{pow-sub-lt}
use Rattle.lists.specs.DigitLaws.{number_lt}
use Rattle.words.specs.Words.{word_bits, word_count, register_bits}
use Rattle.nearest.proofs.HeadLaws.{words_fit, below_most}
use Rattle.nearest.specs.Bits.{head_bits}
use Rattle.nearest.proofs.RegisterBits.{bits_positive, not_zero, bits_negative}
use Rattle.nearest.proofs.bits.nearest_bits.Goals as goal

pub pattern-p-requires : goal.pattern-p-requires
pattern-p-requires g c =
    rw c.leading.ensures
    (below_most word_bits (word_count - 1) (rw c.requires at (number_lt word_bits c.args.register.now (words_fit c.type_inv.register))))

pub returns-then-register-lt-TOP : goal.returns-then-register-lt-TOP
returns-then-register-lt-TOP g c =
    bits_positive g.F.Floating.width.format c.args.register.now c.requires
    (words_fit c.type_inv.register) c.args.zero c.pattern-p.result c.if-register-lt-TOP.true
    (c.pattern-p.ensures ∙ ap (head_bits g.F.Floating.width.format) c.leading.ensures)

pub negate-requires : goal.negate-requires
negate-requires g c =
    (sym c.requires, not_zero g.F.Floating.width.format c.args.register.now c.requires (words_fit c.type_inv.register) c.if-register-lt-TOP.false)

pub pattern-requires : goal.pattern-requires
pattern-requires g c =
    let above_zero = not_zero g.F.Floating.width.format c.args.register.now c.requires (words_fit c.type_inv.register) c.if-register-lt-TOP.false in
    rw (c.leading-2.ensures, c.negate.ensures, c.requires) (below_most word_bits (word_count - 1) (pow-sub-lt register_bits above_zero))

pub returns : goal.returns
returns g c =
    bits_negative g.F.Floating.width.format c.args.register.now c.requires
    (words_fit c.type_inv.register) c.if-register-lt-TOP.false c.args.zero c.pattern.result _
    c.negate.ensures
    (c.pattern.ensures ∙ ap (head_bits g.F.Floating.width.format) c.leading-2.ensures)
