-- `exponent::power` meets its contract: a power of two is one digit of its pattern, and from the stored digits on a field over no digit. Assumes nothing.
use mathlib.Core.Path.{◌∙◌, sym}
use Prim.Native.Nat.{◌-◌}
use native.Mathlib.Omega.{arith}
use Rattle.ieee.proofs.Pattern.{pattern_no_nan}
use Rattle.exponent.proofs.PowerLaws.{low_power, high_power}
use Rattle.exponent.proofs.PatternLaws.{low_word, high_word}
use Rattle.exponent.proofs.power.Goals as goal

pub from_word-requires : goal.from_word-requires
from_word-requires g c = let L = low_word g.met.F.Floating.known c.args.k (omega (arith, c.DIGITS-digits.ensures)) in rw L.word L.fits

pub from_bits-requires : goal.from_bits-requires
from_bits-requires g c =
    let L = low_word g.met.F.Floating.known c.args.k (omega (arith, c.DIGITS-digits.ensures)) in
    rw (c.from_word.ensures, L.word) (pattern_no_nan g.F.Floating.width.format L.number)

pub returns-then-k-digits : goal.returns-then-k-digits
returns-then-k-digits g c =
    let L = low_word g.met.F.Floating.known c.args.k (omega (arith, c.DIGITS-digits.ensures)) in
    c.from_bits.ensures ∙ rw (c.from_word.ensures, L.word) (low_power g.F.Floating.width.format c.requires L.digit)

pub from_word-requires-2 : goal.from_word-requires-2
from_word-requires-2 g c = let H = high_word g.met.F.Floating.known c.args.k (omega (arith, c.DIGITS-digits.ensures)) c.requires in rw
    (c.from.ensures, c.DIGITS-digits.ensures) (rw (sym H.word) at H.fits)

pub from_bits-requires-2 : goal.from_bits-requires-2
from_bits-requires-2 g c =
    let H = high_word g.met.F.Floating.known c.args.k (omega (arith, c.DIGITS-digits.ensures)) c.requires in
    rw (c.from_word-2.ensures, c.from.ensures, c.DIGITS-digits.ensures, H.word) (pattern_no_nan g.F.Floating.width.format H.number)

pub returns : goal.returns
returns g c =
    let H = high_word g.met.F.Floating.known c.args.k (omega (arith, c.DIGITS-digits.ensures)) c.requires in
    c.from_bits-2.ensures
    ∙ rw (c.from_word-2.ensures, c.from.ensures, c.DIGITS-digits.ensures, H.word)
    (high_power g.F.Floating.width.format c.requires (c.args.k - g.F.Floating.DIGITS) H.digit)
