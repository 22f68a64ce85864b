-- `addend::place::shifted` meets its contract: a shifted number lies in two adjacent words. Assumes nothing.
use native.Mathlib.Omega.{arith}
use Rattle.addend.proofs.TwoDigits.{two_shifted}
use Rattle.words.specs.Words.{word_bits}
use Rattle.addend.proofs.place.shifted.Goals as goal

pub returns : goal.returns
returns c = (omega arith, two_shifted word_bits c.args.m c.args.e (omega arith))
