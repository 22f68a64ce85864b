-- `lines::line::refused` meets its contract: its pieces, one behind the other, are the line, with a place where one is told. Assumes nothing.
use Rattle.std.proofs.Common.{◌++◌, rules, sym, ◌∙◌, arith}
use Rattle.kinds.specs.Refusals.{number}
use Rattle.numerals.specs.Numerals.{decimal_of}
use Rattle.numerals.specs.Put.{Put}
use Rattle.numerals.proofs.TextLaws.{put_room, put_behind}
use Rattle.lines.specs.Lines.{refused_word, at_word, line_end}
use Rattle.lines.proofs.LineLaws.{wide_length, numbered_room}
use Rattle.lines.proofs.Places.{told_line, silent_line}
use Rattle.lines.proofs.line.refused.Goals as goal

pub decimal-numbered-requires : goal.decimal-numbered-requires
decimal-numbered-requires c = omega (arith, wide_length c.from.result c.from.type_inv)

pub decimal-requires : goal.decimal-requires
decimal-requires c =
    let room = numbered_room c.from.type_inv c.requires c.decimal-numbered.ensures.longer in
    omega (arith, room, wide_length c.from-in-Some.result c.from-in-Some.type_inv)

pub put-requires : goal.put-requires
put-requires c =
    let room = numbered_room c.from.type_inv c.requires c.decimal-numbered.ensures.longer in
    put_room 1 (omega (arith, room, wide_length c.from-in-Some.result c.from-in-Some.type_inv)) c.decimal.ensures.longer

pub put-requires-in-None : goal.put-requires-in-None
put-requires-in-None c = let room = numbered_room c.from.type_inv c.requires c.decimal-numbered.ensures.longer in omega (arith, room)

pub returns-in-Some : goal.returns-in-Some
returns-in-Some c =
    let r = c.args.refusal in
    let k = number r in
    let p = c.in-Some.place in
    let numbered : Put (refused_word ++ decimal_of k) c.args.text.now c.decimal-numbered.result.now =
    rw (c.from.ensures ∙ c.number.ensures) at c.decimal-numbered.ensures.longer in
    let told : Put (at_word ++ decimal_of p) c.decimal-numbered.result.now c.decimal.result.now = rw c.from-in-Some.ensures at c.decimal.ensures.longer in
    let all : Put (refused_word ++ decimal_of k ++ (at_word ++ decimal_of p) ++ line_end) c.args.text.now c.put.result.now =
    put_behind (omega arith) (put_behind (omega arith) numbered told) c.put.ensures.longer in
    rw (told_line r p (sym c.place.ensures ∙ c.in-Some.is)) (search rules)

pub returns-in-None : goal.returns-in-None
returns-in-None c =
    let r = c.args.refusal in
    let k = number r in
    let numbered : Put (refused_word ++ decimal_of k) c.args.text.now c.decimal-numbered.result.now =
    rw (c.from.ensures ∙ c.number.ensures) at c.decimal-numbered.ensures.longer in
    let all : Put (refused_word ++ decimal_of k ++ line_end) c.args.text.now c.put-in-None.result.now =
    put_behind (omega arith) numbered c.put-in-None.ensures.longer in
    rw (silent_line r (sym c.place.ensures ∙ c.in-None.is)) (search rules)
