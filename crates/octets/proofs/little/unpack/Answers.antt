-- `octets::little::unpack` meets its contract: the places passed hold the numbers that the bytes stand for. Assumes nothing.
use Rattle.std.proofs.Common.{◌≡◌, List, [], ℕ, ◌*◌, ◌/◌, ◌∙◌, ap, arith, length, length-drop, length-take-le, drop, get_or}
use Rattle.std.specs.Int.{w64, from_le_bytes}
use Rattle.lists.specs.Digits.{Digits}
use Rattle.lists.specs.DigitLaws.{digits_take, digits_drop}
use Rattle.lists.proofs.Front.{store_front}
use Rattle.octets.specs.Octets.{little, bytes_at, unpacked}
use Rattle.octets.proofs.OctetsLaws.{from_kit}
use Rattle.octets.proofs.EightsLaws.{chunk_at, eights_none, eights_length, eights_more}
use Rattle.octets.proofs.little.unpack.Goals as goal

pub loop-i-init : goal.loop-i-init
loop-i-init c = rw (eights_none little c.args.bytes.now)

pub loop-i-preserved : goal.loop-i-preserved
loop-i-preserved c =
    let bs = c.args.bytes.now in
    let ns = c.args.numbers.now in
    let i = c.loop-i.i in
    let rest = drop (8 * i) bs in
    let chunk : get_or c.as_chunks.result.0.now i [] ≡ bytes_at bs (8 * i) 8 =
    ap (λ (l : List (List ℕ)). get_or l i []) c.as_chunks.ensures.front ∙ chunk_at (length bs / 8) i bs [] (omega arith) in
    let long : length (bytes_at bs (8 * i) 8) ≡ 8 = length-take-le 8 rest (rw (length-drop (8 * i) bs) (omega arith)) in
    let bytes : Digits 8 (bytes_at bs (8 * i) 8) =
    digits_take 8 8 rest (digits_drop 8 (8 * i) bs (record { below = λ j. omega (arith, c.type_inv.bytes j) })) in
    let read : c.from_le_bytes.result ≡ little (bytes_at bs (8 * i) 8) =
    c.from_le_bytes.ensures ∙ ap (from_le_bytes w64) chunk ∙ from_kit _ bytes long in
    rw (c.loop-i.invariant, eights_more little i bs, ← read) (store_front 0 (unpacked i bs) ns i (eights_length little i bs) (omega arith) _)
