-- `lines::lines` meets its contract: a refused sheet has its line, and the numbers that were read have theirs. Assumes nothing.
use Rattle.std.proofs.Common.{◌≡◌, ap, ◌-◌, arith, rules}
use Rattle.std.proofs.Math.ListN.{length-take}
use Rattle.kinds.specs.Answers.{as_sheet}
use Rattle.numerals.proofs.TextLaws.{put_first}
use Rattle.lines.specs.Lines.{printed, lines_of}
use Rattle.lines.proofs.LinesLaws.{sheet_refused, sheet_accepted, read_few, read_room}
use Rattle.lines.proofs.lines.Goals as goal
use Rattle.lines.proofs.lines.Goals.{in-Ok, in-Err}

pub slice_bounds-summed-end : goal.slice_bounds-summed-end
slice_bounds-summed-end c =
    let a = c.args in
    let room = read_room a.sheet.now a.numbers.now a.work.now a.text.now c.read.ensures c.in-Ok.n (ap as_sheet c.in-Ok.is) in
    omega (arith, room)

pub slice_bounds-summed-end-in-Ok : goal.slice_bounds-summed-end-in-Ok
slice_bounds-summed-end-in-Ok c =
    let a = c.args in
    let few = read_few a.sheet.now a.numbers.now a.work.now a.text.now c.read.ensures c.in-Ok.n (ap as_sheet c.in-Ok.is) in
    omega (arith, few)

pub summed-requires : goal.summed-requires
summed-requires c =
    let a = c.args in
    let few = read_few a.sheet.now a.numbers.now a.work.now a.text.now c.read.ensures c.in-Ok.n (ap as_sheet c.in-Ok.is) in
    (simp length-take (omega (arith, few)), rw (c.new-out.ensures.end, c.new-out.ensures.area) (omega arith))

pub returns : goal.returns
returns c =
    let a = c.args in
    let out = c.match-read.out in
    let same : out.area.ghost_name ≡ c.new-out.result.area.ghost_name =
    elim c.match-read.branch [ in-Ok w ↦ rw w.out-is w.summed.ensures.lines.same | in-Err w ↦ rw w.out-is w.refused.ensures.same ] in
    let told : printed out.end c.read.new.area c.match-read.work out.area.now ≡ lines_of a.sheet.now a.numbers.now a.work.now a.text.now =
    elim c.match-read.branch [
      | in-Ok w ↦
          let z : w.in-Ok.n - 0 ≡ w.in-Ok.n = omega arith in
          let e = rw z at w.summed.ensures in
          rw (w.out-is, w.work-is, z)
          (sheet_accepted a.sheet.now a.numbers.now a.work.now a.text.now c.read.ensures _ (ap as_sheet w.in-Ok.is) e.left
          (put_first c.new-out.ensures.end c.new-out.ensures.area e.lines))
      | in-Err w ↦
          rw (w.out-is, w.work-is)
          (sheet_refused a.sheet.now a.numbers.now a.work.now a.text.now c.read.ensures _ _ (ap as_sheet w.in-Err.is)
          (put_first c.new-out.ensures.end c.new-out.ensures.area w.refused.ensures))
    ] in
    search rules
