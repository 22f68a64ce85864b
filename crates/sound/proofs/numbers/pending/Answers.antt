-- `sound::numbers::pending` meets its contract: a set below 2^B is at most the full set. Assumes nothing.
use Rattle.std.specs.Prelude.{◌≡◌}
use Rattle.std.proofs.Common.{ap, ◌∙◌, sym}
use Rattle.lists.specs.Bitset.{full}
use Rattle.kinds.specs.Limits.{doubles, blocks_of}
use Rattle.kinds.specs.Answers.{as_state}
use Rattle.kinds.proofs.KnownLaws.{figures}
use Rattle.units.specs.Walk.{rounded_up}
use Rattle.sound.proofs.SoundLaws.{pending_is}
use Rattle.sound.proofs.numbers.pending.Goals as goal

pub returns : goal.returns
returns g c =
    let W = g.F.Floating.width in
    let e : blocks_of doubles c.args.s.n ≡ blocks_of W c.args.s.n = ap (rounded_up c.args.s.n) (sym (figures g.met.F.Floating.known).block) in
    rw (c.full.ensures ∙ ap full (c.blocks-2.ensures.doubles ∙ e)) (pending_is W (as_state g.F.Floating.value c.args.s))
