-- `judge::first_fault` meets its contract: the places passed have no fault, so the first that has one is the lowest. Assumes nothing.
use Rattle.std.specs.Prelude.{◌≡◌, refl, ℕ, get_or, Option, Some, None}
use Rattle.std.proofs.Common.{sym, ap, ◌∙◌, arith, add-one}
use Rattle.kinds.specs.declared.refusal.Fault.{Fault}
use Rattle.kinds.specs.declared.refusal.Fault.TheVariants as faults
use Rattle.kinds.specs.Verdict.{Refused}
use Rattle.kinds.specs.Refusals.{number, place, fault_numbered, fault_at}
use Rattle.kinds.proofs.Areas.{read_place, read_length}
use Rattle.judge.specs.Judge.{fault_of}
use Rattle.judge.proofs.FirstFaultLaws.{clean_more, clean_fewer, first_good, first_refused}
use Rattle.judge.proofs.first_fault.Goals as goal

-- a fault is told as itself, at its place
told : (f : Fault) (i : ℕ) → Refused (number (fault_at f i)) (place (fault_at f i)) ≡ Refused (fault_numbered (Some f)) i
told faults.NotFinite i = refl
told faults.TooLarge i = refl

bad : (f : Fault) → fault_numbered (Some f) ≡ 0 → ⊥
bad faults.NotFinite e = absurd (omega arith)
bad faults.TooLarge e = absurd (omega arith)

none : (o : Option Fault) → ((f : Fault) → o ≡ Some f → ⊥) → fault_numbered o ≡ 0
none None h = refl
none (Some f) h = absurd (h f refl)

pub returns-in-Some : goal.returns-in-Some
returns-in-Some g c =
    let ps = g.F.Floating.patterns c.args.list.now in
    let i = c.loop-place.place in
    let each = g.met.F.Floating.each_pattern in
    let x = read_place g.F.Floating.pattern g.F.Floating.patterns each c.args.list.now i c.index-list-place.result 0 c.index-list-place.is (omega arith) in
    let n = read_length g.F.Floating.pattern g.F.Floating.patterns each c.args.list.now in
    let f : fault_of g.F.Floating.width (get_or ps i 0) ≡ fault_numbered (Some c.in-Some.fault) =
    ap (fault_of g.F.Floating.width) (sym x) ∙ sym c.fault.ensures ∙ ap fault_numbered c.in-Some.is in
    ap (λ r. Refused (number r) (place r)) c.at.ensures
    ∙ told c.in-Some.fault i
    ∙ sym ((first_refused g.F.Floating.width ps (fault_numbered (Some c.in-Some.fault)) i).1
    (record { inside = rw n (omega arith); fault = f; bad = bad c.in-Some.fault; before = c.loop-place.invariant }))

pub loop-place-preserved : goal.loop-place-preserved
loop-place-preserved g c =
    let i = c.loop-place.place in
    let x = read_place g.F.Floating.pattern g.F.Floating.patterns g.met.F.Floating.each_pattern
    c.args.list.now i c.index-list-place.result 0 c.index-list-place.is (omega arith) in
    rw add-one (clean_more c.loop-place.invariant
    (ap (fault_of g.F.Floating.width) (sym x) ∙ sym c.fault.ensures ∙ none c.fault.result (λ f e. c.in_default.not-Some f e)))

pub returns : goal.returns
returns g c =
    let ps = g.F.Floating.patterns c.args.list.now in
    let n = read_length g.F.Floating.pattern g.F.Floating.patterns g.met.F.Floating.each_pattern c.args.list.now in
    sym ((first_good g.F.Floating.width ps).1 (clean_fewer c.loop-place.invariant (rw n (omega arith))))
