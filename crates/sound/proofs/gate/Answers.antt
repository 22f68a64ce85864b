-- `sound::gate` meets its contract, a law for each answer; with sound numbers, the first work number above 2^-M sigma is the first bad place. Assumes nothing.
use mathlib.Core.Path.{◌≡◌, refl, sym, ap, ◌∙◌}
use mathlib.Core.Bool.{true}
use Prim.Native.Nat.{ℕ, ◌+◌, ◌≤◌, ◌<◌}
use native.Mathlib.Omega.{arith}
use lib.Ieee.{Float}
use Rattle.ieee.specs.Units.{magnitude}
use Rattle.exponent.specs.Power.{powers}
use Rattle.kinds.specs.Limits.{exponent_of, blocks_of}
use Rattle.std.specs.Prelude.{Option, Some, None, IfSome, unwrap_or, length}
use Rattle.units.specs.Walk.{rounded_up}
use Rattle.kinds.specs.Answers.{as_state}
use Rattle.kinds.proofs.Areas.{read_length}
use Rattle.kinds.proofs.KnownLaws.{figures}
use Rattle.sound.specs.Sound.{sound_numbers, bad_place, sound}
use Rattle.sound.specs.Places.{first_above}
use Rattle.sound.specs.Numbers.{Numbers}
use Rattle.sound.proofs.WidthLaws.{height_of}
use Rattle.sound.proofs.PlacesLaws.{bad_within}
use Rattle.sound.proofs.SoundLaws.{numbers_hold, sound_all}
use Rattle.sound.proofs.GateLaws.{gated_4, gated_21, gated_8, gated_18, gated_19, gated_6, gated_7, gated_good, limit_number, limit_negative, limit_places}
use Rattle.sound.proofs.gate.Goals as goal

-- a place that is told is one of the area, and the one that stands for the answer
told : (o : Option ℕ) (n place : ℕ) → o ≡ Some place → unwrap_or o n ≡ place
told o n place e = rw e refl

inside : (o : Option ℕ) (n place : ℕ) → o ≡ Some place → IfSome o (λ p. p < n) → place < n
inside o n place e h = rw e at h

none : (o : Option ℕ) (n : ℕ) → ((place : ℕ) → o ≡ Some place → ⊥) → unwrap_or o n ≡ n
none None n h = refl
none (Some p) n h = absurd (h p refl)

pub returns-then-work-s : goal.returns-then-work-s
returns-then-work-s g c =
    let W = g.F.Floating.width in
    let H = height_of g.met.F.Floating.known in
    let a = c.args in
    sym (gated_4 W (as_state g.F.Floating.value a.s) a.ensemble a.block (g.F.Floating.values a.work.now)
    (rw (read_length g.F.Floating.value g.F.Floating.values g.met.F.Floating.each_value c.args.work.now) (omega arith)))

-- ---- the ensemble
pub returns-then-ensemble-s : goal.returns-then-ensemble-s
returns-then-ensemble-s g c =
    let W = g.F.Floating.width in
    let H = height_of g.met.F.Floating.known in
    let a = c.args in
    sym (gated_21 W (as_state g.F.Floating.value a.s) a.ensemble a.block (g.F.Floating.values a.work.now)
    (rw (read_length g.F.Floating.value g.F.Floating.values g.met.F.Floating.each_value c.args.work.now) (omega arith)) c.if-ensemble-s.true)

-- ---- the numbers
pub returns-then-not-numbers : goal.returns-then-not-numbers
returns-then-not-numbers g c =
    let W = g.F.Floating.width in
    let H = height_of g.met.F.Floating.known in
    let a = c.args in
    sym
    (gated_8 W (as_state g.F.Floating.value a.s) a.ensemble a.block (g.F.Floating.values a.work.now)
    (rw (read_length g.F.Floating.value g.F.Floating.values g.met.F.Floating.each_value c.args.work.now) (omega arith)) (omega arith)
    (sym c.numbers.ensures ∙ c.if-not-numbers.true))

-- ---- the pending set
pub pending-requires : goal.pending-requires
pending-requires g c =
    let W = g.F.Floating.width in
    let H = height_of g.met.F.Floating.known in
    let good : sound_numbers W (as_state g.F.Floating.value c.args.s) ≡ true = sym c.numbers.ensures ∙ c.if-not-numbers.false in
    let numbers : Numbers W (as_state g.F.Floating.value c.args.s) = numbers_hold W H.height H.most_is (as_state g.F.Floating.value c.args.s) good in
    (numbers.counts.some, numbers.counts.few)

pub returns-then-not-pending : goal.returns-then-not-pending
returns-then-not-pending g c =
    let W = g.F.Floating.width in
    let H = height_of g.met.F.Floating.known in
    let good : sound_numbers W (as_state g.F.Floating.value c.args.s) ≡ true = sym c.numbers.ensures ∙ c.if-not-numbers.false in
    let a = c.args in
    sym
    (gated_18 W (as_state g.F.Floating.value a.s) a.ensemble a.block (g.F.Floating.values a.work.now)
    (rw (read_length g.F.Floating.value g.F.Floating.values g.met.F.Floating.each_value c.args.work.now) (omega arith)) (omega arith) good
    (sym c.pending.ensures ∙ c.if-not-pending.true))

-- ---- the work area
pub limit-requires : goal.limit-requires
limit-requires g c =
    let W = g.F.Floating.width in
    let H = height_of g.met.F.Floating.known in
    let good : sound_numbers W (as_state g.F.Floating.value c.args.s) ≡ true = sym c.numbers.ensures ∙ c.if-not-numbers.false in
    good

pub bad_place-requires : goal.bad_place-requires
bad_place-requires g c =
    let W = g.F.Floating.width in
    let H = height_of g.met.F.Floating.known in
    let good : sound_numbers W (as_state g.F.Floating.value c.args.s) ≡ true = sym c.numbers.ensures ∙ c.if-not-numbers.false in
    let numbers : Numbers W (as_state g.F.Floating.value c.args.s) = numbers_hold W H.height H.most_is (as_state g.F.Floating.value c.args.s) good in
    let room : exponent_of c.args.s.n + H.height < powers W.format = H.room c.args.s.n numbers.counts.few in
    let s = (as_state g.F.Floating.value c.args.s) in
    rw c.limit.ensures
    ((limit_number W H.height H.most_is s numbers room).fini, limit_negative W H.height H.most_is s numbers room)

pub overflow_cast-result : goal.overflow_cast-result
overflow_cast-result g c =
    let W = g.F.Floating.width in
    let H = height_of g.met.F.Floating.known in
    let good : sound_numbers W (as_state g.F.Floating.value c.args.s) ≡ true = sym c.numbers.ensures ∙ c.if-not-numbers.false in
    let numbers : Numbers W (as_state g.F.Floating.value c.args.s) = numbers_hold W H.height H.most_is (as_state g.F.Floating.value c.args.s) good in
    omega (
      arith,
      numbers.counts.few,
      (figures g.met.F.Floating.known).few,
      inside c.bad_place.result
          (length c.args.work.now) c.in-Some.place c.in-Some.is c.bad_place.ensures.inside,
      c.if-work-s.false,
    )

pub returns-in-Some : goal.returns-in-Some
returns-in-Some g c =
    let W = g.F.Floating.width in
    let H = height_of g.met.F.Floating.known in
    let good : sound_numbers W (as_state g.F.Floating.value c.args.s) ≡ true = sym c.numbers.ensures ∙ c.if-not-numbers.false in
    let numbers : Numbers W (as_state g.F.Floating.value c.args.s) = numbers_hold W H.height H.most_is (as_state g.F.Floating.value c.args.s) good in
    let room : exponent_of c.args.s.n + H.height < powers W.format = H.room c.args.s.n numbers.counts.few in
    let place : (let a = c.args in
    unwrap_or c.bad_place.result (length a.work.now) ≡ bad_place W (as_state g.F.Floating.value a.s) (g.F.Floating.values a.work.now)) = let a = c.args in
    c.bad_place.ensures.first
    ∙ ap (λ (x : Float). first_above W (magnitude W.format x) (g.F.Floating.values a.work.now)) c.limit.ensures
    ∙ limit_places W H.height H.most_is (as_state g.F.Floating.value a.s) numbers room (g.F.Floating.values a.work.now) in
    let a = c.args in
    let at : c.in-Some.place ≡ bad_place W (as_state g.F.Floating.value a.s) (g.F.Floating.values a.work.now) =
    sym (told c.bad_place.result (length a.work.now) c.in-Some.place c.in-Some.is) ∙ place in
    let few = inside c.bad_place.result (length a.work.now) c.in-Some.place c.in-Some.is c.bad_place.ensures.inside in
    rw at
    (sym
    (gated_19 W (as_state g.F.Floating.value a.s) a.ensemble a.block (g.F.Floating.values a.work.now)
    (rw (read_length g.F.Floating.value g.F.Floating.values g.met.F.Floating.each_value c.args.work.now) (omega arith)) (omega arith) good
    (sym c.pending.ensures ∙ c.if-not-pending.false)
    (omega (arith, at, few, c.if-work-s.false, read_length g.F.Floating.value g.F.Floating.values g.met.F.Floating.each_value c.args.work.now))))

pub blocks-requires : goal.blocks-requires
blocks-requires g c =
    let W = g.F.Floating.width in
    let H = height_of g.met.F.Floating.known in
    let good : sound_numbers W (as_state g.F.Floating.value c.args.s) ≡ true = sym c.numbers.ensures ∙ c.if-not-numbers.false in
    let numbers : Numbers W (as_state g.F.Floating.value c.args.s) = numbers_hold W H.height H.most_is (as_state g.F.Floating.value c.args.s) good in
    let few : c.args.s.n ≤ W.length = numbers.counts.few in
    omega (arith, few, (figures g.met.F.Floating.known).few)

pub returns-then-blocks-block : goal.returns-then-blocks-block
returns-then-blocks-block g c =
    let W = g.F.Floating.width in
    let H = height_of g.met.F.Floating.known in
    let count : (let a = c.args in
    c.blocks-2.result ≡ blocks_of W a.s.n) = (c.blocks-2.ensures.doubles ∙ ap (rounded_up c.args.s.n) (sym (figures g.met.F.Floating.known).block)) in
    let good : sound_numbers W (as_state g.F.Floating.value c.args.s) ≡ true = sym c.numbers.ensures ∙ c.if-not-numbers.false in
    let numbers : Numbers W (as_state g.F.Floating.value c.args.s) = numbers_hold W H.height H.most_is (as_state g.F.Floating.value c.args.s) good in
    let room : exponent_of c.args.s.n + H.height < powers W.format = H.room c.args.s.n numbers.counts.few in
    let place : (let a = c.args in
    unwrap_or c.bad_place.result (length a.work.now) ≡ bad_place W (as_state g.F.Floating.value a.s) (g.F.Floating.values a.work.now)) = let a = c.args in
    c.bad_place.ensures.first
    ∙ ap (λ (x : Float). first_above W (magnitude W.format x) (g.F.Floating.values a.work.now)) c.limit.ensures
    ∙ limit_places W H.height H.most_is (as_state g.F.Floating.value a.s) numbers room (g.F.Floating.values a.work.now) in
    let all_sound : (let a = c.args in
    sound W (as_state g.F.Floating.value a.s) (g.F.Floating.values a.work.now) ≡ true) = let a = c.args in
    sound_all W (as_state g.F.Floating.value a.s) (g.F.Floating.values a.work.now) good (sym c.pending.ensures ∙ c.if-not-pending.false)
    (omega (
      arith,
      place,
      none c.bad_place.result (length a.work.now) (λ p e. c.in_default.not-Some p e),
      c.if-work-s.false,
      read_length g.F.Floating.value g.F.Floating.values g.met.F.Floating.each_value c.args.work.now,
      bad_within W
          (as_state g.F.Floating.value a.s) (g.F.Floating.values a.work.now),
    )) in
    let a = c.args in
    sym (gated_6 W (as_state g.F.Floating.value a.s) a.ensemble a.block (g.F.Floating.values a.work.now)
    (rw (read_length g.F.Floating.value g.F.Floating.values g.met.F.Floating.each_value c.args.work.now) (omega arith)) (omega arith) all_sound
    (omega (arith, count)))

pub has-requires : goal.has-requires
has-requires g c =
    let W = g.F.Floating.width in
    let H = height_of g.met.F.Floating.known in
    let count : (let a = c.args in
    c.blocks-2.result ≡ blocks_of W a.s.n) = (c.blocks-2.ensures.doubles ∙ ap (rounded_up c.args.s.n) (sym (figures g.met.F.Floating.known).block)) in
    let good : sound_numbers W (as_state g.F.Floating.value c.args.s) ≡ true = sym c.numbers.ensures ∙ c.if-not-numbers.false in
    let numbers : Numbers W (as_state g.F.Floating.value c.args.s) = numbers_hold W H.height H.most_is (as_state g.F.Floating.value c.args.s) good in
    let few : c.args.s.n ≤ W.length = numbers.counts.few in
    omega (
      arith,
      count,
      few,
      (figures g.met.F.Floating.known).few,
      (figures g.met.F.Floating.known).block,
      c.blocks-2.ensures.doubles,
      c.if-blocks-block.false,
    )

pub returns-then-not-has : goal.returns-then-not-has
returns-then-not-has g c =
    let W = g.F.Floating.width in
    let H = height_of g.met.F.Floating.known in
    let count : (let a = c.args in
    c.blocks-2.result ≡ blocks_of W a.s.n) = (c.blocks-2.ensures.doubles ∙ ap (rounded_up c.args.s.n) (sym (figures g.met.F.Floating.known).block)) in
    let good : sound_numbers W (as_state g.F.Floating.value c.args.s) ≡ true = sym c.numbers.ensures ∙ c.if-not-numbers.false in
    let numbers : Numbers W (as_state g.F.Floating.value c.args.s) = numbers_hold W H.height H.most_is (as_state g.F.Floating.value c.args.s) good in
    let room : exponent_of c.args.s.n + H.height < powers W.format = H.room c.args.s.n numbers.counts.few in
    let place : (let a = c.args in
    unwrap_or c.bad_place.result (length a.work.now) ≡ bad_place W (as_state g.F.Floating.value a.s) (g.F.Floating.values a.work.now)) = let a = c.args in
    c.bad_place.ensures.first
    ∙ ap (λ (x : Float). first_above W (magnitude W.format x) (g.F.Floating.values a.work.now)) c.limit.ensures
    ∙ limit_places W H.height H.most_is (as_state g.F.Floating.value a.s) numbers room (g.F.Floating.values a.work.now) in
    let all_sound : (let a = c.args in
    sound W (as_state g.F.Floating.value a.s) (g.F.Floating.values a.work.now) ≡ true) = let a = c.args in
    sound_all W (as_state g.F.Floating.value a.s) (g.F.Floating.values a.work.now) good (sym c.pending.ensures ∙ c.if-not-pending.false)
    (omega (
      arith,
      place,
      none c.bad_place.result (length a.work.now) (λ p e. c.in_default.not-Some p e),
      c.if-work-s.false,
      read_length g.F.Floating.value g.F.Floating.values g.met.F.Floating.each_value c.args.work.now,
      bad_within W
          (as_state g.F.Floating.value a.s) (g.F.Floating.values a.work.now),
    )) in
    let a = c.args in
    sym
    (gated_7 W (as_state g.F.Floating.value a.s) a.ensemble a.block (g.F.Floating.values a.work.now)
    (rw (read_length g.F.Floating.value g.F.Floating.values g.met.F.Floating.each_value c.args.work.now) (omega arith)) (omega arith) all_sound
    (omega (arith, count))
    (sym c.has.ensures ∙ c.if-not-has.true))

pub returns : goal.returns
returns g c =
    let W = g.F.Floating.width in
    let H = height_of g.met.F.Floating.known in
    let count : (let a = c.args in
    c.blocks-2.result ≡ blocks_of W a.s.n) = (c.blocks-2.ensures.doubles ∙ ap (rounded_up c.args.s.n) (sym (figures g.met.F.Floating.known).block)) in
    let good : sound_numbers W (as_state g.F.Floating.value c.args.s) ≡ true = sym c.numbers.ensures ∙ c.if-not-numbers.false in
    let numbers : Numbers W (as_state g.F.Floating.value c.args.s) = numbers_hold W H.height H.most_is (as_state g.F.Floating.value c.args.s) good in
    let room : exponent_of c.args.s.n + H.height < powers W.format = H.room c.args.s.n numbers.counts.few in
    let place : (let a = c.args in
    unwrap_or c.bad_place.result (length a.work.now) ≡ bad_place W (as_state g.F.Floating.value a.s) (g.F.Floating.values a.work.now)) = let a = c.args in
    c.bad_place.ensures.first
    ∙ ap (λ (x : Float). first_above W (magnitude W.format x) (g.F.Floating.values a.work.now)) c.limit.ensures
    ∙ limit_places W H.height H.most_is (as_state g.F.Floating.value a.s) numbers room (g.F.Floating.values a.work.now) in
    let all_sound : (let a = c.args in
    sound W (as_state g.F.Floating.value a.s) (g.F.Floating.values a.work.now) ≡ true) = let a = c.args in
    sound_all W (as_state g.F.Floating.value a.s) (g.F.Floating.values a.work.now) good (sym c.pending.ensures ∙ c.if-not-pending.false)
    (omega (
      arith,
      place,
      none c.bad_place.result (length a.work.now) (λ p e. c.in_default.not-Some p e),
      c.if-work-s.false,
      read_length g.F.Floating.value g.F.Floating.values g.met.F.Floating.each_value c.args.work.now,
      bad_within W
          (as_state g.F.Floating.value a.s) (g.F.Floating.values a.work.now),
    )) in
    let a = c.args in
    sym
    (gated_good W (as_state g.F.Floating.value a.s) a.ensemble a.block (g.F.Floating.values a.work.now)
    (rw (read_length g.F.Floating.value g.F.Floating.values g.met.F.Floating.each_value c.args.work.now) (omega arith)) (omega arith) all_sound
    (omega (arith, count))
    (sym c.has.ensures ∙ c.if-not-has.false))
