-- The calls on bytes: what each answers, and the bytes that it leaves; and the code of a refusal, which is every C call's. Definitions only.
use Rattle.std.specs.Prelude.{cond, not, List, [], ◌∷◌, ℕ, ◌+◌, ◌*◌, ◌/◌, ◌%◌, ltb, eqb, Float, length, replicate}
use Rattle.std.specs.Float.Ieee.{of_bits}
use Rattle.kinds.specs.Limits.{doubles}
use Rattle.kinds.specs.Outcome.{Outcome, outcome}
use Rattle.kinds.specs.Heard.{Place, nowhere, at, Heard, refused, more, done, nearest, parts, accepted, count, rescued}
use Rattle.kinds.specs.Heard.{step_heard, nearest_heard, entry_heard}
use Rattle.octets.specs.Octets.{packed, unpacked}
use Rattle.words.specs.Words.{word_count}
use Rattle.walk.specs.Walk.{faithful_of}
use Rattle.sums.specs.Sums.{nearest_of}
use Rattle.register.specs.Register.{Changed, added, withdrawn}

-- what is returned, and the lent bytes afterwards
abbrev pub Called : Type 0
Called = Outcome ℕ ℕ

-- ---- rule C3: what a place adds to a code
abbrev pub place_code : Place → ℕ
place_code nowhere = 0
place_code (at p) = 32 * (p + 1)

-- What is heard, as a call returns and leaves it, with the lent bytes before and the words of a register afterwards: rules C3 to C5. The last four are heard
-- of no call here.
unfoldable pub answered : Heard → List ℕ → List ℕ → Called
answered (refused k p) before words = outcome (k + place_code p) before
answered (done x rounds) before words = outcome 0 (packed (x ∷ rounds ∷ []))
answered (nearest x) before words = outcome 0 (packed (x ∷ 0 ∷ []))
answered accepted before words = outcome 0 (packed words)
answered (more sigma t tau n pending rounds ensemble largest told) before words = outcome 0 before
answered (parts b) before words = outcome 0 before
answered (count n) before words = outcome 0 before
answered (rescued written taken missing over) before words = outcome 0 before

-- ---- the bytes of the longest list, of a sum and of a register
abbrev pub list_bytes : ℕ
list_bytes = 8 * doubles.length

abbrev pub sum_bytes : ℕ
sum_bytes = 16

abbrev pub register_bytes : ℕ
register_bytes = 8 * word_count

-- ---- the sums
-- rule C6; 0 is no fault
abbrev pub length_fault : ℕ → ℕ → ℕ
length_fault list out = cond (ltb list_bytes list) 1 (cond (not (eqb (list % 8) 0)) 4 (cond (not (eqb out sum_bytes)) 4 0))

-- the patterns that a list's bytes are, and a sum of them by whatever is heard
abbrev pub patterns_in : List ℕ → List ℕ
patterns_in list = unpacked (length list / 8) list

abbrev pub summed : (List ℕ → Heard) → List ℕ → List ℕ → Called
summed heardOf list out = answered (heardOf (patterns_in list)) out []

unfoldable pub sum_call : (List ℕ → Heard) → List ℕ → List ℕ → Called
sum_call heardOf list out =
    let fault = length_fault (length list) (length out) in
    cond (eqb fault 0) (summed heardOf list out) (outcome fault out)

-- rule C7
abbrev pub own : ℕ → List Float
own n = replicate n (of_bits doubles.format 0)

abbrev pub faithful_heard : List ℕ → Heard
faithful_heard ps = step_heard doubles (faithful_of doubles ps (own (length ps))).answer

abbrev pub faithful_call : List ℕ → List ℕ → Called
faithful_call list out = sum_call faithful_heard list out

abbrev pub sum_heard : List ℕ → Heard
sum_heard ps = nearest_heard doubles (nearest_of doubles ps)

abbrev pub nearest_call : List ℕ → List ℕ → Called
nearest_call list out = sum_call sum_heard list out

-- ---- the register: the words that its bytes are, with what a call enters in them
abbrev pub words_in : List ℕ → List ℕ
words_in register = unpacked word_count register

abbrev pub registered : (List ℕ → Changed) → List ℕ → Called
registered entered_in register =
    let e = entered_in (words_in register) in
    answered (entry_heard e.answer) register e.area

unfoldable pub register_call : (List ℕ → Changed) → List ℕ → Called
register_call entered_in register = cond (eqb (length register) register_bytes) (registered entered_in register) (outcome 4 register)

abbrev pub add_call : List ℕ → ℕ → Called
add_call register p = register_call (λ (ws : List ℕ). added ws p) register

abbrev pub withdraw_call : List ℕ → ℕ → Called
withdraw_call register p = register_call (λ (ws : List ℕ). withdrawn ws p) register
