-- Rules R1 to R25: the number of a refusal, and the place that it tells (rule A5). Definitions only.
use Rattle.std.specs.Prelude.{ℕ, Option, Some, None}
use Rattle.kinds.specs.declared.refusal.Refusal.{Refusal}
use Rattle.kinds.specs.declared.refusal.Refusal.TheVariants as refusals
use Rattle.kinds.specs.declared.refusal.Fault.{Fault}
use Rattle.kinds.specs.declared.refusal.Fault.TheVariants as faults

abbrev pub number : Refusal → ℕ
number refusals.TooMany = 1
number (refusals.NotFinite i) = 2
number (refusals.TooLarge i) = 3
number refusals.WrongLength = 4
number refusals.WrongParts = 5
number refusals.NoSuchBlock = 6
number refusals.BlockNotPending = 7
number refusals.UnsoundNumbers = 8
number refusals.RegisterFull = 9
number refusals.NoFiniteDouble = 10
number refusals.SheetTooShort = 11
number refusals.OtherVersion = 12
number refusals.SheetTooLong = 13
number (refusals.NotAWeight i) = 14
number refusals.WrongTotal = 15
number refusals.NoSuchClock = 16
number refusals.NoOtherWeight = 17
number refusals.UnsoundSet = 18
number (refusals.UnsoundWork i) = 19
number refusals.ClaimNotFinite = 20
number refusals.OtherEnsemble = 21
number refusals.LengthsDiffer = 22
number (refusals.FactorOutside i) = 23
number refusals.TooManyCalls = 24
number refusals.NoRoom = 25

abbrev pub place_told : Refusal → Option ℕ
place_told refusals.TooMany = None
place_told (refusals.NotFinite i) = Some i
place_told (refusals.TooLarge i) = Some i
place_told refusals.WrongLength = None
place_told refusals.WrongParts = None
place_told refusals.NoSuchBlock = None
place_told refusals.BlockNotPending = None
place_told refusals.UnsoundNumbers = None
place_told refusals.RegisterFull = None
place_told refusals.NoFiniteDouble = None
place_told refusals.SheetTooShort = None
place_told refusals.OtherVersion = None
place_told refusals.SheetTooLong = None
place_told (refusals.NotAWeight i) = Some i
place_told refusals.WrongTotal = None
place_told refusals.NoSuchClock = None
place_told refusals.NoOtherWeight = None
place_told refusals.UnsoundSet = None
place_told (refusals.UnsoundWork i) = Some i
place_told refusals.ClaimNotFinite = None
place_told refusals.OtherEnsemble = None
place_told refusals.LengthsDiffer = None
place_told (refusals.FactorOutside i) = Some i
place_told refusals.TooManyCalls = None
place_told refusals.NoRoom = None

-- 0 where none is told
abbrev pub place : Refusal → ℕ
place refusals.TooMany = 0
place (refusals.NotFinite i) = i
place (refusals.TooLarge i) = i
place refusals.WrongLength = 0
place refusals.WrongParts = 0
place refusals.NoSuchBlock = 0
place refusals.BlockNotPending = 0
place refusals.UnsoundNumbers = 0
place refusals.RegisterFull = 0
place refusals.NoFiniteDouble = 0
place refusals.SheetTooShort = 0
place refusals.OtherVersion = 0
place refusals.SheetTooLong = 0
place (refusals.NotAWeight i) = i
place refusals.WrongTotal = 0
place refusals.NoSuchClock = 0
place refusals.NoOtherWeight = 0
place refusals.UnsoundSet = 0
place (refusals.UnsoundWork i) = i
place refusals.ClaimNotFinite = 0
place refusals.OtherEnsemble = 0
place refusals.LengthsDiffer = 0
place (refusals.FactorOutside i) = i
place refusals.TooManyCalls = 0
place refusals.NoRoom = 0

-- rules R2 and R3, of one number: 0 for no fault
abbrev pub fault_numbered : Option Fault → ℕ
fault_numbered None = 0
fault_numbered (Some faults.NotFinite) = 2
fault_numbered (Some faults.TooLarge) = 3

abbrev pub fault_at : Fault → ℕ → Refusal
fault_at faults.NotFinite i = refusals.NotFinite i
fault_at faults.TooLarge i = refusals.TooLarge i
