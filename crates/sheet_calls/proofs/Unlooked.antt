-- Where the array of values has another length: what the reader and the rescue refuse over areas without a place is the call's code, and 4 where they
-- refuse nothing. No refusal of theirs tells a place. Assumes nothing.
use Rattle.std.specs.Prelude.{◌≡◌, refl, List, [], ℕ, ◌+◌}
use Rattle.std.proofs.Common.{◌∙◌}
use Rattle.lists.proofs.Apart.{apart}
use Rattle.kinds.specs.Limits.{doubles}
use Rattle.kinds.specs.Heard.{place_of}
use Rattle.kinds.specs.Sheet as sheets
use Rattle.calls.specs.Calls.{place_code}
use Rattle.sheet.specs.Sheet.{read_of}
use Rattle.sheet.specs.Table.{SheetWhen, no_header, other_version, too_many, too_short, too_long, no_room}
use Rattle.sheet.proofs.TableLaws.{sheet_when}
use Rattle.rescue.specs.Rescue.{rescued_of}
use Rattle.rescue.specs.Rescued as rescues
use Rattle.sheet_calls.specs.SheetArrays.{unread_code}
use Rattle.sheet_calls.specs.RescueArrays.{unrescued_code, RescueOther}
use Rattle.sheet_calls.specs.RescueArrays as others
use Rattle.sheet_calls.proofs.SheetArraysLaws.{unread_refused}
use Rattle.sheet_calls.proofs.RescueCodes.{rescue_other, unrescued_is}

-- ---- the reader
silent : {bytes area : List ℕ} {k i : ℕ} → SheetWhen doubles bytes area (sheets.Refused k i) → k + place_code (place_of k i) ≡ k
silent (no_header h) = refl
silent (other_version h v) = refl
silent (too_many B m) = refl
silent (too_short B f s) = refl
silent (too_long B f l) = refl
silent (no_room B f e s) = refl

pub read_code : (bytes area : List ℕ) (k i : ℕ) → (read_of doubles bytes []).answer ≡ sheets.Refused k i
    → k + place_code (place_of k i) ≡ unread_code bytes area
read_code bytes area k i e = silent ((sheet_when doubles bytes [] (sheets.Refused k i)).0 e) ∙ unread_refused bytes area [] k i e

-- ---- the rescue
rescue_row : {bytes : List ℕ} {k : ℕ} → RescueOther bytes k → k + place_code (place_of k 0) ≡ k
rescue_row (others.no_header h) = refl
rescue_row (others.other_version h v) = refl
rescue_row (others.too_many B m) = refl
rescue_row (others.otherwise B f) = refl

pub rescue_code : (bytes : List ℕ) (k i : ℕ) → (rescued_of doubles bytes [] []).answer ≡ rescues.Refused k i
    → k + place_code (place_of k i) ≡ unrescued_code bytes
rescue_code bytes k i e =
    let r : rescues.Refused k i ≡ rescues.Refused (unrescued_code bytes) 0 = unrescued_is bytes [] [] refl e in
    let a : k ≡ unrescued_code bytes = cc in
    let b : i ≡ 0 = cc in
    (λ j. a j + place_code (place_of (a j) (b j))) ∙ rescue_row ((rescue_other bytes (unrescued_code bytes)).0 refl)

pub never_rescued : (bytes : List ℕ) {r : _} → (rescued_of doubles bytes [] []).answer ≡ rescues.Saved r → ⊥
never_rescued bytes {r} e =
    let z : rescues.Saved r ≡ rescues.Refused (unrescued_code bytes) 0 = unrescued_is bytes [] [] refl e in
    apart (cc)
