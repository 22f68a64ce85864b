-- The reader's results and the writer's: two that meet the contract, of the same bytes and area, are equal, and so are the areas. Assumes nothing.
use Rattle.std.specs.Prelude.{◌≡◌, List, ℕ, Result, Ok, Err}
use Rattle.std.proofs.Common.{ap}
use Rattle.lists.proofs.Apart.{apart}
use Rattle.kinds.specs.declared.refusal.Refusal.{Refusal}
use Rattle.kinds.specs.Answers.{as_sheet}
use Rattle.kinds.specs.Limits.{Width}
use Rattle.kinds.specs.Outcome.{outcome}
use Rattle.kinds.proofs.AnswersLaws.{refusal_same, sheet_same}
use Rattle.sheet.specs.Sheet.{read_of}
use Rattle.sheet.specs.Write.{written_of}
use Rattle.sheet.specs.Written.{as_written}
use Rattle.sheet.proofs.TableLaws.{read_determined}
use Rattle.sheet.proofs.WriteLaws.{write_determined}

pub read_results : (W : Width) (bytes area : List ℕ) {r q : Result ℕ Refusal} {xs ys : List ℕ} → outcome (as_sheet r) xs ≡ read_of W bytes area
    → outcome (as_sheet q) ys ≡ read_of W bytes area → (r ≡ q) × (xs ≡ ys)
read_results W bytes area {r} {q} e f = let d = read_determined W bytes area e f in (sheet_same r q d.0, d.1)

-- two results with one answer are one result
pub written_same : (a b : Result ℕ Refusal) → as_written a ≡ as_written b → a ≡ b
written_same (Ok m) (Ok n) e = cc
written_same (Ok m) (Err q) e = apart (cc)
written_same (Err r) (Ok n) e = apart (cc)
written_same (Err r) (Err q) e = ap Err (refusal_same r q (cc) (cc))

pub write_results : (W : Width) (ps area : List ℕ) {r q : Result ℕ Refusal} {xs ys : List ℕ} → outcome (as_written r) xs ≡ written_of W ps area
    → outcome (as_written q) ys ≡ written_of W ps area → (r ≡ q) × (xs ≡ ys)
write_results W ps area {r} {q} e f = let d = write_determined W ps area e f in (written_same r q d.0, d.1)
