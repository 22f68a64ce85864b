-- Bytes behind a text: what two pieces come to, and bytes at the start of an area. Assumes nothing.
use Rattle.std.specs.Prelude.{◌≡◌, refl, List, [], ◌++◌, ℕ, ◌+◌, ◌≤◌, length, take, drop}
use Rattle.std.proofs.Common.{sym, ap, ◌∙◌, append_assoc, le_refl, add-zero, zero-add, arith, length-append, drop-drop}
use Rattle.std.proofs.Math.Seq.{paste, paste-zero, take-length}
use Rattle.std.proofs.lemmas.List.Edits.{length-paste, take-paste, drop-paste}
use Rattle.numerals.specs.Text.{Placed}
use Rattle.numerals.specs.Put.{Put}
use Rattle.numerals.specs.declared.Text.{Text}

-- two pieces are one
module _ (xs ys area : List ℕ) (place : ℕ) (h : place ≤ length area) where
  all : place + length xs + length ys ≡ place + length (xs ++ ys)
  all = rw (length-append xs ys) (omega arith)

  front : take (place + length xs) (paste area place xs (length xs)) ≡ take place area ++ xs
  front = take-paste area place xs (length xs) h (le_refl (length xs)) ∙ rw (take-length xs)

  back : drop (place + length xs + length ys) (paste area place xs (length xs)) ≡ drop (place + length (xs ++ ys)) area
  back =
      sym (drop-drop (length ys) (place + length xs) (paste area place xs (length xs)))
      ∙ ap (drop (length ys)) (drop-paste area place xs (length xs) h (le_refl (length xs)))
      ∙ drop-drop (length ys) (place + length xs) area
      ∙ ap (λ (k : ℕ). drop k area) all

  paste_paste : paste (paste area place xs (length xs)) (place + length xs) ys (length ys) ≡ paste area place (xs ++ ys) (length (xs ++ ys))
  paste_paste = rw (front, back, take-length ys, take-length (xs ++ ys)) (simp append_assoc)

pub placed_behind : {xs ys area after last : List ℕ} {place r s : ℕ} → place ≤ length area → Placed xs place area r after → Placed ys r after s last
    → Placed (xs ++ ys) place area s last
placed_behind {xs} {ys} {area} {place = place} h A B = record {
  end = B.end ∙ ap (λ (r : ℕ). r + length ys) A.end ∙ all xs ys area place h;
  text = B.text ∙ (λ i. paste (A.text i) (A.end i) ys (length ys)) ∙ paste_paste xs ys area place h;
}

-- no piece at all
pub nothing : (area : List ℕ) → Placed [] 0 area 0 area
nothing area = record { end = refl; text = paste-zero area 0 [] }

-- at the start of an area
module _ {xs area after : List ℕ} {r : ℕ} (A : Placed xs 0 area r after) where
  pub first_end : r ≡ length xs
  first_end = A.end ∙ zero-add (length xs)

  pub first_text : after ≡ xs ++ drop (length xs) area
  first_text = A.text ∙ simp (take-length, zero-add)

-- ---- a text in its area: room behind a piece, two pieces and no piece
pub put_room : {xs : List ℕ} {t u : Text} (n : ℕ) → t.end + length xs + n ≤ length t.area.now → Put xs t u → u.end + n ≤ length u.area.now
put_room {xs} {t} n h P =
    let long = ap length P.placed.text ∙ length-paste t.area.now t.end xs (length xs) (omega arith) (le_refl (length xs)) in
    omega (arith, P.placed.end, long)

pub put_behind : {xs ys : List ℕ} {t u v : Text} → t.end ≤ length t.area.now → Put xs t u → Put ys u v → Put (xs ++ ys) t v
put_behind h A B = record { same = B.same ∙ A.same; placed = placed_behind h A.placed B.placed }

pub put_nothing : (t : Text) → Put [] t t
put_nothing t = record { same = refl; placed = record { end = sym (add-zero t.end); text = paste-zero t.area.now t.end [] } }

-- put at the start of a text
pub put_first : {xs area : List ℕ} {t u : Text} → t.end ≡ 0 → t.area.now ≡ area → Put xs t u → Placed xs 0 area u.end u.area.now
put_first e a P = rw (e, a) at P.placed
