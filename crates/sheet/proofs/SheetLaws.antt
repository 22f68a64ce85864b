-- What the reader answers, case by case; what it reads is the format; and every list that fits, written as a sheet, is read back. Assumes nothing.
use Rattle.std.specs.Prelude.{◌≡◌, Bool, true, false, cond, not, List, [], ◌∷◌, ◌++◌, ℕ, ◌+◌, ◌*◌, ◌^◌, ◌≤◌, ◌<◌, T, ltb, eqb, take, drop}
use Rattle.std.proofs.Math.Path.{refl}
use Rattle.std.proofs.Common.{sym, ap, ◌∙◌, eqb→eq, nltb→le, take-append-drop, length-append, length-drop, length-take-le, take_at}
use native.Mathlib.Omega.{arith}
use borrow.Author.Tests.{lt-ltb, le-ltb, eq-eqb, ne_eqb}
use Rattle.std.proofs.Math.ListN.{length}
use Rattle.std.proofs.Math.Seq.{drop_at}
use Rattle.lists.proofs.Apart.{apart}
use Rattle.lists.specs.Digits.{Digits}
use Rattle.lists.specs.DigitLaws.{digits_tail, digits_take, digits_drop}
use Rattle.octets.specs.Octets.{big_endian, big}
use Rattle.octets.proofs.OctetsLaws.{big_length, big_back, big_bytes_back}
use Rattle.octets.proofs.EightsLaws.{eights_length, joined_length, eights_joined, joined_eights}
use Rattle.kinds.specs.Limits.{Width}
use Rattle.kinds.specs.Outcome.{outcome}
use Rattle.kinds.specs.Sheet.{Read, Refused}
use Rattle.sheet.specs.Sheet.{Reading, body, sheet_of, version_of, count_of, patterns_of, read_of}
use Rattle.sheet.specs.SheetLaws.{Readable}

-- ---- case by case
module _ (W : Width) (bytes area : List ℕ) where
  pub read_no_header : length bytes < 5 → read_of W bytes area ≡ outcome (Refused 11 0) area
  unfolding read_of
  read_no_header h = rw (lt-ltb (length bytes) 5 h)

  pub read_version : 5 ≤ length bytes → (version_of bytes ≡ 1 → ⊥) → read_of W bytes area ≡ outcome (Refused 12 0) area
  unfolding read_of
  read_version h v = rw (le-ltb (length bytes) 5 h, ne_eqb (version_of bytes) 1 v)

  module _ (h : 5 ≤ length bytes) (v : version_of bytes ≡ 1) where
    pub read_many : W.length < count_of bytes → read_of W bytes area ≡ outcome (Refused 1 0) area
    unfolding read_of
    read_many m = rw (le-ltb (length bytes) 5 h, eq-eqb (version_of bytes) 1 v, lt-ltb W.length (count_of bytes) m)

    module _ (few : count_of bytes ≤ W.length) where
      pub read_short : length bytes < 5 + 8 * count_of bytes → read_of W bytes area ≡ outcome (Refused 11 0) area
      unfolding read_of
      read_short s =
          rw (le-ltb (length bytes) 5 h, eq-eqb (version_of bytes) 1 v, le-ltb W.length (count_of bytes) few, lt-ltb (length bytes) (5 + 8 * count_of bytes) s)

      pub read_long : 5 + 8 * count_of bytes < length bytes → read_of W bytes area ≡ outcome (Refused 13 0) area
      unfolding read_of
      read_long s =
          let k : 5 + 8 * count_of bytes ≤ length bytes = omega arith in
          rw (
            le-ltb (length bytes) 5 h,
            eq-eqb (version_of bytes) 1 v,
            le-ltb W.length (count_of bytes) few,
            le-ltb (length bytes) (5 + 8 * count_of bytes) k,
            lt-ltb (5 + 8 * count_of bytes) (length bytes) s,
          )

      module _ (exact : length bytes ≡ 5 + 8 * count_of bytes) where
        pub read_no_room : length area < count_of bytes → read_of W bytes area ≡ outcome (Refused 4 0) area
        unfolding read_of
        read_no_room s =
            let k : 5 + 8 * count_of bytes ≤ length bytes = omega arith in
            let l : length bytes ≤ 5 + 8 * count_of bytes = omega arith in
            rw (
              le-ltb (length bytes) 5 h,
              eq-eqb (version_of bytes) 1 v,
              le-ltb W.length (count_of bytes) few,
              le-ltb (length bytes) (5 + 8 * count_of bytes) k,
              le-ltb (5 + 8 * count_of bytes) (length bytes) l,
              lt-ltb (length area) (count_of bytes) s,
            )

        pub read_all : count_of bytes ≤ length area
            → read_of W bytes area ≡ outcome (Read (count_of bytes)) (patterns_of (count_of bytes) (drop 5 bytes) ++ drop (count_of bytes) area)
        unfolding read_of
        read_all s =
            let k : 5 + 8 * count_of bytes ≤ length bytes = omega arith in
            let l : length bytes ≤ 5 + 8 * count_of bytes = omega arith in
            rw (
              le-ltb (length bytes) 5 h,
              eq-eqb (version_of bytes) 1 v,
              le-ltb W.length (count_of bytes) few,
              le-ltb (length bytes) (5 + 8 * count_of bytes) k,
              le-ltb (5 + 8 * count_of bytes) (length bytes) l,
              le-ltb (length area) (count_of bytes) s,
            )

-- a test that refuses has not held
passed : (area : List ℕ) (k : ℕ) (b : Bool) {n : ℕ} {after : List ℕ} {rest : Reading}
    → cond b (outcome (Refused k 0) area) rest ≡ outcome (Read n) after → T (not b) × (rest ≡ outcome (Read n) after)
passed area k true {n} e =
    let r : Refused k 0 ≡ Read n = ap (λ (x : Reading). x.answer) e in
    apart (cc)
passed area k false e = (tt, e)

twice : (b : Bool) → T (not (not b)) → T b
twice true t = tt
twice false t = t

pub readable : (W : Width) (bytes area : List ℕ) {n : ℕ} {after : List ℕ} → read_of W bytes area ≡ outcome (Read n) after → Readable W bytes area
unfolding read_of
readable W bytes area e =
    let n = count_of bytes in
    let p1 = passed area 11 (ltb (length bytes) 5) e in
    let p2 = passed area 12 (not (eqb (version_of bytes) 1)) p1.1 in
    let p3 = passed area 1 (ltb W.length n) p2.1 in
    let p4 = passed area 11 (ltb (length bytes) (5 + 8 * n)) p3.1 in
    let p5 = passed area 13 (ltb (5 + 8 * n) (length bytes)) p4.1 in
    let p6 = passed area 4 (ltb (length area) n) p5.1 in
    let l : 5 + 8 * n ≤ length bytes = nltb→le (length bytes) (5 + 8 * n) p4.0 in
    let m : length bytes ≤ 5 + 8 * n = nltb→le (5 + 8 * n) (length bytes) p5.0 in
    record {
      header = nltb→le (length bytes) 5 p1.0;
      version = eqb→eq (version_of bytes) 1 (twice (eqb (version_of bytes) 1) p2.0);
      few = nltb→le W.length n p3.0;
      exact = omega arith;
      room = nltb→le (length area) n p6.0;
    }

pub readable_read : (W : Width) (bytes area : List ℕ) → Readable W bytes area
    → read_of W bytes area ≡ outcome (Read (count_of bytes)) (patterns_of (count_of bytes) (drop 5 bytes) ++ drop (count_of bytes) area)
readable_read W bytes area A = read_all W bytes area A.header A.version A.few A.exact A.room

-- k bytes at the front, read and written again
front_back : (k : ℕ) (bs : List ℕ) → Digits 8 bs → k ≤ length bs → big_endian k (big (take k bs)) ≡ take k bs
front_back k bs B h =
    let e : length (take k bs) ≡ k = length-take-le k bs h in
    rw e at (big_bytes_back (take k bs) (digits_take 8 k bs B))

-- ---- what is read is the format
body_patterns : (n : ℕ) (bs : List ℕ) → Digits 8 bs → length bs ≡ 8 * n → body (patterns_of n bs) ≡ bs
body_patterns = joined_eights (big_endian 8) big (λ bs B l. rw l at (big_bytes_back bs B))

header_back : (bs : List ℕ) → Digits 8 bs → 5 ≤ length bs → version_of bs ≡ 1 → 1 ∷ (big_endian 4 (count_of bs) ++ drop 5 bs) ≡ bs
header_back [] B h v = absurd (omega arith)
header_back (b ∷ bs) B h v =
    let k : 4 ≤ length bs = omega arith in
    (λ i. 1 ∷ (front_back 4 bs (digits_tail 8 B) k i ++ drop 4 bs)) ∙ (λ i. sym v i ∷ take-append-drop 4 bs i)

-- where n are read, the first n of the area afterwards are the patterns that the bytes hold
pub read_patterns : (W : Width) (bytes area : List ℕ) {n : ℕ} {after : List ℕ} → read_of W bytes area ≡ outcome (Read n) after
    → (count_of bytes ≡ n) × (take n after ≡ patterns_of (count_of bytes) (drop 5 bytes))
read_patterns W bytes area {n} {after} e =
    let ps = patterns_of (count_of bytes) (drop 5 bytes) in
    let r : outcome (Read (count_of bytes)) (ps ++ drop (count_of bytes) area) ≡ outcome (Read n) after =
    sym (readable_read W bytes area (readable W bytes area e)) ∙ e in
    let a : Read (count_of bytes) ≡ Read n = ap (λ (x : Reading). x.answer) r in
    let c : count_of bytes ≡ n = cc in
    let l : ps ++ drop (count_of bytes) area ≡ after = ap (λ (x : Reading). x.area) r in
    (c, rw (← c, ← l) (take_at ps (drop (count_of bytes) area) (count_of bytes) (eights_length big (count_of bytes) (drop 5 bytes))))

-- rule H1: where n are read, the bytes are the sheet of the first n of the area afterwards
pub read_is_sheet : (W : Width) (bytes area : List ℕ) {n : ℕ} {after : List ℕ}
    → Digits 8 bytes → read_of W bytes area ≡ outcome (Read n) after → (bytes ≡ sheet_of (take n after)) × (n ≡ length (take n after))
unfolding sheet_of
read_is_sheet W bytes area {n} {after} B e =
    let A : Readable W bytes area = readable W bytes area e in
    let c : count_of bytes ≡ n = (read_patterns W bytes area e).0 in
    let t : take n after ≡ patterns_of (count_of bytes) (drop 5 bytes) = (read_patterns W bytes area e).1 in
    let d : length (drop 5 bytes) ≡ 8 * count_of bytes = rw (length-drop 5 bytes) (omega (arith, A.exact)) in (
      rw (t, eights_length big (count_of bytes) (drop 5 bytes), body_patterns (count_of bytes) (drop 5 bytes) (digits_drop 8 5 bytes B) d)
          (sym (header_back bytes B A.header A.version)),
      rw (t, eights_length big (count_of bytes) (drop 5 bytes)) (sym c),
    )

-- ---- what is written is read back
pub patterns_body : (ps : List ℕ) → Digits 64 ps → patterns_of (length ps) (body ps) ≡ ps
patterns_body = eights_joined (big_endian 8) (big_length 8) big (big_back 8)

module _ (ps : List ℕ) where
  count_size : length (big_endian 4 (length ps)) ≡ 4
  count_size = big_length 4 (length ps)

  pub sheet_count : length ps < 2 ^ 32 → count_of (sheet_of ps) ≡ length ps
  unfolding sheet_of
  sheet_count h = rw (take_at (big_endian 4 (length ps)) (body ps) 4 count_size) (big_back 4 (length ps) h)

  pub sheet_body : drop 5 (sheet_of ps) ≡ body ps
  unfolding sheet_of
  sheet_body = drop_at (big_endian 4 (length ps)) (body ps) 4 count_size

  pub sheet_length : length (sheet_of ps) ≡ 5 + 8 * length ps
  unfolding sheet_of
  sheet_length = rw (length-append (big_endian 4 (length ps)) (body ps), count_size, joined_length (big_endian 8) (big_length 8) ps) (omega arith)

  pub sheet_version : version_of (sheet_of ps) ≡ 1
  unfolding sheet_of
  sheet_version = refl

-- every list that fits, at a width whose limit is told in 4 bytes
pub sheet_read : (W : Width) (ps area : List ℕ) → W.length < 2 ^ 32 → length ps ≤ W.length → Digits 64 ps → length ps ≤ length area
    → read_of W (sheet_of ps) area ≡ outcome (Read (length ps)) (ps ++ drop (length ps) area)
sheet_read W ps area w few D room =
    let c : count_of (sheet_of ps) ≡ length ps = sheet_count ps (omega arith) in
    let l : length (sheet_of ps) ≡ 5 + 8 * length ps = sheet_length ps in
    let A : Readable W (sheet_of ps) area =
    record { header = omega arith; version = sheet_version ps; few = omega arith; exact = omega arith; room = omega arith } in
    readable_read W (sheet_of ps) area A ∙ rw (c, sheet_body ps, patterns_body ps D)
