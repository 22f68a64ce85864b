-- An addition or a withdrawal that is accepted changes at most three lanes, neighbours, and leaves every other as it was. Assumes nothing.
use Rattle.std.specs.Prelude.{◌≡◌, List, ℕ, ◌+◌, ◌-◌, ◌*◌, ◌/◌, ◌%◌, ◌^◌, ◌<◌, T, ℤ, nat_abs}
use Rattle.std.proofs.Common.{sym, ap, subst, ◌∙◌, mul-one, mul-le-mul_left, div-add-mod', arith, ltb→lt, pow_mono, pow-add}
use Rattle.std.proofs.Math.Nat.{mod-add-div}
use Rattle.std.proofs.Math.Decide.{ℕ_discrete}
use Rattle.std.specs.Float.Ieee.{ones, hid, top}
use Rattle.std.specs.Float.Ieee.Scale.{finite}
use Rattle.ieee.proofs.Pattern.{pattern_finite}
use Rattle.kinds.specs.Limits.{doubles}
use Rattle.judge.specs.Table.{float_of, size_of}
use Rattle.judge.specs.FaultLaws.{fault_0}
use Rattle.addend.specs.PatternFields.{pattern_subnormal, pattern_normal}
use Rattle.register.specs.Entries.{Change, pattern_of, change_of}
use Rattle.register.proofs.RunLaws.{change_size}
use Rattle.lanes.specs.Laid.{Counted}
use Rattle.lanes.specs.Lanes.{lane_bits, lane_count}
use Rattle.lanes.specs.Table.{ButThree}
use Rattle.lanes.specs.Three.{AtLane, laid_but_three}
use Rattle.lanes.specs.Runs.{lane_changed}
use Rattle.lanes.proofs.LanesLaws.{lay_given}
use Rattle.lanes.proofs.ChangeLaws.{change_lanes}

-- ---- three digits hold 84 binary ones
three_of : (v k : ℕ) → v < 2 ^ 84 → k + 2 < lane_count
    → AtLane (v * 2 ^ (lane_bits * k)) k (v % 2 ^ lane_bits) (v / 2 ^ lane_bits % 2 ^ lane_bits) (v / 2 ^ lane_bits / 2 ^ lane_bits)
three_of v k h w = record {
  within = w;
  low = omega arith;
  middle = omega arith;
  high = omega arith;
  units = ap (λ (n : ℕ). n * 2 ^ (lane_bits * k)) whole;
}
  where
    whole : v % 2 ^ lane_bits + (v / 2 ^ lane_bits % 2 ^ lane_bits + v / 2 ^ lane_bits / 2 ^ lane_bits * 2 ^ lane_bits) * 2 ^ lane_bits ≡ v
    whole = omega (arith, div-add-mod' v (2 ^ lane_bits), div-add-mod' (v / 2 ^ lane_bits) (2 ^ lane_bits))

abbrev Lying : ℕ → Type 0
Lying n = (k : ℕ) × (lo : ℕ) × (mid : ℕ) × (hi : ℕ) × AtLane n k lo mid hi

-- 53 of them shifted by less than 2046: within a lane by at most 31
shifted : (m e : ℕ) → m < 2 ^ 53 → e < 2046 → Lying (m * 2 ^ e)
shifted m e h l =
    let within : 2 ^ e ≡ 2 ^ (e % 32) * 2 ^ (32 * (e / 32)) = ap (λ (n : ℕ). 2 ^ n) (sym (mod-add-div e 32)) ∙ pow-add 2 (e % 32) (32 * (e / 32)) in
    let whole : m * 2 ^ (e % 32) * 2 ^ (32 * (e / 32)) ≡ m * 2 ^ e = omega (arith, ap (λ (n : ℕ). m * n) within) in
    let small : m * 2 ^ (e % 32) < 2 ^ 84 = omega (arith, mul-le-mul_left m (pow_mono {i = e % 32} {j = 31} (omega arith))) in
    subst Lying whole (e / 32, _, _, _, three_of (m * 2 ^ (e % 32)) (e / 32) small (omega arith))

-- so does a finite number lie, by its fields
module _ (p : ℕ) (F : T (finite (float_of doubles p))) where
  field : p % 2 ^ 63 / 2 ^ 52 < 2047
  field =
      let f = doubles.format in
      let h : p % top f < ones f * hid f = ltb→lt (p % top f) (ones f * hid f) (rw (pattern_finite f p) at F) in
      omega arith

  lying : Lying (size_of doubles p)
  lying = elim (ℕ_discrete (p % 2 ^ 63 / 2 ^ 52) 0) [
    | yes e ↦
        let size : p % 2 ^ 63 % 2 ^ 52 * 2 ^ 0 ≡ size_of doubles p = mul-one (p % 2 ^ 63 % 2 ^ 52) ∙ sym (pattern_subnormal doubles.format p F e) in
        subst Lying size (shifted (p % 2 ^ 63 % 2 ^ 52) 0 (omega arith) (omega arith))
    | no e ↦
        let size = pattern_normal doubles.format p F (omega arith) in
        subst Lying (sym size) (shifted (2 ^ 52 + p % 2 ^ 63 % 2 ^ 52) (p % 2 ^ 63 / 2 ^ 52 - 1) (omega arith) (omega (arith, field)))
  ]

-- rule N3: of `lane_added` and of `lane_withdrawn`
pub change_three : (zs : List ℤ) (calls : ℕ) (c : Change) {n : ℕ} → (lane_changed zs calls c).answer ≡ Counted n
    → (k : ℕ) × ButThree k zs (lane_changed zs calls c).area
change_three zs calls c a =
    let g = lay_given zs calls (pattern_of c) (change_of c) a in
    let A : Lying (nat_abs (change_of c)) = rw (change_size c) (lying (pattern_of c) ((fault_0 doubles (pattern_of c)).0 g.2).0) in
    (A.0, rw (change_lanes zs calls c a) (laid_but_three (change_of c) A.4 zs g.0))
