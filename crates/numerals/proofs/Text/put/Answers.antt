-- `numerals::Text::put` meets its contract: the bytes stand behind the text, and the others of the area are what they were. Assumes nothing.
use Rattle.std.proofs.Common.{refl, arith, length}
use Rattle.std.proofs.lemmas.Slice.{put_mid-paste}
use Rattle.numerals.proofs.Text.put.Goals as goal

pub returns-clause-longer : goal.returns-clause-longer
returns-clause-longer c =
    let a = c.args in
    record {
      same = refl;
      placed = record { end = refl; text = put_mid-paste _ _ _ _ a.bytes.now (length a.bytes.now) c.copy_from_slice.ensures.after (omega arith) refl };
    }
