-- `nearest::head::leading` meets its contract: the head is that of the words in use, one or two at the top. Assumes nothing.
use Rattle.std.proofs.Common.{◌≡◌, ℕ, ◌^◌, ◌<◌, ◌≤◌, Fits, w64, arith}
use Rattle.std.specs.Float.Ieee.{size}
use Rattle.lists.specs.LeadingDigits.{size_of_word}
use Rattle.nearest.proofs.HeadLaws.{words_fit, head_one, head_two}
use Rattle.nearest.proofs.head.leading.Goals as goal

-- the upper word in use has y digits
upper : {a y : ℕ} → 0 < a → Fits w64 a → y ≡ size a → (0 < y) × (y ≤ 64) × (a < 2 ^ y)
upper some fits e = rw e (size_of_word some fits.fits)

pub returns-then-n-lt2 : goal.returns-then-n-lt2
returns-then-n-lt2 c = head_one c.args.words.now c.used-n.result (words_fit c.type_inv.words) c.used-n.ensures (omega arith)

pub across-requires : goal.across-requires
across-requires c = upper (c.used-n.ensures.last (omega arith)) (c.type_inv.words _) c.size-y.ensures

pub overflow_add-result : goal.overflow_add-result
overflow_add-result c = omega (arith, upper (c.used-n.ensures.last (omega arith)) (c.type_inv.words _) c.size-y.ensures)

pub overflow_sub-y : goal.overflow_sub-y
overflow_sub-y c = (upper (c.used-n.ensures.last (omega arith)) (c.type_inv.words _) c.size-y.ensures).1

pub returns : goal.returns
returns c =
    rw (c.across.ensures, c.rest.ensures)
    (head_two c.args.words.now c.used-n.result (words_fit c.type_inv.words) c.used-n.ensures c.if-n-lt2.false c.size-y.result c.size-y.ensures)
