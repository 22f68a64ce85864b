-- `sheet::layout::header` meets its contract: the version stands in the first byte, and the count in the four behind it. Assumes nothing.
use mathlib.Core.Path.{◌∙◌}
use native.Mathlib.Omega.{arith}
use Rattle.octets.specs.Octets.{big_endian}
use Rattle.sheet.proofs.LayoutLaws.{header_laid}
use Rattle.sheet.proofs.layout.header.Goals as goal

pub returns : goal.returns
returns c =
    let a = c.args in
    c.write_big_endian.ensures ∙ header_laid a.sheet.now (big_endian 4 a.n) _ (omega arith)
