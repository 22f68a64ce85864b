-- `sum_sheet::main` meets its contract: the areas are long enough, and what is printed lies in the text. Assumes nothing.
use Rattle.lines.proofs.LinesLaws.{lines_inside}
use Rattle.sum_sheet.proofs.main.Goals as goal

pub slice_bounds-write_all-end : goal.slice_bounds-write_all-end
slice_bounds-write_all-end c = lines_inside _ _ _ _ c.lines-length.ensures
