-- `blocks::table::validate_cell` meets its contract.
use Rattle.blocks.proofs.TableLaws.{cell-done}
use Rattle.blocks.proofs.table.validate_cell.Goals as goal

pub returns : goal.returns
returns c = cell-done c.validate_inlines.ensures c.validate_cell_values.ensures (rw c.number.ensures at c.validate_one_line.ensures)
