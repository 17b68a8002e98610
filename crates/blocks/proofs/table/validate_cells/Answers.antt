-- `blocks::table::validate_cells` meets its contract.
use Rattle.inlines.proofs.WalkLaws.{loop-end}
use Rattle.inlines.proofs.PathLaws.{paced-start, paced-enter, paced-leave}
use Rattle.blocks.proofs.TableLaws.{cells-none, cells-turn}
use Rattle.blocks.proofs.table.validate_cells.Goals as goal

pub loop-cell-init : goal.loop-cell-init
loop-cell-init c = paced-start _

pub enter-requires : goal.enter-requires
enter-requires c = paced-enter c.loop-cell.invariant c.in-Some.ensures.some

pub leave-requires : goal.leave-requires
leave-requires c = paced-leave c.loop-cell.invariant c.enter.ensures c.validate_cell.ensures.adds

pub loop-cell-preserved : goal.loop-cell-preserved
loop-cell-preserved c = cells-turn c.in-Some.ensures.some c.enter.ensures c.leave.ensures c.loop-cell.invariant c.validate_cell.ensures

pub returns : goal.returns
returns c = loop-end c.loop-cell.invariant.loop (cells-none _ _ _) c.in_default.ensures.none
