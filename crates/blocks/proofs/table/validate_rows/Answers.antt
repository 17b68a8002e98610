-- `blocks::table::validate_rows` meets its contract.
use Rattle.leaves.proofs.report.ListedLaws.{adds-then}
use Rattle.inlines.proofs.WalkLaws.{loop-end}
use Rattle.inlines.proofs.PathLaws.{paced-start, paced-enter, paced-leave}
use Rattle.blocks.proofs.TableLaws.{rows_none, rows-turn}
use Rattle.blocks.proofs.table.validate_rows.Goals as goal

pub loop-row-init : goal.loop-row-init
loop-row-init c = paced-start _

pub enter-requires : goal.enter-requires
enter-requires c = paced-enter c.loop-row.invariant c.in-Some.ensures.some

pub leave-requires : goal.leave-requires
leave-requires c = paced-leave c.loop-row.invariant c.enter.ensures (adds-then c.list_if.ensures c.validate_cells.ensures.adds)

pub loop-row-preserved : goal.loop-row-preserved
loop-row-preserved c = rows-turn c.in-Some.ensures.some c.enter.ensures c.leave.ensures _ c.loop-row.invariant c.count_trees.ensures c.list_if.ensures c.validate_cells.ensures

pub returns : goal.returns
returns c = loop-end c.loop-row.invariant.loop (rows_none _ _ _ _) c.in_default.ensures.none
