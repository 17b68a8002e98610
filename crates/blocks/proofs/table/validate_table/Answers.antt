-- `blocks::table::validate_table` meets its contract.
use mathlib.Core.Path.{sym, ◌∙◌}
use Rattle.leaves.specs.Sheet.Trees.{trees}
use Rattle.blocks.proofs.TableLaws.{table_empty, table_done}
use Rattle.blocks.proofs.table.validate_table.Goals as goal

pub returns-in_default : goal.returns-in_default
returns-in_default c = table_empty _ _ _ _ (trees c.args.records.now c.args.report.now.level) (sym c.roots.ensures ∙ c.in_default.ensures.steps.0) c.list_if.ensures

pub returns : goal.returns
returns c = table_done _ _ (sym c.roots.ensures ∙ c.in-Some.ensures.steps) c.count_trees-width.ensures c.list_if-2.ensures c.list_if-3.ensures c.validate_rows.ensures
