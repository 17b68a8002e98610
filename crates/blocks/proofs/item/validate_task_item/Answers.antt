-- `blocks::item::validate_task_item` meets its contract.
use Rattle.blocks.proofs.ItemLaws.{task-none, task-law}
use Rattle.blocks.proofs.item.validate_task_item.Goals as goal

pub returns-then-r-eq0 : goal.returns-then-r-eq0
returns-then-r-eq0 c = task-none _ _ _ _ c.if-r-eq0.true

pub returns : goal.returns
returns c = task-law _ _ _ _ c.if-r-eq0.false c.opens_with_paragraph-fault.ensures c.list_if.ensures
