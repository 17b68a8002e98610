-- `blocks::list::validate_list` meets its contract.
use Rattle.blocks.proofs.ListLaws.{list-tight, list-loose}
use Rattle.blocks.proofs.list.validate_list.Goals as goal

pub returns-then-r-eq1 : goal.returns-then-r-eq1
returns-then-r-eq1 c = list-tight _ _ _ c.end.ensures c.list_if.ensures c.if-r-eq1.true

pub returns : goal.returns
returns c = list-loose _ _ _ c.end.ensures c.list_if.ensures c.if-r-eq1.false c.holds_one_block-loose.ensures c.list_if-2.ensures
