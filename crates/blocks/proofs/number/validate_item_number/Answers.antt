-- `blocks::number::validate_item_number` meets its contract.
use borrow.Author.Rules.{rules}
use Rattle.leaves.proofs.report.ListedLaws.{adds_both, adds_nothing}
use Rattle.blocks.specs.Number.{validate_item_number}
use Rattle.blocks.proofs.number.validate_item_number.Goals as goal

pub returns : goal.returns
unfolding validate_item_number
returns c = adds_both c.list_if.ensures c.list_if-2.ensures (search rules)

pub returns-in_default : goal.returns-in_default
unfolding validate_item_number
returns-in_default c = adds_nothing (search rules)
