-- `blocks::item::validate_blank_line` meets its contract.
use borrow.Author.Rules.{rules}
use Rattle.leaves.proofs.report.ListedLaws.{adds_three}
use Rattle.blocks.specs.Item.{validate_blank_line}
use Rattle.blocks.proofs.item.validate_blank_line.Goals as goal

pub returns : goal.returns
unfolding validate_blank_line
returns c = adds_three c.list_if.ensures c.list_if-2.ensures c.list_if-3.ensures (search rules)
