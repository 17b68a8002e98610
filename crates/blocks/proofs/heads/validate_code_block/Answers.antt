-- `blocks::heads::validate_code_block` meets its contract.
use borrow.Author.Rules.{rules}
use Rattle.leaves.proofs.report.ListedLaws.{adds_both}
use Rattle.blocks.specs.Heads.{validate_code_block}
use Rattle.blocks.proofs.heads.validate_code_block.Goals as goal

pub returns : goal.returns
unfolding validate_code_block
returns c = adds_both c.list_if.ensures c.list_if-2.ensures (search rules)
