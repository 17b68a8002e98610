-- `blocks::block::validate_own` meets its contract.
use borrow.Author.Rules.{rules}
use Rattle.leaves.proofs.report.ListedLaws.{adds_nothing}
use Rattle.blocks.specs.Block.{validate_own}
use Rattle.blocks.proofs.block.validate_own.Goals as goal

-- a kind that no arm names
pub returns-in_default : goal.returns-in_default
unfolding validate_own
returns-in_default c = adds_nothing (search rules)
