-- `blocks::before::validate_taken_block` meets its contract.
use borrow.Author.Rules.{rules}
use Rattle.leaves.proofs.report.ListedLaws.{adds_nothing, adds_both}
use Rattle.blocks.specs.Before.{validate_taken_block}
use Rattle.blocks.proofs.BeforeLaws.{taken-none}
use Rattle.blocks.proofs.before.validate_taken_block.Goals as goal

pub returns-in_default : goal.returns-in_default
returns-in_default c = rw c.in_default.is (adds_nothing (taken-none _ _ _ _ _))

pub returns : goal.returns
unfolding validate_taken_block
returns c = rw c.in-Some.is (adds_both c.list_if.ensures c.list_if-2.ensures (search rules))
