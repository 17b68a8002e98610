-- `blocks::heads::validate_definition` meets its contract.
use borrow.Author.Rules.{rules}
use Rattle.leaves.proofs.report.ListedLaws.{adds_both}
use Rattle.blocks.specs.Heads.{validate_definition}
use Rattle.blocks.proofs.heads.validate_definition.Goals as goal

pub returns : goal.returns
unfolding validate_definition
returns c = adds_both c.list_if.ensures c.validate_destination.ensures (search rules)
