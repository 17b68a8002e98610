-- `blocks::heads::validate_heading` meets its contract.
use borrow.Author.Rules.{rules}
use Rattle.leaves.proofs.report.ListedLaws.{adds_both}
use Rattle.blocks.specs.Heads.{validate_heading}
use Rattle.blocks.proofs.heads.validate_heading.Goals as goal

pub returns : goal.returns
unfolding validate_heading
returns c = adds_both c.list_if.ensures c.validate_inlines.ensures.adds (search rules)
