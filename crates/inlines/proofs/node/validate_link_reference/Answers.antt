-- `inlines::node::validate_link_reference` meets its contract.
use borrow.Author.Rules.{rules}
use Rattle.leaves.proofs.report.ListedLaws.{adds_both}
use Rattle.inlines.proofs.node.validate_link_reference.Goals as goal

pub returns : goal.returns
returns c = adds_both c.validate_identifier.ensures c.validate_link_text.ensures.adds (search rules)
