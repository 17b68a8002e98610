-- `inlines::node::validate_text_directive` meets its contract.
use borrow.Author.Rules.{rules}
use Rattle.leaves.proofs.report.ListedLaws.{adds_both}
use Rattle.inlines.specs.Node.{validate_text_directive}
use Rattle.inlines.proofs.node.validate_text_directive.Goals as goal

pub returns : goal.returns
unfolding validate_text_directive
returns c = adds_both c.validate_directive_name.ensures c.validate_directive_attributes.ensures.adds (search rules)
