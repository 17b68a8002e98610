-- `inlines::literal::validate_code_inline` meets its contract.
use borrow.Author.Rules.{rules}
use Rattle.leaves.proofs.report.ListedLaws.{adds_both}
use Rattle.inlines.specs.Literal.{validate_code_inline}
use Rattle.inlines.proofs.literal.validate_code_inline.Goals as goal

pub returns : goal.returns
unfolding validate_code_inline
returns c = adds_both c.list_if.ensures c.list_if-2.ensures (search rules)
