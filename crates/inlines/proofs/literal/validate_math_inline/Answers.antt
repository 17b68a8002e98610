-- `inlines::literal::validate_math_inline` meets its contract.
use borrow.Author.Rules.{rules}
use Rattle.leaves.proofs.report.ListedLaws.{adds_three}
use Rattle.inlines.specs.Literal.{validate_math_inline}
use Rattle.inlines.proofs.literal.validate_math_inline.Goals as goal

pub returns : goal.returns
unfolding validate_math_inline
returns c = adds_three c.list_if.ensures c.list_if-2.ensures c.list_if-3.ensures (search rules)
