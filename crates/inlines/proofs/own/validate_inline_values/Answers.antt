-- `inlines::own::validate_inline_values` meets its contract.
use borrow.Author.Rules.{rules}
use Rattle.leaves.proofs.report.ListedLaws.{adds_nothing}
use Rattle.inlines.specs.Own.{validate_inline_values}
use Rattle.inlines.proofs.own.validate_inline_values.Goals as goal

-- a kind that no arm names
pub returns-in_default : goal.returns-in_default
unfolding validate_inline_values
returns-in_default c = adds_nothing (search rules)
