-- `inlines::content::validate_last_break` meets its contract.
use borrow.Author.Rules.{rules}
use Rattle.leaves.proofs.report.ListedLaws.{adds_nothing}
use Rattle.inlines.specs.ContentGathered.{break_entry}
use Rattle.inlines.proofs.content.validate_last_break.Goals as goal

pub returns-in_default : goal.returns-in_default
unfolding break_entry
returns-in_default c = adds_nothing (search rules)
