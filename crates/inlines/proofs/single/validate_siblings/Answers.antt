-- `inlines::single::validate_siblings` meets its contract.
use borrow.Author.Rules.{rules}
use Rattle.leaves.specs.Report.Entries.{list_if, ◌⊕◌}
use Rattle.leaves.proofs.report.ListedLaws.{adds_both, adds-none}
use Rattle.inlines.specs.Single.{validate_siblings}
use Rattle.inlines.proofs.single.validate_siblings.Goals as goal

pub returns-in_default : goal.returns-in_default
unfolding validate_siblings list_if ◌⊕◌
returns-in_default c = rw c.in_default.is adds-none

pub returns : goal.returns
unfolding validate_siblings
returns c = rw c.in-Some.is (adds_both c.list_if.ensures c.list_if-2.ensures (search rules))
