-- `leaves::sheet::trees::Records::next_under` meets its contract.
use Rattle.leaves.proofs.sheet.TreesLaws.{ends-past, ends-out}
use borrow.Author.Rules.{rules}
use Rattle.leaves.proofs.sheet.trees.Records.next_under.Goals as goal

pub returns-then-self-clause-none : goal.returns-then-self-clause-none
returns-then-self-clause-none c = ends-past _ _ c.if-self.true

pub returns-then-r-level-clause-none : goal.returns-then-r-level-clause-none
returns-then-r-level-clause-none c = ends-out _ _ (search rules) c.record_at-r.ensures c.if-r-level.true
