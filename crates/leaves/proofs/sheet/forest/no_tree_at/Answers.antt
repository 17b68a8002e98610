-- `leaves::sheet::forest::no_tree_at` meets its contract.
use mathlib.Core.Path.{◌∙◌}
use borrow.Author.Tests.{le-leb}
use Rattle.leaves.proofs.sheet.TreeLaws.{no_tree-end, ends_at}
use borrow.Author.Rules.{rules}
use Rattle.leaves.proofs.sheet.forest.no_tree_at.Goals as goal

pub returns-then-n-i : goal.returns-then-n-i
returns-then-n-i c = le-leb _ _ c.if-n-i.true ∙ no_tree-end _ _ _ _ c.if-n-i.true

pub returns-else-n-i : goal.returns-else-n-i
returns-else-n-i c = ends_at _ _ _ _ (search rules) c.level_at.ensures
