-- `leaves::sheet::forest::count_trees` meets its contract.
use Rattle.leaves.proofs.sheet.TreeLaws.{no_tree-deep, counting-turn}
use native.Mathlib.Omega.{arith}
use borrow.Author.Rules.{rules}
use Rattle.leaves.proofs.sheet.forest.count_trees.Goals as goal

pub level_at-requires : goal.level_at-requires
level_at-requires c = let d = no_tree-deep _ _ _ _ c.no_tree_at.ensures c.loop-next-test.true in omega (arith, d.0)

pub skip-next-requires : goal.skip-next-requires
skip-next-requires c = let d = no_tree-deep _ _ _ _ c.no_tree_at.ensures c.loop-next-test.true in (search rules, omega (arith, d.0))

pub loop-next-smaller : goal.loop-next-smaller
loop-next-smaller c = let d = no_tree-deep _ _ _ _ c.no_tree_at.ensures c.loop-next-test.true in omega (arith, d.0, c.skip-next.ensures)

pub loop-next-preserved : goal.loop-next-preserved
loop-next-preserved c = counting-turn _ _ _ _ c.loop-next.invariant c.no_tree_at.ensures c.loop-next-test.true c.level_at.ensures c.skip-next.ensures
