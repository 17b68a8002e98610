-- `leaves::sheet::forest::count_trees` meets its contract.
use Prim.Native.Nat.{◌-◌}
use Rattle.leaves.proofs.sheet.TreeLaws.{Counting}
use Rattle.leaves.proofs.sheet.forest.count_trees.Given as goal

abbrev pub invariant-loop-next : goal.invariant-loop-next
invariant-loop-next l = Counting l.sheet l.n l.«from» l.level l.next l.trees

abbrev pub decreases-loop-next : goal.decreases-loop-next
decreases-loop-next l = l.n - l.next
