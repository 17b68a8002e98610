-- The cycle of calls of the inline walk: a loop from inline to inline, and the walk of each one's children.
use Rattle.std.specs.Prelude.{unwrap_or}
use Prim.Native.Nat.{◌+◌, ◌-◌, ◌*◌}
use Rattle.leaves.specs.Refusal.Limits.{levels_left}
use Rattle.leaves.specs.Sheet.Trees.{trees}
use Rattle.leaves.specs.Report.Listed.{path_of}
use Rattle.inlines.specs.Nodes.{validate_inline_nodes_after, validate_inline_nodes}
use Rattle.inlines.proofs.WalkLaws.{Loop}
use Rattle.inlines.proofs.nodes.+nodes.Given as goal
use Rattle.leaves.specs.Sheet.Kinds.{no_kind}

-- the levels left fall from a loop to the records in it, and a record stands just above the loop over its children
abbrev pub decreases-validate_inline_nodes : goal.decreases-validate_inline_nodes
decreases-validate_inline_nodes l = 2 * levels_left l.level

abbrev pub decreases-validate_node : goal.decreases-validate_node
decreases-validate_node l = 2 * levels_left l.r.level + 1

-- the loop: what holds at its head, and what falls
abbrev pub invariant-validate_inline_nodes-loop-r : goal.invariant-validate_inline_nodes-loop-r
invariant-validate_inline_nodes-loop-r l =
    let bytes = l.initial.records.bytes.now in
    let path = path_of l.initial.report in
    Loop (validate_inline_nodes bytes path (trees l.initial.records l.level)) (validate_inline_nodes_after bytes path (unwrap_or l.before no_kind)) l.level l.initial.records l.records l.initial.report l.report

abbrev pub decreases-validate_inline_nodes-loop-r : goal.decreases-validate_inline_nodes-loop-r
decreases-validate_inline_nodes-loop-r l = l.records.n - l.records.next
