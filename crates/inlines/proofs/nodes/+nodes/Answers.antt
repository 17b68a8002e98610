-- The cycle of calls of the inline walk: what holds where each function returns, and from turn to turn of the loop.
use mathlib.Core.Path.{ap}
use mathlib.Core.Bool.{not}
use Rattle.inlines.proofs.NodesLaws.{node_done, node-other, kind-inline, kind-other, nodes-none, nodes-turn}
use Rattle.inlines.specs.Nodes.{validate_inline_nodes}
use Rattle.inlines.proofs.WalkLaws.{loop-start, loop-end}
use Rattle.inlines.proofs.nodes.+nodes.Goals as goal

pub validate_inline_nodes-loop-r-init : goal.validate_inline_nodes-loop-r-init
unfolding validate_inline_nodes
validate_inline_nodes-loop-r-init t c = loop-start _

pub validate_inline_nodes-returns : goal.validate_inline_nodes-returns
validate_inline_nodes-returns t c = loop-end c.loop-r.invariant (nodes-none _ _ _) c.in_default.ensures.none

pub validate_inline_nodes-loop-r-preserved-then-is_inline : goal.validate_inline_nodes-loop-r-preserved-then-is_inline
validate_inline_nodes-loop-r-preserved-then-is_inline t c = nodes-turn _ c.loop-r.invariant c.in-Some.ensures.some c.validate_node.ensures (kind-inline _ c.in-Some.r c.is_inline.ensures c.if-is_inline.true)

pub validate_inline_nodes-loop-r-preserved : goal.validate_inline_nodes-loop-r-preserved
validate_inline_nodes-loop-r-preserved t c = nodes-turn _ c.loop-r.invariant c.in-Some.ensures.some c.validate_node.ensures (kind-other _ c.in-Some.r c.is_inline.ensures c.if-is_inline.false)

pub validate_node-returns-then-not-is_inline : goal.validate_node-returns-then-not-is_inline
validate_node-returns-then-not-is_inline t c = node-other _ _ c.is_inline.ensures (ap not c.if-not-is_inline.true) c.skip.ensures

pub validate_node-returns : goal.validate_node-returns
validate_node-returns t c = node_done _ _ c.is_inline.ensures (ap not c.if-not-is_inline.false) c.validate_siblings.ensures c.validate_inline.ensures c.validate_inline_nodes.ensures
