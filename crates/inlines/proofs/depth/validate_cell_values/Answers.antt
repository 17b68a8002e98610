-- `inlines::depth::validate_cell_values` meets its contract.
use Rattle.inlines.proofs.DepthLaws.{each_none, each_turn}
use Rattle.inlines.proofs.WalkLaws.{loop-start, loop-end, loop-bytes}
use Rattle.inlines.specs.Depth.{validate_cell_values}
use Rattle.inlines.specs.Values.{is_unwritable}
use Rattle.inlines.proofs.depth.validate_cell_values.Goals as goal

pub loop-r-init : goal.loop-r-init
unfolding validate_cell_values
loop-r-init c = loop-start _

pub loop-r-preserved : goal.loop-r-preserved
loop-r-preserved c = each_turn (is_unwritable _) _ c.loop-r.invariant c.in-Some.ensures.some (rw (loop-bytes c.loop-r.invariant c.in-Some.ensures.some) at c.is_unwritable-fault.ensures) c.list_if.ensures

pub returns : goal.returns
returns c = loop-end c.loop-r.invariant (each_none _) c.in_default.ensures.none
