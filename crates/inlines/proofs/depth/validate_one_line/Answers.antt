-- `inlines::depth::validate_one_line` meets its contract.
use Rattle.inlines.proofs.DepthLaws.{each_none, each_turn}
use Rattle.inlines.proofs.WalkLaws.{loop-start, loop-end}
use Rattle.inlines.specs.Depth.{validate_one_line}
use Rattle.leaves.specs.Sheet.Classes.{is_break}
use Rattle.inlines.proofs.depth.validate_one_line.Goals as goal

pub loop-r-init : goal.loop-r-init
unfolding validate_one_line
loop-r-init c = loop-start _

pub loop-r-preserved : goal.loop-r-preserved
loop-r-preserved c = each_turn (λ r. is_break r.kind) _ c.loop-r.invariant c.in-Some.ensures.some c.is_break-fault.ensures c.list_number_if.ensures

pub returns : goal.returns
returns c = loop-end c.loop-r.invariant (each_none _) c.in_default.ensures.none
