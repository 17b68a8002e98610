-- `inlines::attribute::validate_directive_attributes` meets its contract.
use Rattle.inlines.proofs.AttributeLaws.{attributes-none, attributes-turn}
use Rattle.inlines.proofs.WalkLaws.{loop-start, loop-end}
use Rattle.inlines.proofs.attribute.validate_directive_attributes.Goals as goal

pub loop-r-init : goal.loop-r-init
loop-r-init c = loop-start _

pub loop-r-preserved : goal.loop-r-preserved
loop-r-preserved c = attributes-turn c.loop-r.invariant c.in-Some.ensures.some c.is_bad_attribute-fault.ensures c.none.ensures c.list_if.ensures c.skip.ensures

pub returns : goal.returns
returns c = loop-end c.loop-r.invariant (attributes-none _ _) c.in_default.ensures.none
