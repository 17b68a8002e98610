-- `inlines::link::validate_link_text` meets its contract.
use Rattle.inlines.proofs.LinkLaws.{links-none, links-turn}
use Rattle.inlines.proofs.WalkLaws.{loop-start, loop-end}
use Rattle.inlines.proofs.link.validate_link_text.Goals as goal

pub loop-r-init : goal.loop-r-init
loop-r-init c = loop-start _

pub loop-r-preserved : goal.loop-r-preserved
loop-r-preserved c = links-turn c.loop-r.invariant c.in-Some.ensures.some c.is_link-found.ensures c.list_if.ensures c.past_link.ensures

pub returns : goal.returns
returns c = loop-end c.loop-r.invariant (links-none _) c.in_default.ensures.none
