-- `blocks::item::validate_item_blank_lines` meets its contract.
use Rattle.inlines.proofs.WalkLaws.{loop-end}
use Rattle.inlines.proofs.PathLaws.{paced-start, paced-enter, paced-leave}
use Rattle.blocks.proofs.ItemLaws.{lines_none, lines-turn}
use Rattle.blocks.proofs.item.validate_item_blank_lines.Goals as goal

pub loop-r-init : goal.loop-r-init
loop-r-init c = paced-start _

pub enter-requires : goal.enter-requires
enter-requires c = paced-enter c.loop-r.invariant c.in-Some.ensures.some

pub leave-requires : goal.leave-requires
leave-requires c = paced-leave c.loop-r.invariant c.enter.ensures c.validate_blank_line.ensures

pub loop-r-preserved : goal.loop-r-preserved
loop-r-preserved c = lines-turn _ c.loop-r.invariant c.requires c.in-Some.ensures.some c.skip.ensures c.end-last.ensures c.enter.ensures c.validate_blank_line.ensures c.leave.ensures

pub returns : goal.returns
returns c = (loop-end c.loop-r.invariant.loop (lines_none _ _ _ _) c.in_default.ensures.none).adds
