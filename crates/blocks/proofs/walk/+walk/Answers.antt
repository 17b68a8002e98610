-- The cycle of calls of the block walk: what holds where each function returns, and from turn to turn of the loops.
use mathlib.Core.Path.{ap}
use mathlib.Core.Bool.{not}
use Rattle.inlines.proofs.WalkLaws.{loop-end}
use Rattle.inlines.proofs.PathLaws.{paced-start}
use Rattle.blocks.proofs.BlockWalkLaws.{block-items, block-blocks, block-leaf, item-done, blocks-none, other-turn, blocks-turn, items-none, items-turn}
use Rattle.blocks.proofs.walk.+walk.Goals as goal

pub validate_block-returns-then-r-eq-LIST : goal.validate_block-returns-then-r-eq-LIST
validate_block-returns-then-r-eq-LIST t c = block-items _ _ c.validate_own.ensures c.if-r-eq-LIST.true c.validate_list_items.ensures

pub validate_block-returns-then-holds_blocks : goal.validate_block-returns-then-holds_blocks
validate_block-returns-then-holds_blocks t c = block-blocks _ _ c.validate_own.ensures c.if-r-eq-LIST.false c.holds_blocks.ensures c.if-holds_blocks.true c.validate_blocks.ensures

pub validate_block-returns : goal.validate_block-returns
validate_block-returns t c = block-leaf _ _ c.validate_own.ensures c.if-r-eq-LIST.false c.holds_blocks.ensures c.if-holds_blocks.false c.skip.ensures

pub validate_blocks-loop-r-init : goal.validate_blocks-loop-r-init
validate_blocks-loop-r-init t c = paced-start _

pub validate_blocks-returns : goal.validate_blocks-returns
validate_blocks-returns t c = loop-end c.loop-r.invariant.loop (blocks-none _ _ _ _) c.in_default.ensures.none

pub validate_list_items-loop-r-init : goal.validate_list_items-loop-r-init
validate_list_items-loop-r-init t c = paced-start _

pub validate_list_items-returns : goal.validate_list_items-returns
validate_list_items-returns t c = loop-end c.loop-r.invariant.loop (items-none _ _ _ _ _) c.in_default.ensures.none

pub validate_blocks-loop-r-preserved : goal.validate_blocks-loop-r-preserved
validate_blocks-loop-r-preserved t c = blocks-turn c.in-Some.ensures.some c.enter.ensures c.leave.ensures _ c.loop-r.invariant c.is_block.ensures (ap not c.if-not-is_block.false) c.validate_taken_block.ensures c.validate_block.ensures c.before_next-before.ensures

pub validate_blocks-loop-r-preserved-then-not-is_block : goal.validate_blocks-loop-r-preserved-then-not-is_block
validate_blocks-loop-r-preserved-then-not-is_block t c = other-turn _ c.loop-r.invariant c.in-Some.ensures.some c.is_block.ensures (ap not c.if-not-is_block.true) c.skip.ensures

pub validate_list_items-loop-r-preserved : goal.validate_list_items-loop-r-preserved
validate_list_items-loop-r-preserved t c = items-turn c.in-Some.ensures.some c.enter.ensures c.leave.ensures _ _ c.loop-r.invariant c.validate_item.ensures

pub validate_item-returns : goal.validate_item-returns
validate_item-returns t c = item-done _ _ _ c.args.r c.item_number.ensures c.validate_item_number.ensures c.validate_item_blank_lines.ensures c.validate_task_item.ensures c.validate_blocks.ensures
