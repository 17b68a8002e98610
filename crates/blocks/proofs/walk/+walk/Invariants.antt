-- The cycle of calls of the block walk: loops from block to block and from item to item, and the walk of each one.
use Prim.Native.Nat.{◌+◌, ◌-◌, ◌*◌}
use Rattle.leaves.specs.Refusal.Limits.{levels_left}
use Rattle.leaves.specs.Sheet.Trees.{trees}
use Rattle.leaves.specs.Report.Listed.{path_of}
use Rattle.inlines.proofs.PathLaws.{Paced}
use Rattle.std.specs.Prelude.{unwrap_or}
use Rattle.blocks.specs.Before.{no_block}
use Rattle.blocks.specs.Walk.{validate_blocks, validate_list_items}
use Rattle.blocks.proofs.walk.+walk.Given as goal

-- the levels left fall from a loop to the records in it, and a record stands just above the loop over its children
abbrev pub decreases-validate_blocks : goal.decreases-validate_blocks
decreases-validate_blocks l = 2 * levels_left l.report.now.level

abbrev pub decreases-validate_block : goal.decreases-validate_block
decreases-validate_block l = 2 * levels_left l.report.now.level + 1

abbrev pub decreases-validate_list_items : goal.decreases-validate_list_items
decreases-validate_list_items l = 2 * levels_left l.report.now.level

abbrev pub decreases-validate_item : goal.decreases-validate_item
decreases-validate_item l = 2 * levels_left l.report.now.level + 1

-- the loops: what holds at their heads, and what falls
abbrev pub invariant-validate_blocks-loop-r : goal.invariant-validate_blocks-loop-r
invariant-validate_blocks-loop-r l =
    let p = l.initial.report in
    let bytes = l.initial.records.bytes.now in
    Paced (validate_blocks bytes (path_of p) 0 no_block (trees l.initial.records p.level)) (validate_blocks bytes (path_of p) l.k (unwrap_or l.before no_block)) l.initial.records l.records p l.report l.k

abbrev pub decreases-validate_blocks-loop-r : goal.decreases-validate_blocks-loop-r
decreases-validate_blocks-loop-r l = l.records.n - l.records.next

abbrev pub invariant-validate_list_items-loop-r : goal.invariant-validate_list_items-loop-r
invariant-validate_list_items-loop-r l =
    let p = l.initial.report in
    let bytes = l.initial.records.bytes.now in
    Paced (validate_list_items bytes (path_of p) 0 l.«list».a l.«list».c (trees l.initial.records p.level)) (validate_list_items bytes (path_of p) l.k l.«list».a l.«list».c) l.initial.records l.records p l.report l.k

abbrev pub decreases-validate_list_items-loop-r : goal.decreases-validate_list_items-loop-r
decreases-validate_list_items-loop-r l = l.records.n - l.records.next
