-- `blocks::item::validate_item_blank_lines` meets its contract.
use Prim.Native.Nat.{◌-◌}
use Rattle.leaves.specs.Sheet.Trees.{trees}
use Rattle.leaves.specs.Report.Listed.{path_of}
use Rattle.inlines.proofs.PathLaws.{Paced}
use Rattle.blocks.specs.WalkAt.{is_last}
use Rattle.blocks.specs.Item.{validate_item_blank_lines}
use Rattle.blocks.proofs.item.validate_item_blank_lines.Given as goal

abbrev pub invariant-loop-r : goal.invariant-loop-r
invariant-loop-r l =
    let p = l.initial.report in
    let last = is_last l.initial.records p.level l.outer in
    Paced (validate_item_blank_lines (path_of p) l.tight last 0 (trees l.initial.records p.level)) (validate_item_blank_lines (path_of p) l.tight last l.k) l.initial.records l.records p l.report l.k

abbrev pub decreases-loop-r : goal.decreases-loop-r
decreases-loop-r l = l.records.n - l.records.next
