-- `blocks::table::validate_rows` meets its contract.
use Prim.Native.Nat.{◌-◌}
use Rattle.leaves.specs.Sheet.Trees.{trees}
use Rattle.leaves.specs.Report.Listed.{path_of}
use Rattle.inlines.proofs.PathLaws.{Paced}
use Rattle.blocks.specs.Table.{validate_rows}
use Rattle.blocks.proofs.table.validate_rows.Given as goal

abbrev pub invariant-loop-row : goal.invariant-loop-row
invariant-loop-row l =
    let p = l.initial.report in
    let bytes = l.initial.records.bytes.now in
    Paced (validate_rows bytes (path_of p) l.width 0 (trees l.initial.records p.level)) (validate_rows bytes (path_of p) l.width l.k) l.initial.records l.records p l.report l.k

abbrev pub decreases-loop-row : goal.decreases-loop-row
decreases-loop-row l = l.records.n - l.records.next
