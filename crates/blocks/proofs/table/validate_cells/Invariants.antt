-- `blocks::table::validate_cells` meets its contract.
use Prim.Native.Nat.{◌-◌}
use Rattle.leaves.specs.Sheet.Trees.{trees}
use Rattle.leaves.specs.Report.Listed.{path_of}
use Rattle.inlines.proofs.PathLaws.{Paced}
use Rattle.blocks.specs.Table.{validate_cells}
use Rattle.blocks.proofs.table.validate_cells.Given as goal

abbrev pub invariant-loop-cell : goal.invariant-loop-cell
invariant-loop-cell l =
    let p = l.initial.report in
    let bytes = l.initial.records.bytes.now in
    Paced (validate_cells bytes (path_of p) 0 (trees l.initial.records p.level)) (validate_cells bytes (path_of p) l.k) l.initial.records l.records p l.report l.k

abbrev pub decreases-loop-cell : goal.decreases-loop-cell
decreases-loop-cell l = l.records.n - l.records.next
