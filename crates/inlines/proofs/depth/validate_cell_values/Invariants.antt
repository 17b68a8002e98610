-- `inlines::depth::validate_cell_values` meets its contract.
use Prim.Native.Nat.{◌-◌}
use Rattle.leaves.specs.Sheet.Trees.{trees}
use Rattle.leaves.specs.Report.Listed.{path_of}
use Rattle.inlines.proofs.DepthLaws.{fault_in}
use Rattle.inlines.proofs.WalkLaws.{Loop}
use Rattle.inlines.specs.Depth.{each_record, validate_cell_values}
use Rattle.leaves.specs.Report.Rules
use Rattle.inlines.specs.Values.{is_unwritable}
use Rattle.inlines.proofs.depth.validate_cell_values.Given as goal

abbrev pub invariant-loop-r : goal.invariant-loop-r
invariant-loop-r l =
    let path = path_of l.initial.report in
    Loop (validate_cell_values l.initial.records.bytes.now path (trees l.initial.records l.level)) (each_record (fault_in (is_unwritable l.initial.records.bytes.now) Rules.pipe_in_cell path)) l.level l.initial.records l.records l.initial.report l.report

abbrev pub decreases-loop-r : goal.decreases-loop-r
decreases-loop-r l = l.records.n - l.records.next
