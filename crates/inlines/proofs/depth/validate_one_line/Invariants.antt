-- `inlines::depth::validate_one_line` meets its contract.
use Prim.Native.Nat.{◌-◌}
use Rattle.leaves.specs.Sheet.Trees.{trees}
use Rattle.leaves.specs.Report.Listed.{path_of}
use Rattle.inlines.proofs.DepthLaws.{fault_in}
use Rattle.inlines.proofs.WalkLaws.{Loop}
use Rattle.inlines.specs.Depth.{each_record, validate_one_line}
use Rattle.leaves.specs.Sheet.Classes.{is_break}
use Rattle.inlines.proofs.depth.validate_one_line.Given as goal

abbrev pub invariant-loop-r : goal.invariant-loop-r
invariant-loop-r l =
    let path = path_of l.initial.report in
    Loop (validate_one_line l.rule path (trees l.initial.records l.level)) (each_record (fault_in (λ r. is_break r.kind) l.rule path)) l.level l.initial.records l.records l.initial.report l.report

abbrev pub decreases-loop-r : goal.decreases-loop-r
decreases-loop-r l = l.records.n - l.records.next
