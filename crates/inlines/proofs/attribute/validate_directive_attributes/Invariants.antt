-- `inlines::attribute::validate_directive_attributes` meets its contract.
use Prim.Native.Nat.{◌-◌}
use Rattle.leaves.specs.Sheet.Trees.{trees}
use Rattle.leaves.specs.Report.Listed.{path_of}
use Rattle.inlines.proofs.WalkLaws.{Loop}
use Rattle.inlines.specs.Attribute.{validate_directive_attributes}
use Rattle.inlines.proofs.attribute.validate_directive_attributes.Given as goal

abbrev pub invariant-loop-r : goal.invariant-loop-r
invariant-loop-r l =
    let path = path_of l.initial.report in
    Loop (validate_directive_attributes l.initial.records.bytes.now path (trees l.initial.records l.level)) (validate_directive_attributes l.initial.records.bytes.now path) l.level l.initial.records l.records l.initial.report l.report

abbrev pub decreases-loop-r : goal.decreases-loop-r
decreases-loop-r l = l.records.n - l.records.next
