-- `inlines::link::validate_link_text` meets its contract.
use Prim.Native.Nat.{◌-◌}
use Rattle.leaves.specs.Sheet.Trees.{trees}
use Rattle.leaves.specs.Report.Listed.{path_of}
use Rattle.inlines.proofs.WalkLaws.{Loop}
use Rattle.inlines.specs.Link.{validate_link_text}
use Rattle.inlines.proofs.link.validate_link_text.Given as goal

abbrev pub invariant-loop-r : goal.invariant-loop-r
invariant-loop-r l =
    let path = path_of l.initial.report in
    Loop (validate_link_text path (trees l.initial.records l.level)) (validate_link_text path) l.level l.initial.records l.records l.initial.report l.report

abbrev pub decreases-loop-r : goal.decreases-loop-r
decreases-loop-r l = l.records.n - l.records.next
