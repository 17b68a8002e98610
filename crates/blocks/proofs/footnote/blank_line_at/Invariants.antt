-- `blocks::footnote::blank_line_at` meets its contract.
use Prim.Native.Nat.{◌-◌}
use Rattle.leaves.specs.Sheet.Trees.{trees}
use Rattle.leaves.specs.Report.Listed.{path_of}
use Rattle.inlines.proofs.PathLaws.{Paced}
use Rattle.blocks.specs.Footnote.{blank_line_at}
use Rattle.blocks.proofs.footnote.blank_line_at.Given as goal

abbrev pub invariant-loop-r : goal.invariant-loop-r
invariant-loop-r l =
    let p = l.initial.report in
    Paced (blank_line_at (path_of p) 0 (trees l.initial.records p.level)) (blank_line_at (path_of p) l.k) l.initial.records l.records p l.report l.k

abbrev pub decreases-loop-r : goal.decreases-loop-r
decreases-loop-r l = l.records.n - l.records.next
