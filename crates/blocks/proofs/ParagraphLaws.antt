-- A paragraph: whether it is empty, and then its inlines.
use mathlib.Core.Path.{◌≡◌}
use mathlib.Core.Bool.{Bool}
use Prim.Native.Nat.{ℕ}
use Rattle.leaves.specs.declared.sheet.records.Span.{Span}
use Rattle.leaves.specs.Report.Rules
use Rattle.inlines.specs.Nodes.{all_empty, validate_inlines}
use Rattle.blocks.specs.Paragraph.{validate_paragraph}
use Rattle.inlines.specs.Walk.{Walked}
use Rattle.leaves.specs.Sheet.Trees.{trees}
use Rattle.leaves.specs.Report.Entries.{list_if}
use Rattle.leaves.specs.Report.Listed.{path_of, Adds}
use Rattle.leaves.specs.declared.sheet.trees.Records.{Records}
use Rattle.leaves.specs.declared.report.entries.Report.{Report}
use Rattle.leaves.proofs.report.ListedLaws.{adds-then}

pub paragraph-done : (span : Span) {k j : Records} {level : ℕ} {f : Bool} {x y z : Report} → f ≡ all_empty (trees k level) → Adds x y (list_if f Rules.empty_paragraph span (path_of x)) → Walked k j level y z (validate_inlines k.bytes.now (path_of y) (trees k level)) → Adds x z (validate_paragraph k.bytes.now (path_of x) span (trees k level))
unfolding validate_paragraph
paragraph-done span e l d = adds-then (rw e at l) (rw l.path at d.adds)
