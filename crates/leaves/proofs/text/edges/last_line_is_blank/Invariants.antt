-- `leaves::text::edges::last_line_is_blank` meets its contract.
use Rattle.leaves.proofs.text.ScanLaws.{ScanAt}
use Rattle.leaves.specs.Text.EdgeScans.{last_blank}
use mathlib.Core.Bool.{true}
use Rattle.leaves.proofs.text.edges.last_line_is_blank.Given as goal

abbrev pub invariant-loop-i : goal.invariant-loop-i
invariant-loop-i l = ScanAt (last_blank true true l.s) (last_blank l.last l.blank) l.s l.i
