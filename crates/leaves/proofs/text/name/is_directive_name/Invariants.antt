-- `leaves::text::name::is_directive_name` meets its contract.
use Rattle.leaves.proofs.text.ScanLaws.{ScanAt}
use Rattle.leaves.specs.Text.Name.{is_directive_name}
use Rattle.leaves.specs.Text.NameScans.{name_from}
use Rattle.leaves.proofs.text.name.is_directive_name.Given as goal

abbrev pub invariant-loop-b : goal.invariant-loop-b
invariant-loop-b l = ScanAt (is_directive_name l.s) (name_from l.start) l.s l.b-index
