-- `leaves::text::columns::read_line` meets its contract.
use Rattle.leaves.proofs.text.ColumnLaws.{Reading}
use Rattle.leaves.proofs.text.columns.read_line.Given as goal

abbrev pub invariant-loop-k : goal.invariant-loop-k
invariant-loop-k l = Reading l.s l.initial.words l.words l.good l.k
