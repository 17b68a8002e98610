-- `leaves::text::columns::write_line` meets its contract.
use Rattle.leaves.proofs.text.ColumnLaws.{Writing}
use Rattle.leaves.proofs.text.columns.write_line.Given as goal

abbrev pub invariant-loop-word : goal.invariant-loop-word
invariant-loop-word l = Writing l.initial.out l.words l.out l.at l.end l.word-index
