-- `leaves::text::columns::write_line` meets its contract.
use Rattle.leaves.proofs.text.ColumnLaws.{inking}
use Rattle.leaves.proofs.text.columns.write_line.Goals as goal

pub loop-word-init : goal.loop-word-init
loop-word-init c = search inking

pub loop-word-preserved : goal.loop-word-preserved
loop-word-preserved c = search inking

pub returns : goal.returns
returns c = search inking
