-- `leaves::sheet::records::kind_at` meets its contract.
use Rattle.leaves.specs.Sheet.Records.{record_at}
use Rattle.leaves.proofs.sheet.records.kind_at.Goals as goal

pub returns : goal.returns
unfolding record_at
returns c = c.word.ensures
