-- `leaves::sheet::records::span_at` meets its contract.
use Rattle.leaves.specs.Sheet.Records.{record_at}
use Rattle.leaves.proofs.sheet.records.span_at.Goals as goal

pub returns : goal.returns
unfolding record_at
returns c = rw (c.word.ensures, c.word-2.ensures, c.word-3.ensures)
