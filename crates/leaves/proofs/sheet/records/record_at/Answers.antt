-- `leaves::sheet::records::record_at` meets its contract.
use Rattle.leaves.proofs.sheet.RecordLaws.{record-laws}
use Rattle.leaves.proofs.sheet.records.record_at.Goals as goal

pub returns : goal.returns
returns c = search record-laws
