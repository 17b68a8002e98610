-- `setter::listing::records::read_records` meets its contract.
use Rattle.setter.proofs.listing.RecordLineLaws.{rows}
use Rattle.setter.proofs.listing.records.read_records.Goals as goal

pub loop-i-preserved : goal.loop-i-preserved
loop-i-preserved c = search rows

pub returns : goal.returns
returns c = search rows
