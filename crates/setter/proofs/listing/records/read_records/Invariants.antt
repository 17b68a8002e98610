-- `setter::listing::records::read_records` meets its contract.
use Rattle.setter.proofs.listing.RecordLineLaws.{Rows}
use Rattle.setter.proofs.listing.records.read_records.Given as goal

abbrev pub invariant-loop-i : goal.invariant-loop-i
invariant-loop-i l = Rows l.s l.n l.initial.sheet l.sheet l.good l.rest l.i
