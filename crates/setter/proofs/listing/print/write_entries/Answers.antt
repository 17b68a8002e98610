-- `setter::listing::print::write_entries` meets its contract.
use Rattle.setter.proofs.listing.PrintLaws.{printing}
use Rattle.setter.proofs.listing.print.write_entries.Goals as goal

pub write_line-end-requires : goal.write_line-end-requires
write_line-end-requires c = search printing

pub loop-preserved : goal.loop-preserved
loop-preserved c = search printing

pub returns : goal.returns
returns c = search printing
