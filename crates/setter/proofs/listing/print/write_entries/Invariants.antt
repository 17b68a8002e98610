-- `setter::listing::print::write_entries` meets its contract.
use Rattle.setter.proofs.listing.PrintLaws.{Printing}
use Rattle.setter.proofs.listing.print.write_entries.Given as goal

abbrev pub invariant-loop : goal.invariant-loop
invariant-loop l = Printing l.initial.out l.report l.n l.out l.end l.rest l.counter
