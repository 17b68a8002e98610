-- `setter::listing::print::write_refusal` meets its contract.
use Rattle.setter.proofs.listing.PrintLaws.{prints-refusal}
use borrow.Author.Rules.{rules}
use Rattle.setter.proofs.listing.print.write_refusal.Goals as goal

pub returns : goal.returns
returns c = prints-refusal _ _ c.write_line.ensures (search rules)
