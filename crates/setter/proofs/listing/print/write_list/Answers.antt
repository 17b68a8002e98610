-- `setter::listing::print::write_list` meets its contract.
use Rattle.setter.proofs.listing.PrintLaws.{last-room, prints-list}
use borrow.Author.Rules.{rules}
use Rattle.setter.proofs.listing.print.write_list.Goals as goal

pub write_line-requires : goal.write_line-requires
write_line-requires c = last-room _ _ c.write_entries-end.ensures c.requires (search rules) (search rules) (search rules)

pub returns : goal.returns
returns c = prints-list _ _ _ _ c.write_entries-end.ensures c.write_line.ensures c.requires (search rules) (search rules)
