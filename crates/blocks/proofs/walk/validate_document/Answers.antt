-- `blocks::walk::validate_document` meets its contract.
use borrow.Author.Rules.{rules}
use Rattle.blocks.proofs.DocumentLaws.{document-done}
use Rattle.blocks.proofs.walk.validate_document.Goals as goal

pub returns : goal.returns
returns c = document-done _ c.requires c.of_sheet-records.ensures c.new-report.ensures.words c.new-report.ensures.tally c.new-report.ensures.top c.validate_blocks.ensures (search rules)
