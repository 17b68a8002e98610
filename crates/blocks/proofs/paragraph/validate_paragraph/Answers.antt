-- `blocks::paragraph::validate_paragraph` meets its contract.
use Rattle.blocks.proofs.ParagraphLaws.{paragraph-done}
use Rattle.blocks.proofs.paragraph.validate_paragraph.Goals as goal

pub returns : goal.returns
returns c = paragraph-done _ c.all_empty-empty.ensures c.list_if.ensures c.validate_inlines.ensures
