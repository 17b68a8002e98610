-- `blocks::html::validate_tag_pair` meets its contract.
use Rattle.blocks.proofs.HtmlLaws.{tags-law}
use Rattle.blocks.proofs.html.validate_tag_pair.Goals as goal

pub returns : goal.returns
returns c = tags-law _ _ _ _ c.is_empty.ensures c.list_if.ensures c.is_empty-2.ensures c.list_if-2.ensures c.text_of.ensures c.text_of-2.ensures c.same_bytes-same.ensures c.list_if-3.ensures c.is_empty-3.ensures c.list_if-4.ensures c.is_empty-4.ensures c.list_if-5.ensures
