-- `inlines::node::validate_inline_footnote` meets its contract.
use Rattle.inlines.proofs.ContentLaws.{says_none}
use Rattle.inlines.proofs.node.validate_inline_footnote.Goals as goal

pub returns : goal.returns
returns c = rw (says_none _ _ _ _ c.gather-c.ensures) at c.list_if.ensures
