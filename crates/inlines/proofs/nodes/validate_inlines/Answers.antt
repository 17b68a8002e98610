-- `inlines::nodes::validate_inlines` meets its contract.
use Rattle.inlines.proofs.NodesLaws.{inlines-done}
use Rattle.inlines.proofs.nodes.validate_inlines.Goals as goal

pub returns : goal.returns
returns c = inlines-done c.final_break.ensures c.validate_inline_nodes.ensures
