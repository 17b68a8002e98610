-- `blocks::footnote::validate_footnote_definition` meets its contract.
use borrow.Author.Rules.{rules}
use Rattle.leaves.proofs.report.ListedLaws.{adds_both}
use Rattle.blocks.specs.Footnote.{validate_footnote_definition}
use Rattle.blocks.proofs.footnote.validate_footnote_definition.Goals as goal

pub returns : goal.returns
unfolding validate_footnote_definition
returns c = adds_both c.list_if.ensures c.blank_line_at.ensures (search rules)
