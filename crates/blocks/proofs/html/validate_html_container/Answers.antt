-- `blocks::html::validate_html_container` meets its contract.
use borrow.Author.Rules.{rules}
use Rattle.leaves.proofs.report.ListedLaws.{adds_both, adds-none}
use Rattle.blocks.specs.Html.{validate_html_container}
use Rattle.blocks.proofs.html.validate_html_container.Goals as goal

pub returns-then-r-eq0 : goal.returns-then-r-eq0
unfolding validate_html_container
returns-then-r-eq0 c = adds_both c.validate_tags.ensures adds-none (search rules)

pub returns : goal.returns
unfolding validate_html_container
returns c = adds_both c.validate_tags.ensures c.validate_inlines.ensures.adds (search rules)
